-- How lines are taken, and the watch of a script goes on, line by line. No public clause cites this.
use Rattle.std.specs.Prelude.{◌≡◌, ℕ, ◌+◌, ◌≤◌, ◌==◌, ◌++◌, Bool, false, List, length, Option, Some, None, Result, Ok, Err}
use Rattle.nt_status.specs.declared.limits.TheConstants.{MAX_THREADS}
use Rattle.nt_lines.specs.Lines.{lines_of}
use Rattle.nt_script.specs.Progress.{AreCounted, Progress, scope_of}
use Rattle.nt_grammar.specs.Lines.{FaultIn}
use Rattle.nt_grammar.specs.declared.fault.LineFault.{LineFault}
use Rattle.nt_grammar.specs.declared.fault.LineFault.TheVariants as line
use Rattle.nt_script.specs.declared.fault.RunFault.{RunFault}
use Rattle.nt_script.specs.declared.fault.RunFault.TheVariants.{Script, Read, Write, Memory}
use Rattle.nt_hangs.specs.Taking.{TakesAll}
use Rattle.nt_hangs.specs.Watching.{Seen, SeesAll, StopsAt, unseen}

-- the line has this first fault, or memory was refused
abbrev pub LineHasFault : Option Progress → List ℕ → LineFault → Type 0
LineHasFault now bytes (line.Script fault) = FaultIn (scope_of now) bytes fault
LineHasFault now bytes line.Memory = Unit {0}

-- the same, with the line's number
abbrev pub IsFaultOf : ℕ → Option Progress → List ℕ → RunFault → Type 0
IsFaultOf number now bytes (Script place fault) = (place ≡ number) × FaultIn (scope_of now) bytes fault
IsFaultOf number now bytes (Memory place) = Unit {0}
IsFaultOf number now bytes (Read place) = ⊥
IsFaultOf number now bytes (Write place) = ⊥

-- whether the line with this number was the last to be taken
abbrev pub is_last : Option ℕ → ℕ → Bool
is_last None count = false
is_last (Some last) count = last == count

-- no more lines were taken than were to be
abbrev pub IsWithin : Option ℕ → ℕ → Type 0
IsWithin None count = Unit {0}
IsWithin (Some last) count = count ≤ last

-- so many of the lines were taken, and these bytes are left
pub record TakenSoFar {S : Type 0} (IsReady : ℕ → S → Type 0) (Takes : ℕ → List ℕ → S → S → Type 0) (input rest : List ℕ) (last : Option ℕ) (count : ℕ) (old now : S) : Type 0 where
  pub before : List (List ℕ)
  pub lines : lines_of input ≡ before ++ lines_of rest
  pub place : count ≡ length before
  pub takes : TakesAll Takes 1 old before now
  pub ready : IsReady (count + 1) now
  pub within : IsWithin last count
  pub few : count + length rest ≤ length input

-- the next line of a script that is watched may be carried out
abbrev pub IsReadyFor : ℕ → Seen → Type 0
IsReadyFor number seen = AreCounted number seen.now × (length seen.since ≡ MAX_THREADS)

-- all of these lines were seen, so many; or one has a fault, or memory was refused
abbrev pub WatchesLines : List (List ℕ) → Result ℕ RunFault → Seen → Type 0
WatchesLines lines (Ok count) seen = SeesAll 1 unseen lines seen × (count ≡ length lines)
WatchesLines lines (Err (Script number fault)) seen = StopsAt number fault lines
WatchesLines lines (Err (Memory number)) seen = Unit {0}
WatchesLines lines (Err (Read number)) seen = ⊥
WatchesLines lines (Err (Write number)) seen = ⊥
