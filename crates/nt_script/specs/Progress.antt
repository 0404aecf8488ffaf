-- How far a run of a script has come.
use Rattle.std.specs.Prelude.{◌≡◌, ℕ, ◌+◌, ◌<◌, ◌≤◌, List, [], ◌∷◌, length, count_by, is_err, Bool, Option, Some, None, Result, Ok, Err}
use Rattle.std.specs.List.{sum_by}
use Rattle.std.specs.FinMap.{len}
use Rattle.nt_calls.specs.State.{State, opening}
use Rattle.nt_machine.specs.Dispatcher.{state}
use Rattle.nt_calls.specs.Runs.{Turn, Turns, IsTurn, Calls, Ticks}
use Rattle.nt_grammar.specs.declared.fault.LineFault.{LineFault}
use Rattle.nt_grammar.specs.declared.fault.LineFault.TheVariants as fault
use Rattle.nt_script.specs.declared.session.Session.{Session}
use Rattle.nt_script.specs.declared.tally.Tally.{Tally}
use Rattle.nt_grammar.specs.Scope.{Scope}
use Rattle.nt_script.specs.Transcript.{Transcript, LineGives, turn_text}
use Rattle.nt_grammar.specs.Lines.{FaultIn, IsBlankLine, IsOpeningLine, opened_scope}

-- after the `threads` line: what is bound, the machine's state, and what was counted
pub record Progress : Type 0 where
  pub scope : Scope
  pub state : State
  pub tally : Tally

abbrev pub progress : Session → Progress
progress session = record { scope = session.bindings.scope; state = state session.core; tally = session.tally }

-- before the `threads` line there is none
abbrev pub progress_of : Option Session → Option Progress
progress_of None = None
progress_of (Some session) = Some (progress session)

abbrev pub scope_of : Option Progress → Option Scope
scope_of None = None
scope_of (Some now) = Some now.scope

-- ---- counts

abbrev pub is_refused : Turn → Bool
is_refused (Calls who call result grants) = is_err result
is_refused (Ticks by moment result grants) = is_err result

-- how many waits a turn ended
abbrev pub granted_by : Turn → ℕ
granted_by (Calls who call result grants) = length grants
granted_by (Ticks by moment result grants) = length grants

-- how many calls and ticks there were, how many of them were refused, and how many waits they ended
abbrev pub tally_of : List Turn → Tally
tally_of turns = record { calls = length turns; refused = count_by is_refused turns; granted = sum_by granted_by turns }

abbrev pub add_tally : Tally → Tally → Tally
add_tally a b = record { calls = a.calls + b.calls; refused = a.refused + b.refused; granted = a.granted + b.granted }

-- Each call or tick stood on a line of its own before this one, and no more waits ended than began.
pub record ProgressIsCounted (number : ℕ) (now : Progress) : Type 0 where
  pub calls : now.tally.calls < number
  pub refused : now.tally.refused ≤ now.tally.calls
  pub granted : now.tally.granted + len now.state.waits ≤ now.tally.calls

abbrev pub AreCounted : ℕ → Option Progress → Type 0
AreCounted number None = Unit {0}
AreCounted number (Some now) = ProgressIsCounted number now

-- ---- one line

-- what a turn on this line says
abbrev pub turn_said : ℕ → Turn → List ℕ
turn_said line (Calls who call result grants) = turn_text line result grants
turn_said line (Ticks by moment result grants) = turn_text line result grants

-- One turn was made on this line: the machine made it, this is its output, and it was counted.
pub record MakesTurn (line : ℕ) (turn : Turn) (old : Progress) (text : List ℕ) (new : Progress) : Type 0 where
  pub step : IsTurn old.state turn new.state
  pub output : text ≡ turn_said line turn
  pub tally : new.tally ≡ add_tally old.tally (tally_of (turn ∷ []))
  pub counted : ProgressIsCounted (line + 1) new

-- The turns lead from the one to the other.
pub record TurnsLead (old : Progress) (turns : List Turn) (new : Progress) : Type 0 where
  pub run : Turns old.state turns new.state
  pub tally : new.tally ≡ add_tally old.tally (tally_of turns)
  pub threads : new.scope.threads ≡ old.scope.threads

-- as many threads as the line says, and no turn yet
pub record ProgressIsFresh (now : Progress) : Type 0 where
  pub state : now.state ≡ opening now.scope.threads
  pub tally : now.tally ≡ tally_of []

abbrev pub TurnsGo : Option Progress → List Turn → Option Progress → Type 0
TurnsGo None turns None = Unit {0}
TurnsGo None turns (Some new) = ProgressIsFresh new
TurnsGo (Some old) turns None = ⊥
TurnsGo (Some old) turns (Some new) = TurnsLead old turns new

-- One line was carried out.
pub record Advances (line : ℕ) (bytes : List ℕ) (old : Option Progress) (turns : List Turn) (text : List ℕ) (new : Option Progress) : Type 0 where
  pub gives : LineGives line bytes (scope_of old) turns text (scope_of new)
  pub goes : TurnsGo old turns new

-- A line is carried out by some turns, or stops the run.
abbrev pub LineAnswers : ℕ → List ℕ → Option Progress → Result (Unit {0}) LineFault → List ℕ → Option Progress → Type 0
LineAnswers line bytes old (Ok u) text new = ((turns : List Turn) × Advances line bytes old turns text new) × AreCounted (line + 1) new
LineAnswers line bytes old (Err (fault.Script script)) text new = FaultIn (scope_of old) bytes script
LineAnswers line bytes old (Err fault.Memory) text new = Unit {0}

-- A line before `threads` opens a session, or says nothing, or stops the run.
abbrev pub Opens : List ℕ → Result (Option Session) LineFault → Type 0
Opens bytes (Ok None) = IsBlankLine bytes
Opens bytes (Ok (Some session)) = IsOpeningLine session.bindings.scope.threads bytes × (session.bindings.scope ≡ opened_scope session.bindings.scope.threads) × ProgressIsFresh (progress session)
Opens bytes (Err (fault.Script script)) = FaultIn None bytes script
Opens bytes (Err fault.Memory) = Unit {0}

-- ---- all lines so far

abbrev pub Ran : List Turn → Option Progress → Type 0
Ran turns None = turns ≡ []
Ran turns (Some now) = Turns (opening now.scope.threads) turns now.state × (now.tally ≡ tally_of turns)

-- All these lines were carried out, from the first on.
pub record CarriedOut (lines : List (List ℕ)) (turns : List Turn) (text : List ℕ) (now : Option Progress) : Type 0 where
  pub transcript : Transcript 1 None lines turns text (scope_of now)
  pub ran : Ran turns now
