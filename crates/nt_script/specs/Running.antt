-- What a run of a script took, wrote and answered.
use Rattle.std.specs.Prelude.{◌≡◌, ℕ, ◌+◌, ◌<◌, ◌≤◌, ◌⊎◌, List, [], ◌∷◌, ◌++◌, length, take, count_by, ⊤, Option, None, Some, Result, Ok, Err}
use Rattle.std.specs.List.{flat_map, sum_by, AllByRecursion}
use Rattle.std.specs.FinMap.{len}
use Rattle.std.specs.Io.KnownBytes.{Consumes, Appends, Keeps, IsAtEnd}
use Rattle.nt_lines.specs.declared.input.TheConstants.{MAX_LINE}
use Rattle.nt_devices.specs.Device.{AppendsPart, Reading, Writing, one_more}
use Rattle.nt_lines.specs.Lines.{HasNoFeed, lines_of, to_come}
use Rattle.nt_calls.specs.Runs.{Turn}
use Rattle.nt_grammar.specs.Lines.{FaultIn}
use Rattle.nt_script.specs.Transcript.{end_text}
use Rattle.nt_script.specs.Progress.{Progress, progress_of, Advances, AreCounted, CarriedOut, scope_of, is_refused, granted_by}
use Rattle.nt_grammar.specs.declared.fault.ScriptFault.{ScriptFault}
use Rattle.nt_grammar.specs.declared.fault.ScriptFault.TheVariants.{LineTooLong, ThreadsExpected}
use Rattle.nt_script.specs.declared.fault.RunFault.{RunFault}
use Rattle.nt_script.specs.declared.fault.RunFault.TheVariants.{Script, Read, Write, Memory}
use Rattle.nt_script.specs.declared.runner.Runner.{Runner}
use Rattle.nt_script.specs.declared.runner.Taken.{Taken}
use Rattle.nt_script.specs.declared.runner.Taken.TheVariants.{Line, LastLine, Nothing}
use Rattle.nt_script.specs.declared.summary.Summary.{Summary}

-- ---- a whole run

-- where the bytes of a reader are known, they are these
abbrev pub Has : Option (List ℕ) → List ℕ → Type 0
Has None input = ⊤
Has (Some bytes) input = bytes ≡ input

abbrev pub end_of : Progress → List ℕ
end_of now = end_text now.scope.threads now.state

abbrev pub summary_of : List (List ℕ) → List Turn → Progress → Summary
summary_of lines turns now =
    record {
      lines = length lines;
      calls = length turns;
      refused = count_by is_refused turns;
      granted = sum_by granted_by turns;
      pending = len now.state.waits;
    }

-- Every line of the input was carried out, and the end was written.
pub record Completes (left held held' : Option (List ℕ)) (summary : Summary) : Type 0 where
  pub input : List ℕ
  pub turns : List Turn
  pub text : List ℕ
  pub end : Progress
  pub has : Has left input
  pub carried : CarriedOut (lines_of input) turns text (Some end)
  pub written : Appends held held' (text ++ end_of end)
  pub counts : summary ≡ summary_of (lines_of input) turns end

-- The lines before this one were carried out, and this one was not.
pub record Stops (left held held' : Option (List ℕ)) (number : ℕ) (IsCause : List (List ℕ) → Option Progress → List (List ℕ) → Type 0) : Type 0 where
  pub input : List ℕ
  pub turns : List Turn
  pub text : List ℕ
  pub before : List (List ℕ)
  pub after : List (List ℕ)
  pub now : Option Progress
  pub has : Has left input
  pub lines : lines_of input ≡ before ++ after
  pub place : number ≡ 1 + length before
  pub carried : CarriedOut before turns text now
  pub written : Appends held held' text
  pub cause : IsCause before now after

-- the first fault of the next line; or the input ended with no `threads` line
abbrev pub FaultNext : ScriptFault → List (List ℕ) → Option Progress → List (List ℕ) → Type 0
FaultNext fault before now [] = (now ≡ None) × (fault ≡ ThreadsExpected)
FaultNext fault before now (bytes ∷ others) = FaultIn (scope_of now) bytes fault

-- lines, each with its LF
abbrev pub with_feeds : List (List ℕ) → List ℕ
with_feeds lines = flat_map (λ line. line ++ 10 ∷ []) lines

-- The lines before the next were read whole, and of the next a part without its LF: 4096 bytes at most.
abbrev pub ReadsPart : (left left' : Option (List ℕ)) → List (List ℕ) → Option Progress → List (List ℕ) → Type 0
ReadsPart left left' before now after = (part : List ℕ) × HasNoFeed part × (length part ≤ MAX_LINE) × Consumes left left' (with_feeds before ++ part)

abbrev pub AnyCause : List (List ℕ) → Option Progress → List (List ℕ) → Type 0
AnyCause before now after = Unit {0}

-- This output comes next: that of the next line; or, the input being over, that of the end.
abbrev pub OutputNext : ℕ → List (List ℕ) → Option Progress → List ℕ → Type 0
OutputNext number (bytes ∷ others) now output = (turns : List Turn) × (new : Option Progress) × Advances number bytes now turns output new
OutputNext number [] None output = ⊥
OutputNext number [] (Some now) output = output ≡ end_of now

-- The lines before this one were carried out and their output written whole; of the output that comes next a part was written.
pub record Breaks (left held held' : Option (List ℕ)) (number : ℕ) : Type 0 where
  pub input : List ℕ
  pub turns : List Turn
  pub text : List ℕ
  pub output : List ℕ
  pub before : List (List ℕ)
  pub after : List (List ℕ)
  pub now : Option Progress
  pub taken : ℕ
  pub has : Has left input
  pub lines : lines_of input ≡ before ++ after
  pub place : number ≡ 1 + length before
  pub carried : CarriedOut before turns text now
  pub next : OutputNext number after now output
  pub written : Appends held held' (text ++ take taken output)
  pub not_whole : taken < length output

-- What the reader had left and has left, and what the writer held and holds, when a run ends so.
abbrev pub Answers : (left left' held held' : Option (List ℕ)) → Result Summary RunFault → Type 0
Answers left left' held held' (Ok summary) = Completes left held held' summary
Answers left left' held held' (Err (Script number fault)) = Stops left held held' number (FaultNext fault)
Answers left left' held held' (Err (Read number)) = Stops left held held' number (ReadsPart left left')
Answers left left' held held' (Err (Memory number)) = Stops left held held' number AnyCause
Answers left left' held held' (Err (Write number)) = Breaks left held held' number

-- A device's count of failures grows by one where it is the fault, and stays otherwise.
abbrev pub CountsFaults : {X : Type 0} → ℕ → ℕ → ℕ → ℕ → Result X RunFault → Type 0
CountsFaults read read' written written' (Err (Read number)) = (read' ≡ one_more read) × (written' ≡ written)
CountsFaults read read' written written' (Err (Write number)) = (read' ≡ read) × (written' ≡ one_more written)
CountsFaults read read' written written' (Err (Script number fault)) = (read' ≡ read) × (written' ≡ written)
CountsFaults read read' written written' (Err (Memory number)) = (read' ≡ read) × (written' ≡ written)
CountsFaults read read' written written' (Ok x) = (read' ≡ read) × (written' ≡ written)

-- The reader failed once where that is the fault, and the writer where that is; neither failed otherwise.
abbrev pub CountsFailures : {X : Type 0} → ℕ → ℕ → ℕ → ℕ → Result X RunFault → Type 0
CountsFailures read read' written written' (Err (Read number)) = (read' ≡ read + 1) × (written' ≡ written)
CountsFailures read read' written written' (Err (Write number)) = (read' ≡ read) × (written' ≡ written + 1)
CountsFailures read read' written written' (Err (Script number fault)) = (read' ≡ read) × (written' ≡ written)
CountsFailures read read' written written' (Err (Memory number)) = (read' ≡ read) × (written' ≡ written)
CountsFailures read read' written written' (Ok x) = (read' ≡ read) × (written' ≡ written)

-- ---- one line

-- One line was taken: with its LF, or as the last.
abbrev pub TakesLine : Option (List ℕ) → Option (List ℕ) → List ℕ → Type 0
TakesLine left left' line = HasNoFeed line × (Consumes left left' (line ++ 10 ∷ []) ⊎ (0 < length line × Consumes left left' line × IsAtEnd left'))

-- This line was carried out and its text written.
pub record Carries (number : ℕ) (old new : Option Progress) (held held' : Option (List ℕ)) (line : List ℕ) : Type 0 where
  pub turns : List Turn
  pub text : List ℕ
  pub written : Appends held held' text
  pub advances : Advances number line old turns text new
  pub counted : AreCounted (number + 1) new

-- A fault was found in the line; or its first 4097 bytes have no LF among them.
abbrev pub FindsFault : Option (List ℕ) → Option (List ℕ) → Option Progress → ScriptFault → Type 0
FindsFault left left' old fault =
    ((line : List ℕ) × TakesLine left left' line × FaultIn (scope_of old) line fault)
    ⊎ ((line : List ℕ) × HasNoFeed line × (length line ≡ MAX_LINE + 1) × Consumes left left' line × (fault ≡ LineTooLong))

-- the line was carried out, and its text not written whole
pub record FailsIn (number : ℕ) (old new : Option Progress) (left left' held held' : Option (List ℕ)) : Type 0 where
  pub line : List ℕ
  pub turns : List Turn
  pub text : List ℕ
  pub taken : TakesLine left left' line
  pub advances : Advances number line old turns text new
  pub written : AppendsPart held held' text

-- All of an output was written; or a part of it, and the fault tells this line.
abbrev pub WritesOutput : ℕ → List ℕ → Option (List ℕ) → Option (List ℕ) → ℕ → ℕ → Result (Unit {0}) RunFault → Type 0
WritesOutput number output held held' failed failed' (Ok done) = Appends held held' output × (failed' ≡ failed)
WritesOutput number output held held' failed failed' (Err (Write place)) = (place ≡ number) × AppendsPart held held' output × (failed' ≡ one_more failed)
WritesOutput number output held held' failed failed' (Err fault) = ⊥

-- A line was carried out and written, or why not.
abbrev pub WritesLine : ℕ → List ℕ → Option Progress → Option Progress → Option (List ℕ) → Option (List ℕ) → Result (Unit {0}) RunFault → Type 0
WritesLine number line old new held held' (Ok done) = Carries number old new held held' line
WritesLine number line old new held held' (Err (Script place fault)) = (place ≡ number) × FaultIn (scope_of old) line fault × Keeps held held'
WritesLine number line old new held held' (Err (Memory place)) = (place ≡ number) × Keeps held held'
WritesLine number line old new held held' (Err (Write place)) = (place ≡ number) × ((turns : List Turn) × (text : List ℕ) × Advances number line old turns text new × AppendsPart held held' text)
WritesLine number line old new held held' (Err (Read place)) = ⊥

-- The next line was taken and carried out, or there was none, or why the run ends here.
abbrev pub TakesNext : ℕ → Option Progress → Option Progress → Option (List ℕ) → Option (List ℕ) → Option (List ℕ) → Option (List ℕ) → Result Taken RunFault → Type 0
TakesNext number old new left left' held held' (Ok Line) = (line : List ℕ) × HasNoFeed line × Consumes left left' (line ++ 10 ∷ []) × Carries number old new held held' line
TakesNext number old new left left' held held' (Ok LastLine) =
    (line : List ℕ) × HasNoFeed line × (0 < length line) × Consumes left left' line × IsAtEnd left' × Carries number old new held held' line
TakesNext number old new left left' held held' (Ok Nothing) = Keeps left left' × IsAtEnd left' × Keeps held held' × (new ≡ old)
TakesNext number old new left left' held held' (Err (Script place fault)) = (place ≡ number) × FindsFault left left' old fault × Keeps held held'
TakesNext number old new left left' held held' (Err (Read place)) = (place ≡ number) × ((part : List ℕ) × HasNoFeed part × (length part ≤ MAX_LINE) × Consumes left left' part) × Keeps held held'
TakesNext number old new left left' held held' (Err (Memory place)) = (place ≡ number) × ((bytes : List ℕ) × Consumes left left' bytes) × Keeps held held'
TakesNext number old new left left' held held' (Err (Write place)) = (place ≡ number) × FailsIn number old new left left' held held'

-- The same of a runner, with what it read ahead, between a reader and a writer.
abbrev pub RunnerTakesNext : ℕ → (old new : Runner) → (reader reader' : Reading) → (writer writer' : Writing) → Result Taken RunFault → Type 0
RunnerTakesNext number old new reader reader' writer writer' result =
    TakesNext number (progress_of old.session) (progress_of new.session) (to_come old.input reader.left) (to_come new.input reader'.left) writer.held writer'.held result

-- Where a read failed, nothing is left of what was read before.
abbrev pub NothingAhead : List ℕ → RunFault → Type 0
NothingAhead ahead (Read place) = ahead ≡ []
NothingAhead ahead (Script place fault) = Unit {0}
NothingAhead ahead (Memory place) = Unit {0}
NothingAhead ahead (Write place) = Unit {0}

-- These whole lines were taken and carried out so far.
pub record SoFar (number : ℕ) (now : Option Progress) (left left' held held' : Option (List ℕ)) : Type 0 where
  pub lines : List (List ℕ)
  pub turns : List Turn
  pub text : List ℕ
  pub feedless : AllByRecursion HasNoFeed lines
  pub place : number ≡ 1 + length lines
  pub taken : Consumes left left' (with_feeds lines)
  pub written : Appends held held' text
  pub carried : CarriedOut lines turns text now
  pub counted : AreCounted number now

-- ---- the end

-- All lines of the input were carried out.
pub record Whole (count : ℕ) (now : Option Progress) (left held held' : Option (List ℕ)) : Type 0 where
  pub input : List ℕ
  pub turns : List Turn
  pub text : List ℕ
  pub has : Has left input
  pub counted : count ≡ length (lines_of input)
  pub carried : CarriedOut (lines_of input) turns text now
  pub written : Appends held held' text

-- The lines before this one were carried out; or all were, so many; or why the run ended before it.
abbrev pub Passes : ℕ → (new : Runner) → (reader reader' : Reading) → (writer writer' : Writing) → Result (Option ℕ) RunFault → Type 0
Passes number new reader reader' writer writer' (Ok None) = SoFar number (progress_of new.session) reader.left (to_come new.input reader'.left) writer.held writer'.held
Passes number new reader reader' writer writer' (Ok (Some count)) = Whole count (progress_of new.session) reader.left writer.held writer'.held
Passes number new reader reader' writer writer' (Err fault) = Answers reader.left reader'.left writer.held writer'.held (Err fault)

abbrev pub summary_at : ℕ → Progress → Summary
summary_at lines now =
    record { lines = lines; calls = now.tally.calls; refused = now.tally.refused; granted = now.tally.granted; pending = len now.state.waits }

-- The end was written after so many lines, or why not.
abbrev pub RunEnds : ℕ → Option Progress → Option (List ℕ) → Option (List ℕ) → Result Summary RunFault → Type 0
RunEnds lines None held held' (Err (Script place fault)) = (place ≡ 1 + lines) × (fault ≡ ThreadsExpected) × Keeps held held'
RunEnds lines (Some now) held held' (Ok summary) = (summary ≡ summary_at lines now) × Appends held held' (end_of now)
RunEnds lines (Some now) held held' (Err (Memory place)) = (place ≡ 1 + lines) × Keeps held held'
RunEnds lines (Some now) held held' (Err (Write place)) = (place ≡ 1 + lines) × AppendsPart held held' (end_of now)
RunEnds lines now held held' result = ⊥
