-- The report of a script that was run up to a line.
use Rattle.std.specs.Prelude.{◌≡◌, ℕ, ◌++◌, ◌↔◌, Bool, true, List, length, Option, Some, Result, Ok, Err, MatchOption, codes}
use Rattle.std.specs.Fmt.{decimal}
use Rattle.nt_status.specs.declared.limits.TheConstants.{MAX_MOMENT}
use Rattle.nt_calls.specs.Steps.{IsNextMoment, NothingDue}
use Rattle.nt_calls.specs.State.{State}
use Rattle.nt_look.specs.Hangs.{unmarked, IsStuck}
use Rattle.nt_script.specs.Progress.{Progress}
use Rattle.nt_script.specs.declared.fault.RunFault.{RunFault}
use Rattle.nt_script.specs.declared.fault.RunFault.TheVariants.{Script, Read, Write, Memory}
use Rattle.nt_hangs.specs.declared.reports.Report.{Report}
use Rattle.nt_hangs.specs.declared.reports.Found.{Found}
use Rattle.nt_hangs.specs.Watching.{Seen, SeesAll, StopsAt, unseen}
use Rattle.nt_hangs.specs.Absent.{AreAbsent, AreHeld}
use Rattle.nt_wording.specs.Waits.{waiters_text}
use Rattle.nt_wording.specs.Verdicts.{verdict_text, code_of}

-- the file's name, and the number of its last line
abbrev pub place_text : List ℕ → ℕ → List ℕ
place_text file count = (file ++ codes ":") ++ (decimal count ++ codes ": ")

-- the place, and the verdict
abbrev pub head_text : List ℕ → ℕ → State → List ℕ → Bool → List Bool → Option ℕ → List ℕ
head_text file count s told stuck knot next = place_text file count ++ (verdict_text s told stuck knot next ++ codes "\n")

-- the place, the verdict, and a line for each thread that waits
abbrev pub report_text : List ℕ → ℕ → Progress → (since objects told : List ℕ) → Bool → List Bool → Option ℕ → List ℕ
report_text file count now since objects told stuck knot next =
    head_text file count now.state told stuck knot next ++ waiters_text now objects told since now.state.threads

-- This is the report of that state, with its exit status: what it says of waits that never end is so, where the marked threads make no call.
pub record IsReport (file : List ℕ) (count : ℕ) (now : Progress) (since objects told : List ℕ) (absent : List Bool) (text : List ℕ) (code : ℕ) : Type 0 where
  pub stuck : Bool
  pub knot : List Bool
  pub next : Option ℕ
  pub is_stuck : (stuck ≡ true) ↔ IsStuck (unmarked absent) now.state
  pub is_knot : AreHeld (unmarked absent) now.state knot
  pub is_next : MatchOption next (NothingDue now.state MAX_MOMENT) (IsNextMoment now.state MAX_MOMENT)
  pub says : text ≡ report_text file count now since objects told stuck knot next
  pub is : code ≡ code_of now.state stuck knot

-- the report of what is seen after so many lines, where the marked threads make no call
abbrev pub ReportsOf : List ℕ → ℕ → Seen → List Bool → Report → Type 0
ReportsOf file count seen absent report =
    (now : Progress) × (seen.now ≡ Some now) × IsReport file count now seen.since seen.objects seen.told absent report.text.items report.code

-- a line has a fault, or memory was refused
abbrev pub Stops : List (List ℕ) → RunFault → Type 0
Stops lines (Script number fault) = StopsAt number fault lines
Stops lines (Memory number) = Unit {0}
Stops lines (Read number) = ⊥
Stops lines (Write number) = ⊥

-- These lines were carried out, this is seen then, and this is its report; or a line has a fault; or memory was refused.
abbrev pub ReportsSeen : List ℕ → List (List ℕ) → Seen → List Bool → Result Report RunFault → Type 0
ReportsSeen file lines seen absent (Ok report) = SeesAll 1 unseen lines seen × ReportsOf file (length lines) seen absent report
ReportsSeen file lines seen absent (Err fault) = Stops lines fault

-- The same, with the calls that were refused.
abbrev pub FindsSeen : List ℕ → List (List ℕ) → Seen → List Bool → Result Found RunFault → Type 0
FindsSeen file lines seen absent (Ok found) = SeesAll 1 unseen lines seen × ReportsOf file (length lines) seen absent found.report
FindsSeen file lines seen absent (Err fault) = Stops lines fault

-- These lines of the script were carried out, and this is the report of what is seen then, where threads that are none of the script's make no
-- call; or there is none.
abbrev pub Reports : List ℕ → (lines script : List (List ℕ)) → Result Found RunFault → Type 0
Reports file lines script (Ok found) =
    (seen : Seen) × (absent : List Bool) × AreAbsent script absent × SeesAll 1 unseen lines seen × ReportsOf file (length lines) seen absent found.report
Reports file lines script (Err fault) = Stops lines fault
