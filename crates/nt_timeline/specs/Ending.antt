-- How `ntlook timeline` ends.
use Rattle.std.specs.Prelude.{◌≡◌, ◌⊎◌, ℕ, Bool, List, Result, Ok, Err, codes}
use Rattle.std.specs.Io.KnownBytes.{Keeps}
use Rattle.nt_devices.specs.Device.{Reading, Says, Writing, one_more}
use Rattle.nt_lines.specs.Lines.{lines_of}
use Rattle.nt_script.specs.Running.{Has}
use Rattle.nt_script.specs.declared.fault.RunFault.{RunFault}
use Rattle.nt_hangs.specs.Reports.{Stops}
use Rattle.nt_hangs.specs.Watching.{before_zero, unseen, Seen, SeesAll}
use Rattle.nt_hangs.specs.Ending.{SaysMemory, ShowsFound, TellsFault}
use Rattle.nt_timeline.specs.declared.timeline.Outcome.{Outcome}
use Rattle.nt_timeline.specs.declared.timeline.Outcome.TheVariants.{Shown, Lacking}

-- What is told of a run: a timeline, with exit status 0; or what there is in place of what was asked for.
abbrev pub IsTold : Outcome → Type 0
IsTold (Shown found) = found.report.code ≡ 0
IsTold (Lacking lines) = Unit {0}

-- What a run of these lines comes to: all were carried out, and that is told of; or one has a fault, the first; or memory was refused.
abbrev pub IsOutcome : List (List ℕ) → Result Outcome RunFault → Type 0
IsOutcome lines (Ok outcome) = (seen : Seen) × SeesAll 1 unseen lines seen × IsTold outcome
IsOutcome lines (Err fault) = Stops lines fault

-- The timeline was handed on; or nothing was written, and it is said what there is, or why there is none.
abbrev pub TellsOutcome : Result Outcome RunFault → Bool → (writer writer' errors errors' : Writing) → (status : ℕ) → Type 0
TellsOutcome (Ok (Shown found)) strict writer writer' errors errors' status = ShowsFound found strict writer writer' errors errors' status
TellsOutcome (Ok (Lacking lines)) strict writer writer' errors errors' status =
    Keeps writer.held writer'.held × (writer'.failed ≡ writer.failed) × Says errors errors' lines.items × (status ≡ 2)
TellsOutcome (Err fault) strict writer writer' errors errors' status =
    Keeps writer.held writer'.held × (writer'.failed ≡ writer.failed) × TellsFault fault errors errors' status

-- The same of the script in these bytes.
pub record TellsTimeline (input : List ℕ) (strict : Bool) (writer writer' errors errors' : Writing) (status : ℕ) : Type 0 where
  pub outcome : Result Outcome RunFault
  pub is : IsOutcome (lines_of (before_zero input)) outcome
  pub tells : TellsOutcome outcome strict writer writer' errors errors' status

-- All was read, and told of; or nothing was written, and it is said that the read failed or memory ran out.
pub record TimelineEnds (strict : Bool) (reader reader' : Reading) (writer writer' errors errors' : Writing) (status : ℕ) : Type 0 where
  pub either :
      ((input : List ℕ) × Has reader.left input × (reader'.failed ≡ reader.failed) × TellsTimeline input strict writer writer' errors errors' status)
      ⊎ (Keeps writer.held writer'.held × (writer'.failed ≡ writer.failed)
      × (((reader'.failed ≡ one_more reader.failed) × Says errors errors' (codes "ntlook: read failed\n") × (status ≡ 1))
      ⊎ ((reader'.failed ≡ reader.failed) × SaysMemory errors errors' status)))

-- It is said that the file can't be opened, and nothing was written; or the script in it was told of.
pub record TimelineTold (strict : Bool) (writer writer' errors errors' : Writing) (status : ℕ) : Type 0 where
  pub either :
      (Says errors errors' (codes "ntlook: cannot open\n") × (status ≡ 1) × Keeps writer.held writer'.held × (writer'.failed ≡ writer.failed))
      ⊎ ((reader reader' : Reading) × TimelineEnds strict reader reader' writer writer' errors errors' status)
