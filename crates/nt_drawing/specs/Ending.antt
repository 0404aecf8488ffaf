-- How a timeline that is drawn into a file ends.
use Rattle.std.specs.Prelude.{◌≡◌, ◌⊎◌, ℕ, Bool, List, Result, Ok, Err, codes}
use Rattle.nt_devices.specs.Device.{Says, Writing}
use Rattle.nt_lines.specs.Lines.{lines_of}
use Rattle.nt_script.specs.declared.fault.RunFault.{RunFault}
use Rattle.nt_hangs.specs.declared.reports.Found.{Found}
use Rattle.nt_hangs.specs.Watching.{before_zero}
use Rattle.nt_hangs.specs.Ending.{SaysMemory, ShowsFound, TellsFault}
use Rattle.nt_timeline.specs.declared.timeline.Outcome.{Outcome}
use Rattle.nt_timeline.specs.declared.timeline.Outcome.TheVariants.{Shown, Lacking}
use Rattle.nt_timeline.specs.Ending.{IsOutcome}

-- A line is said, and the exit status is 1.
abbrev pub DrawingFails : List ℕ → (errors errors' : Writing) → (status : ℕ) → Type 0
DrawingFails line errors errors' status = Says errors errors' line × (status ≡ 1)

-- The drawing was handed on to a new file, or was not, and that is said.
abbrev pub Draws : Found → Bool → (errors errors' : Writing) → (status : ℕ) → Type 0
Draws found strict errors errors' status = (writer writer' : Writing) × ShowsFound found strict writer writer' errors errors' status

-- The drawing was made; or it is said that its file can't be created.
abbrev pub Creates : Found → Bool → (errors errors' : Writing) → (status : ℕ) → Type 0
Creates found strict errors errors' status =
    Draws found strict errors errors' status ⊎ DrawingFails (codes "ntlook: cannot create\n") errors errors' status

-- A drawing was made, or it is said that its file can't be created; or it is said what there is, or why there is none.
abbrev pub CreatesOrTells : Result Outcome RunFault → Bool → (errors errors' : Writing) → (status : ℕ) → Type 0
CreatesOrTells (Ok (Shown found)) strict errors errors' status = Creates found strict errors errors' status
CreatesOrTells (Ok (Lacking lines)) strict errors errors' status = Says errors errors' lines.items × (status ≡ 2)
CreatesOrTells (Err fault) strict errors errors' status = TellsFault fault errors errors' status

-- The same of the script in these bytes.
pub record DrawsInput (input : List ℕ) (strict : Bool) (errors errors' : Writing) (status : ℕ) : Type 0 where
  pub outcome : Result Outcome RunFault
  pub is : IsOutcome (lines_of (before_zero input)) outcome
  pub tells : CreatesOrTells outcome strict errors errors' status

-- The same of some bytes; or it is said that the file can't be opened, the read failed, or memory ran out.
pub record DrawingEnds (strict : Bool) (errors errors' : Writing) (status : ℕ) : Type 0 where
  pub either :
      ((input : List ℕ) × DrawsInput input strict errors errors' status)
      ⊎ (DrawingFails (codes "ntlook: cannot open\n") errors errors' status
      ⊎ (DrawingFails (codes "ntlook: read failed\n") errors errors' status
      ⊎ SaysMemory errors errors' status))
