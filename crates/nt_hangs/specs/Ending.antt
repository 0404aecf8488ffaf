-- How `ntlook why` ends.
use Rattle.std.specs.Prelude.{◌≡◌, ◌⊎◌, ◌&&◌, ℕ, nat_lt, Bool, true, false, List, [], ◌∷◌, ◌++◌, length, Option, Some, None, Result, Ok, Err, if◌then◌else◌, codes}
use Rattle.std.specs.Fmt.{decimal}
use Rattle.std.specs.Io.KnownBytes.{Appends, Keeps}
use Rattle.nt_devices.specs.Device.{AppendsPart, Reading, Says, Writing, one_more}
use Rattle.nt_lines.specs.Lines.{lines_of}
use Rattle.nt_script.specs.Message.{fault_text}
use Rattle.nt_script.specs.Running.{Has}
use Rattle.nt_script.specs.declared.fault.RunFault.{RunFault}
use Rattle.nt_script.specs.declared.fault.RunFault.TheVariants.{Script, Read, Write, Memory}
use Rattle.nt_hangs.specs.declared.reports.Found.{Found}
use Rattle.nt_hangs.specs.Watching.{before_zero, lines_up_to}
use Rattle.nt_hangs.specs.Reports.{Reports}

-- ---- what is said on standard error

-- It is said that memory ran out, and the exit status is 1.
abbrev pub SaysMemory : (errors errors' : Writing) → (status : ℕ) → Type 0
SaysMemory errors errors' status = Says errors errors' (codes "ntlook: out of memory\n") × (status ≡ 1)

-- the line that tells why a run ended
abbrev pub hang_message : RunFault → List ℕ
hang_message fault = codes "ntlook: " ++ (fault_text fault ++ (10 ∷ []))

-- 2 where the script has a fault, 1 where memory was refused
abbrev pub hang_status : RunFault → ℕ
hang_status (Script line fault) = 2
hang_status (Read line) = 1
hang_status (Write line) = 1
hang_status (Memory line) = 1

-- It is said why the run ended, or that memory ran out for that too.
abbrev pub TellsFault : RunFault → (errors errors' : Writing) → (status : ℕ) → Type 0
TellsFault fault errors errors' status = (Says errors errors' (hang_message fault) × (status ≡ hang_status fault)) ⊎ SaysMemory errors errors' status

-- ---- what is written

-- The report was handed on, and nothing was said; or it was not, and that is said.
abbrev pub Shows : List ℕ → ℕ → (writer writer' errors errors' : Writing) → (status : ℕ) → Type 0
Shows text code writer writer' errors errors' status =
    (Appends writer.held writer'.held text × (writer'.failed ≡ writer.failed) × (writer'.handed_on ≡ true) × Keeps errors.held errors'.held × (errors'.failed ≡ errors.failed) × (status ≡ code))
    ⊎ ((AppendsPart writer.held writer'.held text ⊎ Appends writer.held writer'.held text)
    × (writer'.failed ≡ one_more writer.failed) × Says errors errors' (codes "ntlook: write failed\n") × (status ≡ 1))

-- The exit status of a report where so many calls were refused: 2 where one was, if that counts as a fault.
abbrev pub refused_code : Bool → ℕ → ℕ → ℕ
refused_code strict refused code = if nat_lt 0 refused && strict then 2 else code

-- A line is said where calls were refused.
abbrev pub Warns : Bool → List ℕ → ℕ → (errors errors' : Writing) → (status : ℕ) → Type 0
Warns false line code errors errors' status = Keeps errors.held errors'.held × (errors'.failed ≡ errors.failed) × (status ≡ code)
Warns true line code errors errors' status = Says errors errors' line × (status ≡ code)

-- The report was handed on, and a line was said where calls were refused; or it was not handed on, and that is said.
abbrev pub ShowsFound : Found → Bool → (writer writer' errors errors' : Writing) → (status : ℕ) → Type 0
ShowsFound found strict writer writer' errors errors' status =
    (Appends writer.held writer'.held found.report.text.items × (writer'.failed ≡ writer.failed) × (writer'.handed_on ≡ true)
    × Warns (nat_lt 0 found.refused) found.line.items (refused_code strict found.refused found.report.code) errors errors' status)
    ⊎ ((AppendsPart writer.held writer'.held found.report.text.items ⊎ Appends writer.held writer'.held found.report.text.items)
    × (writer'.failed ≡ one_more writer.failed) × Says errors errors' (codes "ntlook: write failed\n") × (status ≡ 1))

-- ---- a line that there is not

-- the line that is asked for is after the last
abbrev pub is_past : Option ℕ → ℕ → Bool
is_past None count = false
is_past (Some last) count = nat_lt count last

-- It is said that there is no such line, or that memory ran out for that.
abbrev pub SaysPast : (line : List ℕ) → (errors errors' : Writing) → (status : ℕ) → Type 0
SaysPast line errors errors' status = (Says errors errors' line × (status ≡ 2)) ⊎ SaysMemory errors errors' status

-- what is said of a line that there is not, and how many there are
abbrev pub past_text : Option ℕ → ℕ → List ℕ
past_text None count = []
past_text (Some last) count =
    codes "ntlook: --at " ++ (decimal last ++ (codes ": no such line\n  the script has lines 1 to " ++ (decimal count ++ codes "\n")))

-- ---- a whole run

-- The report of the script in these bytes was shown; or nothing was written, and it is said why there is none.
abbrev pub TellsFound : Result Found RunFault → Bool → (writer writer' errors errors' : Writing) → (status : ℕ) → Type 0
TellsFound (Ok found) strict writer writer' errors errors' status = ShowsFound found strict writer writer' errors errors' status
TellsFound (Err fault) strict writer writer' errors errors' status =
    Keeps writer.held writer'.held × (writer'.failed ≡ writer.failed) × TellsFault fault errors errors' status

-- The same, unless the line that is asked for is after the last: then that is said, and nothing was written.
abbrev pub TellsAsked : Bool → List ℕ → Result Found RunFault → Bool → (writer writer' errors errors' : Writing) → (status : ℕ) → Type 0
TellsAsked false past outcome strict writer writer' errors errors' status = TellsFound outcome strict writer writer' errors errors' status
TellsAsked true past (Ok found) strict writer writer' errors errors' status =
    Keeps writer.held writer'.held × (writer'.failed ≡ writer.failed) × SaysPast past errors errors' status
TellsAsked true past (Err fault) strict writer writer' errors errors' status = TellsFound (Err fault) strict writer writer' errors errors' status

-- What is told of a script with these bytes, which was run up to that line.
pub record TellsInput (file input : List ℕ) (last : Option ℕ) (strict : Bool) (writer writer' errors errors' : Writing) (status : ℕ) : Type 0 where
  pub outcome : Result Found RunFault
  pub reports : Reports file (lines_up_to last (lines_of (before_zero input))) (lines_of (before_zero input)) outcome
  pub tells : TellsAsked (is_past last (length (lines_of (before_zero input)))) (past_text last (length (lines_of (before_zero input)))) outcome strict writer writer' errors errors' status

-- All was read, and told of; or nothing was written, and it is said that the read failed or memory ran out.
pub record WhyEnds (file : List ℕ) (last : Option ℕ) (strict : Bool) (reader reader' : Reading) (writer writer' errors errors' : Writing) (status : ℕ) : Type 0 where
  pub either :
      ((input : List ℕ) × Has reader.left input × (reader'.failed ≡ reader.failed) × TellsInput file input last strict writer writer' errors errors' status)
      ⊎ (Keeps writer.held writer'.held × (writer'.failed ≡ writer.failed)
      × (((reader'.failed ≡ one_more reader.failed) × Says errors errors' (codes "ntlook: read failed\n") × (status ≡ 1))
      ⊎ ((reader'.failed ≡ reader.failed) × SaysMemory errors errors' status)))

-- It is said that the file can't be opened, and nothing was written; or the script in it was told of.
pub record FileTold (file : List ℕ) (last : Option ℕ) (strict : Bool) (writer writer' errors errors' : Writing) (status : ℕ) : Type 0 where
  pub either :
      (Says errors errors' (codes "ntlook: cannot open\n") × (status ≡ 1) × Keeps writer.held writer'.held × (writer'.failed ≡ writer.failed))
      ⊎ ((reader reader' : Reading) × WhyEnds file last strict reader reader' writer writer' errors errors' status)
