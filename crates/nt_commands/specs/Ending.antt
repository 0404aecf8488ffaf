-- How the program ends.
use Rattle.std.specs.Prelude.{◌≡◌, ◌⊎◌, ℕ, ◌+◌, true, false, List, [], ◌∷◌, ◌++◌, Result, Ok, Err, codes}
use Rattle.std.specs.Io.KnownBytes.{Keeps}
use Rattle.nt_devices.specs.Device.{Reading, Says, Writing}
use Rattle.nt_script.specs.Message.{fault_text}
use Rattle.nt_script.specs.Running.{Answers}
use Rattle.nt_script.specs.declared.summary.Summary.{Summary}
use Rattle.nt_script.specs.declared.fault.RunFault.{RunFault}
use Rattle.nt_script.specs.declared.fault.RunFault.TheVariants.{Script, Read, Write, Memory}

-- the exit status of a run: 2 where the script has a fault, 1 where the run was cut short, 0 where it was done
abbrev pub run_status : Result Summary RunFault → ℕ
run_status (Ok summary) = 0
run_status (Err (Script line fault)) = 2
run_status (Err (Read line)) = 1
run_status (Err (Write line)) = 1
run_status (Err (Memory line)) = 1

-- The reader failed once where that is why the run ended, and not otherwise.
abbrev pub CountsReads : (reader reader' : Reading) → Result Summary RunFault → Type 0
CountsReads reader reader' (Err (Read line)) = reader'.failed ≡ reader.failed + 1
CountsReads reader reader' outcome = reader'.failed ≡ reader.failed

-- A flush was tried: all was handed on, or the writer failed once more.
abbrev pub IsFlushed : (writer writer' : Writing) → Type 0
IsFlushed writer writer' = ((writer'.failed ≡ writer.failed) × (writer'.handed_on ≡ true)) ⊎ ((writer'.failed ≡ writer.failed + 1) × (writer'.handed_on ≡ false))

-- The script was run to its end and all was handed on; or the flush after its last line failed; or a write failed, with no flush after it; or it was cut short otherwise, and a flush was tried.
abbrev pub Outcome : (reader reader' : Reading) → (writer writer' : Writing) → Result Summary RunFault → Type 0
Outcome reader reader' writer writer' (Ok summary) = Answers reader.left reader'.left writer.held writer'.held (Ok summary) × (writer'.failed ≡ writer.failed) × (writer'.handed_on ≡ true)
Outcome reader reader' writer writer' (Err (Write line)) =
    (writer'.failed ≡ writer.failed + 1)
    × (Answers reader.left reader'.left writer.held writer'.held (Err (Write line)) ⊎ ((summary : Summary) × Answers reader.left reader'.left writer.held writer'.held (Ok summary) × (line ≡ summary.lines + 1) × (writer'.handed_on ≡ false)))
Outcome reader reader' writer writer' (Err (Script line fault)) = Answers reader.left reader'.left writer.held writer'.held (Err (Script line fault)) × IsFlushed writer writer'
Outcome reader reader' writer writer' (Err (Read line)) = Answers reader.left reader'.left writer.held writer'.held (Err (Read line)) × IsFlushed writer writer'
Outcome reader reader' writer writer' (Err (Memory line)) = Answers reader.left reader'.left writer.held writer'.held (Err (Memory line)) × IsFlushed writer writer'

-- ---- what is said on standard error

-- a line with its LF
abbrev pub with_feed : List ℕ → List ℕ
with_feed line = line ++ (10 ∷ [])

-- the line that tells why a run ended
abbrev pub run_message : RunFault → List ℕ
run_message fault = with_feed (codes "ntrun: " ++ fault_text fault)

-- what is said of a run: nothing, where it was done
abbrev pub said_of : Result Summary RunFault → List ℕ
said_of (Ok summary) = []
said_of (Err fault) = run_message fault

-- The exit status is that of the run, and what is said is said of it.
pub record ScriptEnds (reader reader' : Reading) (writer writer' errors errors' : Writing) (status : ℕ) : Type 0 where
  pub outcome : Result Summary RunFault
  pub ends : Outcome reader reader' writer writer' outcome
  pub reads : CountsReads reader reader' outcome
  pub said : Says errors errors' (said_of outcome)
  pub is : status ≡ run_status outcome

-- It is said that the file can't be opened, and nothing was written; or the script in it was run.
pub record FileEnds (writer writer' errors errors' : Writing) (status : ℕ) : Type 0 where
  pub either :
      (Says errors errors' (with_feed (codes "ntrun: cannot open")) × (status ≡ 1) × Keeps writer.held writer'.held × (writer'.failed ≡ writer.failed))
      ⊎ ((reader reader' : Reading) × ScriptEnds reader reader' writer writer' errors errors' status)

-- It is said that memory ran out; or a file was run, to some writer.
abbrev pub PrintEnds : (errors errors' : Writing) → (status : ℕ) → Type 0
PrintEnds errors errors' status =
    (Says errors errors' (with_feed (codes "ntrun: out of memory")) × (status ≡ 1))
    ⊎ ((writer writer' : Writing) × FileEnds writer writer' errors errors' status)

-- the line that tells how the program is called
abbrev pub usage : List ℕ
usage = codes "ntrun: usage: ntrun script FILE or ntrun threads N ROUNDS"
