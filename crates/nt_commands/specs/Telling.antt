-- How the command `threads` ends.
use Rattle.std.specs.Prelude.{◌≡◌, ◌⊎◌, ℕ, true, false, List, Result, Ok, Err, codes}
use Rattle.std.specs.Io.KnownBytes.{Appends, Keeps}
use Rattle.nt_devices.specs.Device.{AppendsPart, Says, Writing, one_more}
use Rattle.nt_threads.specs.Reports.{IsThreadsReport}
use Rattle.nt_commands.specs.declared.plan.CommandPlan.{CommandPlan}
use Rattle.nt_commands.specs.declared.plan.CommandPlan.TheVariants.{Script, Threads}
use Rattle.nt_commands.specs.declared.plan.PlanFault.{PlanFault}
use Rattle.nt_commands.specs.declared.plan.PlanFault.TheVariants.{Usage, Memory}
use Rattle.nt_commands.specs.CommandLine.{are_lawful_counts}
use Rattle.nt_commands.specs.Ending.{PrintEnds, usage, with_feed}

-- These lines were handed on, and nothing was said; or they were not, and that is said.
abbrev pub TellsLines : List ℕ → (writer writer' errors errors' : Writing) → (status : ℕ) → Type 0
TellsLines lines writer writer' errors errors' status =
    (Appends writer.held writer'.held lines × (writer'.failed ≡ writer.failed) × (writer'.handed_on ≡ true) × Keeps errors.held errors'.held × (errors'.failed ≡ errors.failed) × (status ≡ 0))
    ⊎ ((AppendsPart writer.held writer'.held lines ⊎ Appends writer.held writer'.held lines)
    × (writer'.failed ≡ one_more writer.failed) × Says errors errors' (with_feed (codes "ntrun: write failed")) × (status ≡ 1))

-- The lines of a run were handed on, and nothing was said.
abbrev pub EndsWell : (workers rounds : ℕ) → (writer writer' errors errors' : Writing) → (status : ℕ) → Type 0
EndsWell workers rounds writer writer' errors errors' status =
    ((lines : List ℕ) × IsThreadsReport workers rounds lines × Appends writer.held writer'.held lines) × (writer'.failed ≡ writer.failed) × (writer'.handed_on ≡ true) × Keeps errors.held errors'.held × (errors'.failed ≡ errors.failed) × (status ≡ 0)

-- The lines of a run were not handed on, and that is said.
abbrev pub EndsUnwritten : (workers rounds : ℕ) → (writer writer' errors errors' : Writing) → (status : ℕ) → Type 0
EndsUnwritten workers rounds writer writer' errors errors' status =
    ((lines : List ℕ) × IsThreadsReport workers rounds lines × (AppendsPart writer.held writer'.held lines ⊎ Appends writer.held writer'.held lines))
    × (writer'.failed ≡ one_more writer.failed) × Says errors errors' (with_feed (codes "ntrun: write failed")) × (status ≡ 1)

-- Nothing was written: memory was refused, and that is said; or there may not be so many workers or rounds, and the usage is told.
abbrev pub EndsSilent : (workers rounds : ℕ) → (writer writer' errors errors' : Writing) → (status : ℕ) → Type 0
EndsSilent workers rounds writer writer' errors errors' status =
    Keeps writer.held writer'.held × (writer'.failed ≡ writer.failed)
    × (((are_lawful_counts workers rounds ≡ true) × Says errors errors' (with_feed (codes "ntrun: out of memory")) × (status ≡ 1))
    ⊎ ((are_lawful_counts workers rounds ≡ false) × Says errors errors' (with_feed usage) × (status ≡ 2)))

-- The lines of a run were handed on; or they were not; or nothing was written.
pub record ThreadsEnd (workers rounds : ℕ) (writer writer' errors errors' : Writing) (status : ℕ) : Type 0 where
  pub either :
      EndsWell workers rounds writer writer' errors errors' status
      ⊎ (EndsUnwritten workers rounds writer writer' errors errors' status
      ⊎ EndsSilent workers rounds writer writer' errors errors' status)

-- It is said that memory ran out; or threads were run, and told of to some writer.
abbrev pub PrintThreadsEnd : (workers rounds : ℕ) → (errors errors' : Writing) → (status : ℕ) → Type 0
PrintThreadsEnd workers rounds errors errors' status =
    (Says errors errors' (with_feed (codes "ntrun: out of memory")) × (status ≡ 1))
    ⊎ ((writer writer' : Writing) × ThreadsEnd workers rounds writer writer' errors errors' status)

-- A file or threads were run; or the usage was told, or that memory ran out.
abbrev pub PlanEnds : Result CommandPlan PlanFault → (errors errors' : Writing) → (status : ℕ) → Type 0
PlanEnds (Ok (Script file)) errors errors' status = PrintEnds errors errors' status
PlanEnds (Ok (Threads workers rounds)) errors errors' status = PrintThreadsEnd workers rounds errors errors' status
PlanEnds (Err Usage) errors errors' status = Says errors errors' (with_feed usage) × (status ≡ 2)
PlanEnds (Err Memory) errors errors' status = Says errors errors' (with_feed (codes "ntrun: out of memory")) × (status ≡ 1)
