-- How the program `ntlook` ends.
use Rattle.std.specs.Prelude.{◌≡◌, ◌⊎◌, ℕ, Bool, List, Option, None, Some, is_some, Result, Ok, Err}
use Rattle.nt_devices.specs.Device.{Says, Writing}
use Rattle.nt_hangs.specs.Ending.{FileTold, SaysMemory}
use Rattle.nt_drawing.specs.declared.draw.Form.{Form}
use Rattle.nt_drawing.specs.Ending.{DrawingEnds}
use Rattle.nt_timeline.specs.Ending.{TimelineTold}
use Rattle.nt_orders.specs.Ending.{OrdersTold}
use Rattle.nt_look_commands.specs.declared.command.Command.{Command}
use Rattle.nt_look_commands.specs.CommandLine.{look_usage, usage_of}
use Rattle.nt_look_commands.specs.CommandLine.{LookAsked, AskedExplore, AskedTimeline, AskedWhy}

-- It is said that memory ran out; or the file was told of, to some writer.
abbrev pub PrintTold : List ℕ → Option ℕ → Bool → (errors errors' : Writing) → (status : ℕ) → Type 0
PrintTold file last strict errors errors' status =
    SaysMemory errors errors' status
    ⊎ ((writer writer' : Writing) × FileTold file last strict writer writer' errors errors' status)

-- It is said that memory ran out; or the timeline of a file was told, to some writer.
abbrev pub PrintTimeline : Bool → (errors errors' : Writing) → (status : ℕ) → Type 0
PrintTimeline strict errors errors' status =
    SaysMemory errors errors' status
    ⊎ ((writer writer' : Writing) × TimelineTold strict writer writer' errors errors' status)

-- The timeline is text, or a drawing where a file is named for it.
abbrev pub MakesTimeline : Option (Form × List ℕ) → Bool → (errors errors' : Writing) → (status : ℕ) → Type 0
MakesTimeline None strict errors errors' status = PrintTimeline strict errors errors' status
MakesTimeline (Some drawing) strict errors errors' status = DrawingEnds strict errors errors' status

-- It is said that memory ran out; or it was told of the orders of a file, to some writer; whether an order is asked for as a script.
abbrev pub PrintOrders : (most : ℕ) → (asked : Bool) → (errors errors' progress progress' : Writing) → (status : ℕ) → Type 0
PrintOrders most asked errors errors' progress progress' status =
    (SaysMemory errors errors' status × (progress' ≡ progress))
    ⊎ ((writer writer' : Writing) × OrdersTold most asked writer writer' errors errors' progress progress' status)

-- the usage of this command, or of all
abbrev pub usage_for : Option Command → List ℕ
usage_for None = look_usage
usage_for (Some command) = usage_of command

-- What was asked for was done; or the usage was told. Only a search tells how far it is.
abbrev pub CommandEnds : Result LookAsked (Option Command) → (errors errors' progress progress' : Writing) → (status : ℕ) → Type 0
CommandEnds (Err command) errors errors' progress progress' status = Says errors errors' (usage_for command) × (status ≡ 2) × (progress' ≡ progress)
CommandEnds (Ok (AskedWhy file at strict)) errors errors' progress progress' status = PrintTold file at strict errors errors' status × (progress' ≡ progress)
CommandEnds (Ok (AskedTimeline file lines object thread drawing strict)) errors errors' progress progress' status =
    MakesTimeline drawing strict errors errors' status × (progress' ≡ progress)
CommandEnds (Ok (AskedExplore file most script)) errors errors' progress progress' status = PrintOrders most (is_some script) errors errors' progress progress' status
