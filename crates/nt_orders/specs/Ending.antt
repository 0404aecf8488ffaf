-- How `ntlook explore` ends.
use Rattle.std.specs.Prelude.{◌≡◌, ◌⊎◌, ◌&&◌, ◌==◌, ℕ, Bool, List, Option, None, Some, option_map, Result, Ok, Err, if◌then◌else◌, codes}
use Rattle.std.specs.Io.KnownBytes.{Keeps}
use Rattle.nt_devices.specs.Device.{Reading, Says, Writing, one_more}
use Rattle.nt_calls.specs.State.{State}
use Rattle.nt_explore.specs.Search.{IsUnderWay, TellsSearch, TellsVerdict}
use Rattle.nt_lanes.specs.Lanes.{beginning}
use Rattle.nt_explore.specs.declared.search.Explored.{Explored}
use Rattle.nt_explore.specs.declared.search.OrderVerdict.{OrderVerdict}
use Rattle.nt_explore.specs.declared.search.OrderVerdict.TheVariants as verdict
use Rattle.nt_script.specs.Running.{Has}
use Rattle.nt_lines.specs.Lines.{lines_of}
use Rattle.nt_hangs.specs.Ending.{SaysMemory, Shows}
use Rattle.nt_hangs.specs.Watching.{before_zero}
use Rattle.nt_orders.specs.Texts.{order_message, order_status}
use Rattle.nt_look.specs.Orders.{steps}
use Rattle.nt_orders.specs.Plans.{IsPlanOf, IsRaceIn, Stops, order_text, unread}
use Rattle.nt_plans.specs.Gates.{Lanes}
use Rattle.nt_orders.specs.Progress.{TellsCourse}
use Rattle.nt_orders.specs.declared.fault.OrdersFault.{OrdersFault}
use Rattle.nt_orders.specs.declared.report.Findings.{Findings}
use Rattle.nt_orders.specs.declared.fault.OrdersFault.TheVariants as orders

-- the exit status of a verdict
abbrev pub verdict_code : OrderVerdict → ℕ
verdict_code (verdict.Hangs lanes loss) = 3
verdict_code verdict.None = 0
verdict_code (verdict.Met level) = 4

-- the order of a verdict as a script, where one hangs: what stands in front of the lanes, and then the lines in that order
abbrev pub order_of : Lanes → OrderVerdict → Option (List ℕ)
order_of lanes (verdict.Hangs order loss) = Some (order_text lanes order.items)
order_of lanes verdict.None = None
order_of lanes (verdict.Met level) = None

-- All orders of the plan from this state were searched, with so many states at the most. How far that was is told of each look, with the depth of the
-- state that was looked at.
abbrev pub IsSearched : (most : ℕ) → Lanes → State → (progress progress' : Writing) → Explored → Type 0
IsSearched most lanes s progress progress' told =
    (met : ℕ → ℕ) × (looked : ℕ) × (search : TellsSearch lanes.plan (beginning lanes.plan s) most met looked told)
    × TellsCourse (λ i. steps (search.point i).at) met looked progress progress'

-- The same of a search to which memory was refused: it was told of the looks before.
abbrev pub IsCutOff : (most : ℕ) → Lanes → State → (progress progress' : Writing) → Type 0
IsCutOff most lanes s progress progress' =
    (met : ℕ → ℕ) × (looked : ℕ) × (search : IsUnderWay lanes.plan (beginning lanes.plan s) most met looked)
    × TellsCourse (λ i. steps (search.point i).at) met looked progress progress'

-- The exit status is that of the verdict on all orders of the plan from this state to which a search came, with so many states at the most: 4 is the status
-- only where it met more. The script is the order that hangs.
abbrev pub PlanIsJudged : (most : ℕ) → Lanes → State → (progress progress' : Writing) → Findings → Type 0
PlanIsJudged most lanes s progress progress' found =
    (told : Explored) × TellsVerdict lanes.plan (beginning lanes.plan s) told.verdict × (found.report.code ≡ verdict_code told.verdict)
    × (option_map (λ text. text.items) found.order ≡ order_of lanes told.verdict)
    × IsSearched most lanes s progress progress' told

-- This is the script's first fault: a line can't be read, or there is no `threads` line; or all are read, and a line is another thing in another order. Or
-- memory was refused, and to no line.
abbrev pub IsFirstFault : List ℕ → OrdersFault → Type 0
IsFirstFault input (orders.Run fault) = Stops 1 unread (lines_of input) (orders.Run fault)
IsFirstFault input (orders.NoThread line) = Stops 1 unread (lines_of input) (orders.NoThread line)
IsFirstFault input (orders.Race line) = IsRaceIn input line
IsFirstFault input orders.Memory = Unit {0}

-- There is no search of the script to tell of, or this is told of one.
abbrev pub TellsIfSearched : (most : ℕ) → List ℕ → (progress progress' : Writing) → Type 0
TellsIfSearched most input progress progress' =
    (progress' ≡ progress) ⊎ ((lanes : Lanes) × (s : State) × IsPlanOf input lanes s × IsCutOff most lanes s progress progress')

-- Where the script has a fault there is no search to tell of. There may be one where memory was refused.
abbrev pub EndsEarly : (most : ℕ) → List ℕ → OrdersFault → (progress progress' : Writing) → Type 0
EndsEarly most input (orders.Run fault) progress progress' = progress' ≡ progress
EndsEarly most input (orders.NoThread line) progress progress' = progress' ≡ progress
EndsEarly most input (orders.Race line) progress progress' = progress' ≡ progress
EndsEarly most input orders.Memory progress progress' = TellsIfSearched most input progress progress'

-- What an exploration comes to: a report on the lanes of the script; or the script has this first fault, or memory was refused.
abbrev pub IsOrdersOutcome : (most : ℕ) → List ℕ → (progress progress' : Writing) → Result Findings OrdersFault → Type 0
IsOrdersOutcome most input progress progress' (Ok found) =
    (lanes : Lanes) × (s : State) × IsPlanOf input lanes s × PlanIsJudged most lanes s progress progress' found
IsOrdersOutcome most input progress progress' (Err fault) = IsFirstFault input fault × EndsEarly most input fault progress progress'

-- It is said why the orders are not explored, or that memory ran out for that too.
abbrev pub TellsOrdersFault : OrdersFault → (errors errors' : Writing) → (status : ℕ) → Type 0
TellsOrdersFault fault errors errors' status = (Says errors errors' (order_message fault) × (status ≡ order_status fault)) ⊎ SaysMemory errors errors' status

-- This text was handed on to a new file, or was not, and that is said; or it is said that the file can't be created.
abbrev pub WritesOrder : List ℕ → (errors errors' : Writing) → (status : ℕ) → Type 0
WritesOrder order errors errors' status =
    ((writer writer' : Writing) × Shows order 3 writer writer' errors errors' status)
    ⊎ (Says errors errors' (codes "ntlook: cannot create\n") × (status ≡ 1))

-- the order that is written: one is asked for, there is one, and the report on it was shown
abbrev pub order_due : Bool → ℕ → Option (List ℕ) → Option (List ℕ)
order_due asked status order = if (status == 3) && asked then order else None

-- An order was written after the report; or nothing more was done, and the exit status stays.
abbrev pub KeepsOrder : Option (List ℕ) → (errors errors' : Writing) → (shown status : ℕ) → Type 0
KeepsOrder None errors errors' shown status = (errors' ≡ errors) × (status ≡ shown)
KeepsOrder (Some order) errors errors' shown status = WritesOrder order errors errors' status

-- The report was shown, and then the order was written if one is asked for; or nothing was written, and it is said why there is no report.
abbrev pub TellsOutcome : Bool → Result Findings OrdersFault → (writer writer' errors errors' : Writing) → (status : ℕ) → Type 0
TellsOutcome asked (Ok found) writer writer' errors errors' status =
    (mid : Writing) × (shown : ℕ) × Shows found.report.text.items found.report.code writer writer' errors mid shown
    × KeepsOrder (order_due asked shown (option_map (λ text. text.items) found.order)) mid errors' shown status
TellsOutcome asked (Err fault) writer writer' errors errors' status =
    Keeps writer.held writer'.held × (writer'.failed ≡ writer.failed) × TellsOrdersFault fault errors errors' status

-- What is told of a script with these bytes; whether an order is asked for as a script.
pub record TellsOrders (most : ℕ) (asked : Bool) (input : List ℕ) (writer writer' errors errors' progress progress' : Writing) (status : ℕ) : Type 0 where
  pub outcome : Result Findings OrdersFault
  pub is : IsOrdersOutcome most (before_zero input) progress progress' outcome
  pub tells : TellsOutcome asked outcome writer writer' errors errors' status

-- All was read, and told of; or nothing was written, and it is said that the read failed or memory ran out.
pub record OrdersEnd (most : ℕ) (asked : Bool) (reader reader' : Reading) (writer writer' errors errors' progress progress' : Writing) (status : ℕ) : Type 0 where
  pub either :
      ((input : List ℕ) × Has reader.left input × (reader'.failed ≡ reader.failed)
      × TellsOrders most asked input writer writer' errors errors' progress progress' status)
      ⊎ (Keeps writer.held writer'.held × (writer'.failed ≡ writer.failed) × (progress' ≡ progress)
      × (((reader'.failed ≡ one_more reader.failed) × Says errors errors' (codes "ntlook: read failed\n") × (status ≡ 1))
      ⊎ ((reader'.failed ≡ reader.failed) × SaysMemory errors errors' status)))

-- It is said that the file can't be opened, and nothing was written; or the script in it was told of.
pub record OrdersTold (most : ℕ) (asked : Bool) (writer writer' errors errors' progress progress' : Writing) (status : ℕ) : Type 0 where
  pub either :
      (Says errors errors' (codes "ntlook: cannot open\n") × (status ≡ 1) × Keeps writer.held writer'.held × (writer'.failed ≡ writer.failed) × (progress' ≡ progress))
      ⊎ ((reader reader' : Reading) × OrdersEnd most asked reader reader' writer writer' errors errors' progress progress' status)
