-- How a script is read, line by line. No public clause cites this.
use Rattle.std.specs.Prelude.{◌≡◌, ◌⊎◌, ℕ, ◌++◌, List, [], ◌∷◌, map, None, Some}
use Rattle.nt_script.specs.Progress.{Progress}
use Rattle.nt_grammar.specs.declared.fault.LineFault.{LineFault}
use Rattle.nt_grammar.specs.declared.fault.LineFault.TheVariants as line
use Rattle.nt_script.specs.declared.fault.RunFault.{RunFault}
use Rattle.nt_script.specs.declared.fault.RunFault.TheVariants as run
use Rattle.nt_plans.specs.Kept.{ended_of, item_of, texts_of}
use Rattle.nt_hangs.specs.Watching.{seen_of}
use Rattle.nt_look.specs.Orders.{Ask}
use Rattle.nt_machine.specs.Dispatcher.{state}
use Rattle.nt_grammar.specs.declared.fault.ScriptFault.TheVariants.{ThreadsExpected}
use Rattle.nt_orders.specs.declared.fault.OrdersFault.{OrdersFault}
use Rattle.nt_orders.specs.declared.fault.OrdersFault.TheVariants as orders
use Rattle.nt_orders.specs.declared.lanes.Script.{Script}
use Rattle.nt_plans.specs.declared.items.LaneFault.{LaneFault}
use Rattle.nt_plans.specs.declared.items.LaneFault.TheVariants as lane
use Rattle.nt_orders.specs.declared.reading.Reading.{Reading}
use Rattle.nt_orders.specs.declared.order.Gone as kept_gone
use Rattle.nt_plans.specs.Gates as gates
use Rattle.nt_orders.specs.Plans.{Gone, IsLaidOut, Read}
use Rattle.nt_plans.specs.Gates.{Item, Lanes, race_of}

-- the lanes of a script that was read
abbrev pub lanes_of : Script → Lanes
lanes_of script = record { plan = script.plan; texts = texts_of script.lines.items; front = script.front.items; late = script.late.items }

-- how far a script was read
abbrev pub read_of : Reading → Read
read_of reading = record {
  seen = seen_of reading.watch;
  front = reading.front.items;
  items = map item_of reading.items.items;
  ended = ended_of reading.ended;
}

-- how far an order was gone
abbrev pub gone_of : kept_gone.Gone → Gone
gone_of gone = record { text = gone.text.items; at = gone.at.items; closed = gone.closed.items }

-- ---- one line

-- the same fault, with its line's number
abbrev pub IsFaultAt : ℕ → LineFault → RunFault → Type 0
IsFaultAt number (line.Script fault) result = result ≡ run.Script number fault
IsFaultAt number line.Memory result = result ≡ run.Memory number

-- the same cause, with its line's number
abbrev pub at_line : ℕ → LaneFault → OrdersFault
at_line number (lane.Line (line.Script fault)) = orders.Run (run.Script number fault)
at_line number (lane.Line line.Memory) = orders.Run (run.Memory number)
at_line number lane.NoThread = orders.NoThread number

-- this is the last of the lines that go when their lanes do, and asks this
abbrev pub IsLast : List Item → (number : ℕ) → (bytes : List ℕ) → (lane : ℕ) → Ask → List Item → Type 0
IsLast old number bytes lane ask new = new ≡ old ++ record { number = number; bytes = bytes; lane = lane; does = gates.Asks ask } ∷ []

-- ---- all lines

-- what was read so is this script
pub record IsScriptOf (read : Read) (script : Script) : Type 0 where
  pub now : Progress
  pub is : read.seen.now ≡ Some now
  pub laid : IsLaidOut now.state read.items read.front (lanes_of script) (state script.session.core)

-- why lines are not planned: memory was refused, or this line races
abbrev pub IsPlanFault : (line : ℕ → Type 0) → OrdersFault → Type 0
IsPlanFault race orders.Memory = Unit {0}
IsPlanFault race (orders.Race line) = race line
IsPlanFault race (orders.NoThread line) = ⊥
IsPlanFault race (orders.Run fault) = ⊥

-- why there is no script once all lines before this one were read: there is no `threads` line, or they are not planned
abbrev pub IsLateFault : ℕ → Read → OrdersFault → Type 0
IsLateFault number read fault = ((read.seen.now ≡ None) × (fault ≡ orders.Run (run.Script number ThreadsExpected))) ⊎ IsPlanFault (λ line. race_of read.items ≡ Some line) fault
