-- How lines and plans are kept.
use Rattle.std.specs.Prelude.{◌≡◌, ℕ, List, map, true, Vec, Option, Result, Ok, Err}
use Rattle.std.specs.declared.alloc.Global.{Global}
use Rattle.nt_script.specs.Progress.{Progress}
use Rattle.nt_grammar.specs.declared.parser.Statement.{Statement}
use Rattle.nt_hangs.specs.Steps.{LineHasFault}
use Rattle.nt_lanes.specs.Lanes.{asked}
use Rattle.nt_plans.specs.declared.line.Line.{Line}
use Rattle.nt_plans.specs.declared.items.Found.{Found}
use Rattle.nt_plans.specs.declared.items.Found.TheVariants as found
use Rattle.nt_plans.specs.declared.items.LaneFault.{LaneFault}
use Rattle.nt_plans.specs.declared.items.LaneFault.TheVariants as lane
use Rattle.nt_plans.specs.declared.items.Does as kept_does
use Rattle.nt_plans.specs.declared.items.Does.TheVariants as does
use Rattle.nt_plans.specs.declared.items.Item as kept_item
use Rattle.nt_plans.specs.declared.items.Ended as kept_ended
use Rattle.nt_plans.specs.declared.laying.Laid as kept_laid
use Rattle.nt_plans.specs.declared.planning.Gates as kept_gates
use Rattle.nt_plans.specs.declared.planning.Planned as kept_planned
use Rattle.nt_plans.specs.Gates as gates
use Rattle.nt_plans.specs.Gates.{Does, Gates, Item, Laid, Lanes, Planned, Texts}
use Rattle.nt_plans.specs.Lines.{AsksOf, Ended, IsLineThat, IsOfLane, IsOfNobody, IsOfStart, creation_of, is_left_out, is_of_nobody, is_of_start}

-- a line as it stands
abbrev pub line_bytes : Line → List ℕ
line_bytes line = line.bytes.items

-- the lines of each lane, as they stand
abbrev pub texts_of : List (Vec Line Global) → Texts
texts_of lines = map (λ lane. map line_bytes lane.items) lines

-- what a line does when its lane goes
abbrev pub does_of : kept_does.Does → Does
does_of (does.Asks ask) = gates.Asks (asked ask)
does_of (does.Makes handle source) = gates.Makes handle source

-- such a line
abbrev pub item_of : kept_item.Item → Item
item_of item = record { number = item.line.number; bytes = item.line.bytes.items; lane = item.lane; does = does_of item.does }

-- what ended on the lines above
abbrev pub ended_of : kept_ended.Ended → Ended
ended_of ended = record { closed = ended.closed.items; exited = ended.exited.items }

-- the lanes as they are laid out
abbrev pub laid_of : kept_laid.Laid → Laid
laid_of laid = record { plan = laid.plan; texts = texts_of laid.lines.items; passed = laid.passed.items }

-- what was planned so far
abbrev pub planned_of : kept_planned.Planned → Planned
planned_of planned = record { laid = laid_of planned.laid; above = planned.above.items }

-- the gates and claims
abbrev pub gates_of : kept_gates.Gates → Gates
gates_of made = record { gates = made.gates.items; claims = made.claims.items }

-- ---- one line

-- the statement is carried out before all calls, or left out, or asks this of this lane, or is of no lane
abbrev pub IsFoundOf : ℕ → Ended → Statement → Result Found LaneFault → Type 0
IsFoundOf threads ended statement (Ok (found.Start creation)) = (is_of_start ended statement ≡ true) × (creation ≡ creation_of statement)
IsFoundOf threads ended statement (Ok found.Nothing) = is_left_out ended statement ≡ true
IsFoundOf threads ended statement (Ok (found.Asks place ask)) = AsksOf threads ended statement place (asked ask)
IsFoundOf threads ended statement (Err (lane.Line fault)) = ⊥
IsFoundOf threads ended statement (Err lane.NoThread) = is_of_nobody threads statement ≡ true

-- the line can't be read, for this cause
abbrev pub IsLaneFault : Option Progress → List ℕ → LaneFault → Type 0
IsLaneFault now bytes (lane.Line fault) = LineHasFault now bytes fault
IsLaneFault now bytes lane.NoThread = IsOfNobody now bytes

-- the line is carried out before all calls, or left out, or asks this of this lane, or can't be read
abbrev pub Finds : Option Progress → Ended → List ℕ → Result Found LaneFault → Type 0
Finds now ended bytes (Ok (found.Start creation)) = IsOfStart now ended bytes creation
Finds now ended bytes (Ok found.Nothing) = IsLineThat now (is_left_out ended) bytes
Finds now ended bytes (Ok (found.Asks place ask)) = IsOfLane now ended bytes place (asked ask)
Finds now ended bytes (Err fault) = IsLaneFault now bytes fault
