use Rattle.std.proofs.Common.{◌≡◌, map, take}
use Rattle.std.specs.List.{fold}
use Rattle.nt_plans.specs.Gates.{none_planned, planned_on}
use Rattle.nt_plans.specs.Kept.{gates_of, item_of, planned_of}
use Rattle.nt_plans.proofs.planning.plan_all.Given as goal

abbrev pub invariant-loop-item : goal.invariant-loop-item
invariant-loop-item l = planned_of l.planned ≡ fold (planned_on l.threads (gates_of l.gates) l.all.items) (none_planned l.threads) (map item_of (take l.item-index l.items))
