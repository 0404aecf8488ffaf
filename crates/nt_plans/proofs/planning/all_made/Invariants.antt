use Rattle.std.proofs.Common.{◌≡◌, map, take}
use Rattle.nt_plans.specs.Gates.{all_made}
use Rattle.nt_plans.specs.Kept.{gates_of, item_of}
use Rattle.nt_plans.proofs.planning.all_made.Given as goal

abbrev pub invariant-loop-item : goal.invariant-loop-item
invariant-loop-item l = l.all.items ≡ all_made (gates_of l.gates) (map item_of (take l.item-index l.items))
