use Rattle.std.proofs.Common.{◌≡◌, take}
use Rattle.nt_plans.specs.Gates.{lost_with}
use Rattle.nt_plans.proofs.laying.lost_with.Given as goal

abbrev pub invariant-loop-made : goal.invariant-loop-made
invariant-loop-made l = l.lost.items ≡ lost_with (take l.made-index l.all) l.fn.handle
