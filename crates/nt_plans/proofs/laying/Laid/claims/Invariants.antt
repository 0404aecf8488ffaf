use Rattle.std.proofs.Common.{◌≡◌, [], take}
use Rattle.std.specs.List.{fold}
use Rattle.nt_plans.specs.Gates.{with_claim}
use Rattle.nt_plans.specs.Kept.{item_of, laid_of}
use Rattle.nt_plans.proofs.laying.Laid.claims.Given as goal

abbrev pub invariant-loop-made : goal.invariant-loop-made
invariant-loop-made l = l.claims.items ≡ fold (with_claim l.all (laid_of l.self) (item_of l.item)) [] (take l.made-index l.above)
