use Rattle.std.proofs.Common.{◌≡◌, take}
use Rattle.std.specs.List.{fold}
use Rattle.nt_plans.specs.Gates.{after_if_named}
use Rattle.nt_plans.specs.Kept.{does_of, laid_of}
use Rattle.nt_plans.proofs.laying.Laid.begin_for_each.Given as goal

abbrev pub invariant-loop-made : goal.invariant-loop-made
invariant-loop-made l = laid_of l.self ≡ fold (after_if_named l.item.lane (does_of l.item.does)) (laid_of l.fn.self) (take l.made-index l.above)
