use Rattle.std.proofs.Common.{◌≡◌, ◌≤◌, length}
use Rattle.std.specs.Prelude.{drop}
use Rattle.nt_explore.specs.Levels.{passed}
use Rattle.nt_explore.proofs.loss.pass_back.Given as goal

abbrev pub decreases-loop-left : goal.decreases-loop-left
decreases-loop-left l = l.left

abbrev pub invariant-loop-left : goal.invariant-loop-left
invariant-loop-left l = (l.left ≤ length l.pairs) × (l.lost ≡ passed (drop l.left l.pairs) l.initial.lost)
