use Rattle.std.proofs.Common.{◌≡◌, ℕ, ◌<◌, ◌≤◌, length, None}
use Rattle.nt_schedule.specs.Tree.{after, node_at}
use Rattle.nt_schedule.proofs.tree.next_branch.Given as goal

abbrev pub invariant-loop-at : goal.invariant-loop-at
invariant-loop-at l = record {
  within : l.at ≤ length l.path;
  none : (k : ℕ) → l.at ≤ k → k < length l.path → after l.bound (node_at l.path k) ≡ None;
}

abbrev pub decreases-loop-at : goal.decreases-loop-at
decreases-loop-at l = l.at
