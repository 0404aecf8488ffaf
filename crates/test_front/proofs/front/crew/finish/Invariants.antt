use Rattle.std.proofs.Common.{◌≤◌, ◌+◌}
use Rattle.std.specs.Prelude.{vec_len, vec_capacity}
use Rattle.test_front.proofs.front.crew.finish.Given as goal

abbrev pub invariant-loop-one : goal.invariant-loop-one
invariant-loop-one g l = (vec_len l.holds + vec_len l.back ≤ vec_capacity l.holds) × (vec_len l.told + vec_len l.back ≤ vec_capacity l.told)

abbrev pub decreases-loop-one : goal.decreases-loop-one
decreases-loop-one g l = vec_len l.back
