use Rattle.std.proofs.Common.{◌≡◌, ◌+◌}
use Rattle.std.specs.Prelude.{vec_len, vec_capacity}
use Rattle.test_front.proofs.front.crew.carry.Given as goal

abbrev pub invariant-loop-pass : goal.invariant-loop-pass
invariant-loop-pass g l = (vec_len l.carriers + vec_len l.passes ≡ vec_len l.fn.passes) × (vec_capacity l.carriers ≡ vec_capacity l.fn.carriers)

abbrev pub decreases-loop-pass : goal.decreases-loop-pass
decreases-loop-pass g l = vec_len l.passes
