use Rattle.std.proofs.Common.{◌≡◌, ◌≤◌, []}
use Rattle.std.specs.Prelude.{vec_len, vec_capacity}
use Rattle.test_programs.proofs.threads.plans.carry_out.Given as goal

abbrev pub invariant-loop-thread : goal.invariant-loop-thread
invariant-loop-thread g l = (vec_len l.doors ≡ l.thread) × (l.threads ≤ vec_capacity l.doors) × (l.back.items ≡ []) × (l.threads ≤ vec_capacity l.back)
