use Rattle.std.proofs.Common.{arith, refl}
use Rattle.nt_core.proofs.LikeLemmas.{waits_same}
use Rattle.nt_core.proofs.like.all_wait_alike.Goals as goal

pub returns : goal.returns
returns c = (
  λ _. waits_same c.args.core.now c.args.other.now c.stands.ensures c.stands-2.ensures c.requires (λ t below. let past = c.loop-thread-test.false in let end = c.threads-thread-end.ensures in c.loop-thread.invariant t (grind (arith, past, end, below))),
  λ _. refl,
)
