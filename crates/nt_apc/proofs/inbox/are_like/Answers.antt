use Rattle.std.proofs.Common.{arith, refl}
use Rattle.std.proofs.lemmas.List.{same_lists}
use Rattle.nt_apc.proofs.inbox.are_like.Goals as goal

pub returns : goal.returns
returns c = (
  λ _. same_lists c.args.queue.now.items c.args.other.now.items c.loop-i.invariant.0 (λ k d below. let past = c.loop-i-test.false in c.loop-i.invariant.1 k d (grind (arith, past, below))),
  λ _. refl,
)
