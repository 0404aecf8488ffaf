use Rattle.std.proofs.Common.{arith, refl}
use Rattle.std.proofs.lemmas.List.{same_lists}
use Rattle.nt_core.proofs.like.handing_alike.Goals as goal

pub returns : goal.returns
returns c = (
  λ _. same_lists c.args.handing.now c.args.others.now c.loop-i.invariant.0 (λ k d below. let past = c.loop-i-test.false in c.loop-i.invariant.1 k (grind (arith, past, below)) d),
  λ _. refl,
)
