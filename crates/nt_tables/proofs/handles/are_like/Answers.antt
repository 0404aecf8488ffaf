use Rattle.std.proofs.Common.{arith, refl, None}
use Rattle.std.proofs.lemmas.List.{ext_get_or}
use Rattle.nt_tables.proofs.handles.are_like.Goals as goal

pub returns : goal.returns
returns c = (
  λ _. ext_get_or None c.args.handles.now c.args.others.now c.loop-i.invariant.0 (λ k below. let past = c.loop-i-test.false in c.loop-i.invariant.1 k (grind (arith, past, below))),
  λ _. refl,
)
