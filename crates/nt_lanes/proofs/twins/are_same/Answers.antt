use Rattle.std.proofs.Common.{refl, sym, ◌∙◌, arith}
use Rattle.std.proofs.lemmas.Bool.{false≢true}
use Rattle.nt_lanes.proofs.Adding.{all_same, same_below_next, differ_at}
use Rattle.nt_lanes.proofs.twins.are_same.Goals as goal

pub returns-then-not-is_same_ask : goal.returns-then-not-is_same_ask
returns-then-not-is_same_ask c = (
  λ e. absurd (false≢true e),
  λ same. absurd (differ_at c.args.a.now c.args.b.now c.loop-i.i c.index-a-i.result c.index-b-i.result c.loop-i-test.true c.if-a-b.false c.index-a-i.is c.index-b-i.is
      (λ is. false≢true (sym c.if-not-is_same_ask.true ∙ c.is_same_ask.ensures.1 is)) same),
)

pub loop-i-preserved : goal.loop-i-preserved
loop-i-preserved c = same_below_next c.args.a.now c.args.b.now c.loop-i.i c.index-a-i.result c.index-b-i.result c.loop-i-test.true c.if-a-b.false c.index-a-i.is c.index-b-i.is
    (c.is_same_ask.ensures.0 c.if-not-is_same_ask.false) c.loop-i.invariant

pub returns : goal.returns
returns c = (
  λ _. all_same c.args.a.now c.args.b.now c.if-a-b.false (λ k below. c.loop-i.invariant k (let past = c.loop-i-test.false in omega (arith, below, past))),
  λ _. refl,
)
