use Rattle.std.proofs.Common.{arith, sym, ◌∙◌}
use Rattle.std.proofs.lemmas.Bool.{false≢true}
use Rattle.nt_explore.proofs.met.is_at.Goals as goal

pub returns-clause-found : goal.returns-clause-found
returns-clause-found c = λ like. (
  let past = c.if-index-visits.false in omega (arith, past),
  λ point walk. sym (c.in_ok-other.ensures.point point walk) ∙ c.is_like.ensures.0 like,
)

pub returns-clause-other : goal.returns-clause-other
returns-clause-other c = λ unlike below same point walk is. false≢true (sym unlike ∙ c.is_like.ensures.1 (c.in_ok-other.ensures.point point walk ∙ is))
