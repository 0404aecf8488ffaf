use Rattle.nt_look.proofs.Knots.{knots_stay}
use Rattle.nt_look.proofs.laws.knots_hold.Goals as goal

pub returns : goal.returns
returns c = λ d callers knot turns new lawful tied by run. knots_stay d callers knot turns new lawful tied by run
