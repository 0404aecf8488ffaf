use Rattle.std.proofs.Common.{not, ap}
use Rattle.nt_lanes.proofs.Bare.{not_true}
use Rattle.nt_lanes.proofs.twins.is_twin.Goals as goal

pub returns : goal.returns
returns c = (
  λ e. record { same = c.are_same.ensures.0 c.if-not-are_same.false; first = c.is_named.ensures.0 c.if-is_named.false; second = c.is_named-2.ensures.0 (not_true c.is_named-2.result e) },
  λ twins. ap not (c.is_named-2.ensures.1 twins.second),
)
