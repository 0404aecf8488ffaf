use Rattle.std.proofs.Common.{◌≡◌, ℕ, false, subst}
use Rattle.std.specs.Prelude.{◌↔◌}
use Rattle.nt_lanes.specs.Lanes.{IsUnnamed}
use Rattle.nt_lanes.proofs.twins.is_named.Goals as goal

pub returns : goal.returns
returns c = subst (λ (h : ℕ). (c.names.result ≡ false) ↔ IsUnnamed c.args.plan.now h) c.new.ensures c.names.ensures.unnamed
