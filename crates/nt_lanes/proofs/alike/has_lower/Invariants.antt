use Rattle.std.proofs.Common.{◌≡◌, ℕ}
use Rattle.nt_lanes.specs.Lanes.{any_below, is_like, point_at}
use Rattle.nt_lanes.proofs.alike.has_lower.Given as goal

abbrev pub invariant-loop-lower : goal.invariant-loop-lower
invariant-loop-lower l = l.found ≡ any_below (λ (lower : ℕ). is_like l.kinds.items (point_at l.position.places.items l.position.core) lower l.lane) l.lower
