use Rattle.std.proofs.Common.{◌≡◌, length}
use Rattle.nt_lanes.proofs.Adding.{AllKinds}
use Rattle.nt_lanes.proofs.twins.kinds_of.Given as goal

abbrev pub invariant-loop-lane : goal.invariant-loop-lane
invariant-loop-lane l = (length l.kinds.items ≡ l.lane) × AllKinds l.plan l.kinds.items
