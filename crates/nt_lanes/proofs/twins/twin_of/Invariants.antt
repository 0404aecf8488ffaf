use Rattle.nt_lanes.proofs.Adding.{NoTwinBelow}
use Rattle.nt_lanes.proofs.twins.twin_of.Given as goal

abbrev pub invariant-loop-lower : goal.invariant-loop-lower
invariant-loop-lower l = NoTwinBelow l.plan l.lower l.lane
