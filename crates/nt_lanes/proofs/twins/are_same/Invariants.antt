use Rattle.nt_lanes.proofs.Adding.{SameBelow}
use Rattle.nt_lanes.proofs.twins.are_same.Given as goal

abbrev pub invariant-loop-i : goal.invariant-loop-i
invariant-loop-i l = SameBelow l.a l.b l.i
