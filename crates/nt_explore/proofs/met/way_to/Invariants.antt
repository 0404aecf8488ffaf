use Rattle.std.proofs.Common.{◌<◌, length}
use Rattle.nt_explore.proofs.Ways.{LeadsOn}
use Rattle.nt_explore.proofs.met.way_to.Given as goal

abbrev pub decreases-loop-at : goal.decreases-loop-at
decreases-loop-at l = l.at

abbrev pub invariant-loop-at : goal.invariant-loop-at
invariant-loop-at l =
    (l.at < length l.visits) × LeadsOn l.visits l.index l.at l.way.items × (l.at < l.index → 0 < length l.way.items)
