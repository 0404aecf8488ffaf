use Rattle.std.proofs.Common.{length}
use Rattle.nt_lanes.proofs.twins.+are_same_acts.Given as goal

abbrev pub decreases-are_same_acts : goal.decreases-are_same_acts
decreases-are_same_acts l = length l.acts.now
