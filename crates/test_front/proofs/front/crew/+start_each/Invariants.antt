use Rattle.std.proofs.Common.{vec_len}
use Rattle.test_front.proofs.front.crew.+start_each.Given as goal

abbrev pub decreases-start_each : goal.decreases-start_each
decreases-start_each g l = vec_len l.carriers
