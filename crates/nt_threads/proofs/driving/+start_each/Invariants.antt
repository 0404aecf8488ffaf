use Rattle.std.specs.Prelude.{vec_len}
use Rattle.nt_threads.proofs.driving.+start_each.Given as goal

abbrev pub decreases-start_each : goal.decreases-start_each
decreases-start_each g l = vec_len l.others
