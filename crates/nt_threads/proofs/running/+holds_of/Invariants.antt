use Rattle.std.specs.Prelude.{vec_len}
use Rattle.nt_threads.proofs.running.+holds_of.Given as goal

abbrev pub decreases-holds_of : goal.decreases-holds_of
decreases-holds_of g l = vec_len l.doors
