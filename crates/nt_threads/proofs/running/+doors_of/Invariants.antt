use Rattle.std.specs.Prelude.{vec_len}
use Rattle.nt_threads.proofs.running.+doors_of.Given as goal

abbrev pub decreases-doors_of : goal.decreases-doors_of
decreases-doors_of g l = vec_len l.passes
