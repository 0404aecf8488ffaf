use Rattle.std.specs.Prelude.{vec_len}
use Rattle.nt_threads.proofs.driving.+end_all.Given as goal

abbrev pub decreases-end_all : goal.decreases-end_all
decreases-end_all g l = vec_len l.others
