use Rattle.std.proofs.Common.{length}
use Rattle.nt_explore.proofs.going.+try_all.Given as goal

abbrev pub decreases-try_all : goal.decreases-try_all
decreases-try_all l = length l.acts.now
