-- The words that are left.
use Rattle.std.proofs.Common.{length}
use Rattle.nt_look_commands.proofs.words.+value_in.Given as goal

abbrev pub decreases-value_in : goal.decreases-value_in
decreases-value_in l = length l.words.now
