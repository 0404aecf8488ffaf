-- The words that are left.
use Rattle.std.proofs.Common.{length}
use Rattle.nt_look_commands.proofs.words.+file_in.Given as goal

abbrev pub decreases-file_in : goal.decreases-file_in
decreases-file_in l = length l.words.now
