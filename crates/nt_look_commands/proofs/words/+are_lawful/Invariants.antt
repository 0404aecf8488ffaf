-- The words that are left.
use Rattle.std.proofs.Common.{length}
use Rattle.nt_look_commands.proofs.words.+are_lawful.Given as goal

abbrev pub decreases-are_lawful : goal.decreases-are_lawful
decreases-are_lawful l = length l.words.now
