use Rattle.std.proofs.Common.{length}
use Rattle.nt_calls.proofs.wait_refusal.+rises_free_from.Given as goal

abbrev pub decreases-rises_free_from : goal.decreases-rises_free_from
decreases-rises_free_from l = length l.numbers.now
