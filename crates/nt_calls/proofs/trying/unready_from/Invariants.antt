use Rattle.std.proofs.Common.{length, ◌-◌}
use Rattle.nt_calls.proofs.trying.unready_from.Given as goal

abbrev pub decreases-loop-place : goal.decreases-loop-place
decreases-loop-place l = length l.numbers - l.place
