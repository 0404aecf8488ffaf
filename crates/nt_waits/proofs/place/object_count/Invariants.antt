use Rattle.std.proofs.Common.{ℕ, ◌<◌, get_or}
use Rattle.nt_waits.proofs.place.object_count.Given as goal

abbrev pub invariant-loop-object : goal.invariant-loop-object
invariant-loop-object l = (j : ℕ) → j < l.object-index → get_or l.objects j 0 < l.count
