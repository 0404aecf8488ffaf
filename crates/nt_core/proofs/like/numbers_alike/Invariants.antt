use Rattle.std.proofs.Common.{◌≡◌, ◌<◌, ℕ, length, get_or}
use Rattle.nt_core.proofs.like.numbers_alike.Given as goal

abbrev pub invariant-loop-i : goal.invariant-loop-i
invariant-loop-i l = (length l.numbers ≡ length l.others) × ((k : ℕ) → k < l.i → (d : ℕ) → get_or l.numbers k d ≡ get_or l.others k d)
