use Rattle.std.proofs.Common.{◌≡◌, ◌<◌, ℕ, Bool, length, get_or}
use Rattle.nt_core.proofs.like.handing_alike.Given as goal

abbrev pub invariant-loop-i : goal.invariant-loop-i
invariant-loop-i l = (length l.handing ≡ length l.others) × ((k : ℕ) → k < l.i → (d : Bool) → get_or l.handing k d ≡ get_or l.others k d)
