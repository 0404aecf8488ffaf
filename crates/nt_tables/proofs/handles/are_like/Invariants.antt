use Rattle.std.proofs.Common.{◌≡◌, ◌<◌, ℕ, length, None, get_or}
use Rattle.nt_tables.proofs.handles.are_like.Given as goal

abbrev pub invariant-loop-i : goal.invariant-loop-i
invariant-loop-i l = (length l.handles ≡ length l.others) × ((k : ℕ) → k < l.i → get_or l.handles k None ≡ get_or l.others k None)
