use Rattle.std.proofs.Common.{◌≡◌, ◌<◌, ℕ, length, get_or}
use Rattle.nt_apc.specs.declared.apc.Queued.{Queued}
use Rattle.nt_apc.proofs.inbox.are_like.Given as goal

abbrev pub invariant-loop-i : goal.invariant-loop-i
invariant-loop-i l = (length l.queue.items ≡ length l.other.items) × ((k : ℕ) (d : Queued) → k < l.i → get_or l.queue.items k d ≡ get_or l.other.items k d)
