use Rattle.std.proofs.Common.{◌≡◌, ◌<◌, ℕ, List, length, get_or}
use Rattle.nt_apc.specs.declared.apc.Queued.{Queued}
use Rattle.nt_apc.specs.Place.{queues_in}
use Rattle.nt_apc.proofs.linked.are_like.Given as goal

abbrev pub invariant-loop-i : goal.invariant-loop-i
invariant-loop-i l = (length l.inboxes ≡ length l.others) × ((k : ℕ) → k < l.i → (d : List Queued) → get_or (queues_in l.inboxes) k d ≡ get_or (queues_in l.others) k d)
