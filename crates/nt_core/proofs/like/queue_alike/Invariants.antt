use Rattle.std.proofs.Common.{◌≡◌, ◌<◌, ℕ, length, get_or}
use Rattle.std.specs.Prelude.{slice_get}
use Rattle.nt_waits.specs.Waits.{queue_of}
use Rattle.nt_core.proofs.like.queue_alike.Given as goal

abbrev pub invariant-loop-place : goal.invariant-loop-place
invariant-loop-place l =
    (length (queue_of l.waits l.object) ≡ length (queue_of l.others l.object))
    × (l.here ≡ slice_get (queue_of l.waits l.object) l.place)
    × (l.there ≡ slice_get (queue_of l.others l.object) l.place)
    × ((k : ℕ) → k < l.place → get_or (queue_of l.waits l.object) k 0 ≡ get_or (queue_of l.others l.object) k 0)
