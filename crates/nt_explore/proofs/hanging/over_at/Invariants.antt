use Rattle.std.proofs.Common.{◌≡◌, ◌<◌, ℕ, not, length}
use Rattle.nt_look.specs.Hangs.{marked}
use Rattle.nt_look.specs.Orders.{goes_on}
use Rattle.nt_lanes.specs.Lanes.{point_at}
use Rattle.nt_explore.proofs.hanging.over_at.Given as goal

abbrev pub invariant-loop-thread : goal.invariant-loop-thread
invariant-loop-thread l =
    (length l.over.items ≡ l.thread)
    × ((t : ℕ) → t < l.thread → marked l.over.items t ≡ not (goes_on l.plan (point_at l.position.places.items l.position.core) t))
