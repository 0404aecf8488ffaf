use Rattle.std.proofs.Common.{◌≡◌, ◌≤◌, ℕ, length}
use Rattle.nt_machine.specs.Dispatcher.{state}
use Rattle.nt_look.specs.Orders.{Point}
use Rattle.nt_lanes.specs.Lanes.{beginning, point_at}
use Rattle.nt_explore.specs.Walk.{IsWalk, Tries, IsTable}
use Rattle.nt_explore.proofs.search.try_lanes.Given as goal

abbrev pub invariant-loop-lane : goal.invariant-loop-lane
invariant-loop-lane l =
    IsTable l.met.visits.items l.met.slots.items
    × (length l.initial.met.visits.items ≤ length l.met.visits.items)
    × ((point : ℕ → Point) → IsWalk l.plan (beginning l.plan (state l.start)) l.initial.met.visits.items point → point l.index ≡ point_at l.position.places.items l.position.core → Tries l.plan l.kinds.items (beginning l.plan (state l.start)) l.initial.met.visits.items l.met.visits.items l.initial.pairs.items l.pairs.items (point_at l.position.places.items l.position.core) l.index l.lane point)
