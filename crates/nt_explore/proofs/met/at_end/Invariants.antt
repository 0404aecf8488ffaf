use Rattle.std.proofs.Common.{◌≡◌, ◌≤◌, length}
use Rattle.std.specs.Prelude.{drop}
use Rattle.nt_machine.specs.Dispatcher.{state}
use Rattle.nt_look.specs.Orders.{Point}
use Rattle.nt_lanes.specs.Lanes.{beginning, point_at}
use Rattle.nt_explore.specs.Walk.{Arrives}
use Rattle.nt_explore.proofs.met.at_end.Given as goal

abbrev pub decreases-loop-left : goal.decreases-loop-left
decreases-loop-left l = l.left

abbrev pub invariant-loop-left : goal.invariant-loop-left
invariant-loop-left l =
    (l.left ≤ length l.way)
    × (length l.position.places.items ≡ length l.plan)
    × ((state l.position.core).threads ≡ (state l.start).threads)
    × ((q : Point) → Arrives l.plan (beginning l.plan (state l.start)) l.way q → Arrives l.plan (beginning l.plan (state l.start)) (drop l.left l.way) (point_at l.position.places.items l.position.core))
