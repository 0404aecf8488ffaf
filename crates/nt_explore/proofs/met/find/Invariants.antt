use Rattle.nt_machine.specs.Dispatcher.{state}
use Rattle.nt_lanes.specs.Lanes.{beginning, point_at}
use Rattle.nt_explore.proofs.Slots.{LooksPast}
use Rattle.nt_explore.proofs.met.find.Given as goal

abbrev pub invariant-loop-step : goal.invariant-loop-step
invariant-loop-step l = LooksPast l.plan (beginning l.plan (state l.start)) l.visits l.slots l.hash (point_at l.position.places.items l.position.core) l.step
