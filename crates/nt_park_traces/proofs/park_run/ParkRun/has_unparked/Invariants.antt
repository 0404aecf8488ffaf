use Rattle.std.proofs.Common.{◌≡◌, ◌≢◌, ℕ, ◌<◌, get_or, true}
use Rattle.nt_park_traces.specs.declared.park.ParkStanding.{ParkStanding}
use Rattle.nt_park_traces.specs.ParkTrace.{outside}
use Rattle.nt_park_traces.proofs.park_run.ParkRun.has_unparked.Given as goal

abbrev pub invariant-loop-seat : goal.invariant-loop-seat
invariant-loop-seat l = (k : ℕ) → k < l.seat-index
    → ((get_or l.self.seats.items k outside).standing ≢ ParkStanding.Taken l.t)
    × (l.all ≡ true → (get_or l.self.seats.items k outside).standing ≢ ParkStanding.Listed)
