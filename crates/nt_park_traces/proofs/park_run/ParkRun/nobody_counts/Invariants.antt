use Rattle.std.proofs.Common.{◌≡◌, ℕ, ◌<◌, get_or, false}
use Rattle.nt_protocols.specs.Parking as Protocol
use Rattle.nt_park_traces.specs.ParkTrace.{outside, place_of, standing_of}
use Rattle.nt_park_traces.proofs.park_run.ParkRun.nobody_counts.Given as goal

abbrev pub invariant-loop-seat : goal.invariant-loop-seat
invariant-loop-seat l = (k : ℕ) → k < l.seat-index
    → Protocol.is_counted (standing_of (get_or l.self.seats.items k outside).standing) (place_of (get_or l.self.seats.items k outside).place) ≡ false
