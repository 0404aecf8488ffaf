use Rattle.std.proofs.Common.{◌∙◌, ◌+◌, ap, true, false}
use Rattle.nt_protocols.specs.Parking as Protocol
use Rattle.nt_park_traces.specs.declared.park.ParkSeat.{ParkSeat}
use Rattle.nt_park_traces.specs.ParkTrace.{seat_of, state_of}
use Rattle.nt_park_traces.proofs.ParkSeats.{becomes_uncounted}
use Rattle.nt_park_traces.proofs.park_run.ParkRun.unparks.Goals as goal

pub returns : goal.returns
returns c =
    let s = state_of c.args.self.now in
    let u = c.args.u in (
      c.owe.ensures.0
          ∙ ap (λ (x : Protocol.State). Protocol.owing x c.args.t u true)
          (c.becomes.ensures.0
          ∙ becomes_uncounted c.args.self.now u
          (record (s.seats u) { parked = false; standing = Protocol.Standing.Absent; unparks = (s.seats u).unparks + 1 })
          (record (seat_of c.seat-seat.result) { parked = false; standing = Protocol.Standing.Absent })
          (ap (λ (x : ParkSeat). record (seat_of x) { parked = false; standing = Protocol.Standing.Absent }) c.seat-seat.ensures)),
      c.owe.ensures.1 ∙ c.becomes.ensures.1,
    )
