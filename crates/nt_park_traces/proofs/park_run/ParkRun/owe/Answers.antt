use Rattle.std.proofs.Common.{◌∙◌, arith}
use Rattle.nt_protocols.specs.Threads.{put}
use Rattle.nt_park_traces.specs.ParkTrace.{state_of}
use Rattle.nt_park_traces.proofs.ParkSeats.{owes_changed, seats_kept, state_is}
use Rattle.nt_park_traces.proofs.park_run.ParkRun.owe.Goals as goal

pub returns : goal.returns
returns c =
    let s = state_of c.args.self.now in
    let seats = c.args.self.now.seats.items in (
      state_is c.set.new.self s.value s.latch s.seats (put s.owes c.args.t (put (s.owes c.args.t) c.args.u c.args.owed))
          c.set.ensures.value c.set.ensures.latch (c.set.ensures.seats ∙ seats_kept seats c.args.t c.seat-seat.result c.seat-seat.ensures)
          (c.set.ensures.owes ∙ owes_changed seats c.args.t c.args.u c.args.owed c.seat-seat.result c.seat-seat.ensures (omega arith)),
      c.set.ensures.len,
    )
