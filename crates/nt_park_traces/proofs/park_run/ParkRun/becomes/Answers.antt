use Rattle.std.proofs.Common.{◌∙◌}
use Rattle.nt_protocols.specs.Threads.{put}
use Rattle.nt_park_traces.specs.ParkTrace.{seat_of, state_of}
use Rattle.nt_park_traces.proofs.ParkSeats.{owes_kept, state_is}
use Rattle.nt_park_traces.proofs.park_run.ParkRun.becomes.Goals as goal

pub returns : goal.returns
returns c =
    let s = state_of c.args.self.now in (
      state_is c.set.new.self s.value s.latch (put s.seats c.args.t (seat_of c.args.seat)) s.owes c.set.ensures.value c.set.ensures.latch c.set.ensures.seats
          (c.set.ensures.owes ∙ owes_kept c.args.self.now.seats.items c.args.t c.args.seat.owes c.requires.owes),
      c.set.ensures.len,
    )
