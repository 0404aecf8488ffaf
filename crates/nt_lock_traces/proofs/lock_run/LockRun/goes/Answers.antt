use Rattle.nt_protocols.specs.Lock as Lock
use Rattle.nt_lock_traces.specs.LockTrace.{place_of}
use Rattle.nt_lock_traces.proofs.LockSeats.{one_changed}
use Rattle.nt_lock_traces.proofs.lock_run.LockRun.goes.Goals as goal

pub returns : goal.returns
returns c = (
  one_changed c.args.self.now c.set.new.self c.args.t c.index-seat.result.now
      (λ (a : Lock.Seat). record a { place = place_of c.args.place })
      c.requires c.index-seat.ensures c.set.ensures.lock c.set.ensures.seats,
  c.set.ensures.len,
)
