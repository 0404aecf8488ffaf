use Rattle.std.proofs.Common.{◌∙◌, ap, false}
use Rattle.nt_protocols.specs.Parking as Protocol
use Rattle.nt_park_traces.specs.declared.park.ParkSeat.{ParkSeat}
use Rattle.nt_park_traces.specs.ParkTrace.{place_of, state_of, uncounted}
use Rattle.nt_park_traces.proofs.park_run.ParkRun.wakes.Goals as goal

pub returns : goal.returns
returns c =
    let s = state_of c.args.self.now in
    let u = c.args.u in (
      c.owe.ensures.0
          ∙ ap (λ (x : Protocol.State). Protocol.owing x c.args.t u false)
          (c.goes.ensures.0
          ∙ ap (λ (p : Protocol.Place). uncounted (Protocol.goes s u p))
          (c.woken-place.ensures ∙ ap (λ (x : ParkSeat). Protocol.woken (place_of x.place)) c.seat-seat.ensures)),
      c.owe.ensures.1 ∙ c.goes.ensures.1,
    )
