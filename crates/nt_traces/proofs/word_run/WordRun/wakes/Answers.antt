use Rattle.std.proofs.Common.{◌∙◌, ap, false}
use Rattle.nt_protocols.specs.Word as Protocol
use Rattle.nt_traces.specs.WordTrace.{place_of, seat_of, state_of}
use Rattle.nt_traces.proofs.WordSeats.{told_uncounted}
use Rattle.nt_traces.proofs.word_run.WordRun.wakes.Goals as goal

pub returns : goal.returns
returns c =
    let s = state_of c.args.self.now in
    let u = c.args.u in
    let same = ap seat_of c.seat-seat.ensures ∙ ap (λ (x : Protocol.State). x.seats u) c.owe.ensures.0 in (
      c.becomes.ensures.0
          ∙ told_uncounted c.args.self.now (state_of c.owe.new.self) c.args.t u false (record (s.seats u) { place = Protocol.woken (s.seats u).place })
          (record (seat_of c.seat-seat.result) { place = place_of c.woken-place.result }) c.owe.ensures.0
          (ap (λ (p : Protocol.Place). record (seat_of c.seat-seat.result) { place = p }) c.woken-place.ensures
          ∙ ap (λ (a : Protocol.Seat). record a { place = Protocol.woken a.place }) same),
      c.becomes.ensures.1 ∙ c.owe.ensures.1,
    )
