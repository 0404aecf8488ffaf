use Rattle.std.proofs.Common.{◌∙◌, ap, true}
use Rattle.std.specs.Prelude.{◌||◌}
use Rattle.nt_protocols.specs.Word as Protocol
use Rattle.nt_traces.specs.WordTrace.{seat_of, state_of}
use Rattle.nt_traces.proofs.WordSeats.{told_uncounted}
use Rattle.nt_traces.proofs.word_run.WordRun.calls.Goals as goal

pub returns : goal.returns
returns c =
    let s = state_of c.args.self.now in
    let u = c.args.u in
    let same = ap seat_of c.seat-seat.ensures ∙ ap (λ (x : Protocol.State). x.seats u) c.told_by.ensures.0 in (
      c.becomes.ensures.0
          ∙ told_uncounted c.args.self.now (state_of c.told_by.new.self) c.args.t u (s.owes c.args.t u || Protocol.is_asleep (s.seats u).word)
          (record (s.seats u) { word = Protocol.Word.Called; due = true }) (record (seat_of c.seat-seat.result) { word = Protocol.Word.Called; due = true }) c.told_by.ensures.0
          (ap (λ (a : Protocol.Seat). record a { word = Protocol.Word.Called; due = true }) same),
      c.becomes.ensures.1 ∙ c.told_by.ensures.1,
    )
