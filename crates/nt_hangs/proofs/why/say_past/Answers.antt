use Rattle.std.proofs.Common.{◌∙◌, Some}
use Rattle.nt_hangs.specs.Ending.{past_text}
use Rattle.nt_hangs.proofs.Telling.{told_past}
use Rattle.nt_hangs.proofs.why.say_past.Goals as goal

pub returns-in-Ok : goal.returns-in-Ok
returns-in-Ok g c =
    told_past c.as_slice.result.now (past_text (Some c.args.last) c.args.count) (g.E.Sink.seen c.args.errors.now) (g.E.Sink.seen c.say.new.errors) c.say.result
    (c.as_slice.ensures.value ∙ c.in-Ok.ensures) c.say.ensures.said c.say.ensures.status
