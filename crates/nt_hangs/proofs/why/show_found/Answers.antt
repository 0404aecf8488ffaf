use Rattle.nt_hangs.proofs.Telling.{found_unshown}
use Rattle.nt_hangs.proofs.why.show_found.Goals as goal

pub returns-in-Err : goal.returns-in-Err
returns-in-Err g c =
    found_unshown c.as_slice.result.now c.args.found.now c.args.strict (g.W.Sink.seen c.args.writer.now) (g.W.Sink.seen c.write_and_flush.new.writer) (g.E.Sink.seen c.args.errors.now) (g.E.Sink.seen c.say.new.errors) _
    c.as_slice.ensures.value c.in-Err.ensures.0 c.in-Err.ensures.1 c.say.ensures.said c.say.ensures.status
