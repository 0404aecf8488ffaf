use Rattle.nt_commands.proofs.Flushed.{ended}
use Rattle.nt_commands.proofs.script.run_and_flush.Goals as goal

pub returns-in-Ok : goal.returns-in-Ok
returns-in-Ok g c =
    let given = c.in-Ok.ensures in
    let after = c.hand_on.ensures in
    ended (g.R.Source.seen c.args.reader.now) (g.R.Source.seen c.run.new.reader) (g.W.Sink.seen c.args.writer.now) (g.W.Sink.seen c.run.new.writer) (g.W.Sink.seen c.hand_on.new.writer) c.in-Ok.summary c.hand_on.result c.requires.write_failures given.answers given.failures after.kept after.ok after.err
