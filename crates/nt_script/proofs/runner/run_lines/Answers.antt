use Rattle.nt_script.proofs.Running.{Answers-none}
use Rattle.nt_script.proofs.runner.run_lines.Goals as goal

pub returns-in-Err-clause-answers : goal.returns-in-Err-clause-answers
returns-in-Err-clause-answers g c = Answers-none (g.R.Source.seen c.args.reader.now).left (g.R.Source.seen c.args.reader.now).left (g.W.Sink.seen c.args.writer.now).held
