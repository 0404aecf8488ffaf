use Rattle.nt_lines.specs.Lines.{lines_of}
use Rattle.nt_hangs.specs.Watching.{seen_of}
use Rattle.nt_timeline.proofs.Outcomes.{is_fault}
use Rattle.nt_drawing.proofs.draw.play.Goals as goal

pub returns-in-Err : goal.returns-in-Err
returns-in-Err c = is_fault (lines_of c.args.input.now) c.in-Err.fault (seen_of c.run.new.self.watch) c.in-Err.ensures
