use Rattle.nt_wording.proofs.Cutting.{line_at, line_alone}
use Rattle.nt_wording.proofs.lines.first_line.Goals as goal

pub returns-in-Some-clause-lines : goal.returns-in-Some-clause-lines
returns-in-Some-clause-lines c = line_at c.args.bytes.now c.in-Some.place c.in-Some.ensures

pub returns-in-None-clause-lines : goal.returns-in-None-clause-lines
returns-in-None-clause-lines c = line_alone c.args.bytes.now c.requires c.in-None.ensures
