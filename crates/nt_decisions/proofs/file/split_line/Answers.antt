use Rattle.nt_decisions.proofs.Lines.{taken_line, taken_text}
use Rattle.nt_decisions.proofs.file.split_line.Goals as goal

pub returns-then-end-text-clause-split : goal.returns-then-end-text-clause-split
returns-then-end-text-clause-split c = taken_line c.args.text.now c.line_end-end.result c.line_end-end.ensures.place c.if-end-text.true

pub returns-else-end-text-clause-split : goal.returns-else-end-text-clause-split
returns-else-end-text-clause-split c =
    taken_text c.args.text.now c.line_end-end.result c.line_end-end.ensures.place c.if-end-text.false c.line_end-end.ensures.within
