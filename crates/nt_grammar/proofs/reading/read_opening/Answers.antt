use Rattle.std.proofs.Common.{◌∙◌, sym}
use Rattle.nt_grammar.proofs.Parsed.{reads_opening, reads_opening_fault}
use Rattle.nt_grammar.proofs.reading.read_opening.Goals as goal

pub returns-in-Ok-clause-reads : goal.returns-in-Ok-clause-reads
returns-in-Ok-clause-reads c = reads_opening c.args.line.now c.in-Ok.threads (sym c.parse_opening_line.ensures.exact ∙ c.in-Ok.is)

pub returns-in-Err-clause-reads : goal.returns-in-Err-clause-reads
returns-in-Err-clause-reads c = reads_opening_fault c.args.line.now c.in-Err.fault (sym c.parse_opening_line.ensures.exact ∙ c.in-Err.is)
