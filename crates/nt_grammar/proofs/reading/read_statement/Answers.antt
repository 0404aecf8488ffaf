use Rattle.nt_grammar.proofs.Naming.{read_free}
use Rattle.nt_grammar.proofs.Parsed.{reads_statement}
use Rattle.nt_grammar.proofs.reading.read_statement.Goals as goal

pub returns-clause-reads : goal.returns-clause-reads
returns-clause-reads c = reads_statement c.args.bindings.now.scope c.args.line.now c.parse_line.result c.parse_line.ensures

pub returns-clause-free : goal.returns-clause-free
returns-clause-free c = read_free c.args.bindings.now.scope c.args.line.now c.parse_line.result (reads_statement c.args.bindings.now.scope c.args.line.now c.parse_line.result c.parse_line.ensures)
