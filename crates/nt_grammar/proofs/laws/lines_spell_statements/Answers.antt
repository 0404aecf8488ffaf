use Rattle.nt_grammar.proofs.Saying as saying
use Rattle.nt_grammar.proofs.laws.lines_spell_statements.Goals as goal

pub returns : goal.returns
returns c = saying.lines_spell_statements
