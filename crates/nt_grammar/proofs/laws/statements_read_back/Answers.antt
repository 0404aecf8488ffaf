use Rattle.nt_grammar.proofs.Saying as saying
use Rattle.nt_grammar.proofs.laws.statements_read_back.Goals as goal

pub returns : goal.returns
returns c = saying.statements_read_back
