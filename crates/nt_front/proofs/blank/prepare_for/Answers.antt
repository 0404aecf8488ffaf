use Rattle.std.proofs.Common.{rules}
use Rattle.nt_front.proofs.blank.prepare_for.Goals as goal

pub returns-clause-ok : goal.returns-clause-ok
returns-clause-ok c = search rules
