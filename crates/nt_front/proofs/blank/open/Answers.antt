use Rattle.std.proofs.Common.{rules}
use Rattle.nt_front.proofs.blank.open.Goals as goal

pub returns-in-Ok-clause-passes : goal.returns-in-Ok-clause-passes
returns-in-Ok-clause-passes g c = search rules
