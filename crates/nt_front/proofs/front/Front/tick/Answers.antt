use Rattle.std.proofs.Common.{rules}
use Rattle.nt_front.proofs.front.Front.tick.Goals as goal

pub returns-clause-made : goal.returns-clause-made
returns-clause-made g c = search rules
