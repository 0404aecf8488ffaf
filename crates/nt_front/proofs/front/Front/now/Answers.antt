use Rattle.std.proofs.Common.{rules}
use Rattle.nt_front.proofs.front.Front.now.Goals as goal

pub returns-clause-read : goal.returns-clause-read
returns-clause-read g c = search rules
