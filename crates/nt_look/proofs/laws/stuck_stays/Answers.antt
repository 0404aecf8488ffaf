use Rattle.nt_look.proofs.Standstill.{stuck_turns}
use Rattle.nt_look.proofs.laws.stuck_stays.Goals as goal

pub returns : goal.returns
returns c = λ callers old new turns stuck by run. stuck_turns callers turns old new stuck by run
