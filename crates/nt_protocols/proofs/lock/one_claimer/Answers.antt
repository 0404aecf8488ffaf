use Rattle.nt_protocols.specs.Threads.{after_all}
use Rattle.nt_protocols.specs.Lock.{step, opening}
use Rattle.nt_protocols.proofs.LockSteps.{always, one_claimer}
use Rattle.nt_protocols.proofs.lock.one_claimer.Goals as goal

pub returns : goal.returns
returns c = λ es can. one_claimer (after_all step opening es) (always es can)
