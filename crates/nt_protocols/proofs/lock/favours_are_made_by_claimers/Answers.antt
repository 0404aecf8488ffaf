use Rattle.nt_protocols.specs.Threads.{after_all}
use Rattle.nt_protocols.specs.Lock.{step, opening}
use Rattle.nt_protocols.proofs.LockSteps.{favours_made}
use Rattle.nt_protocols.proofs.lock.favours_are_made_by_claimers.Goals as goal

pub returns : goal.returns
returns c = λ es can. favours_made (after_all step opening es)
