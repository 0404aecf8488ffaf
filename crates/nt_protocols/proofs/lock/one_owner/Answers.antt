use Rattle.nt_protocols.specs.Threads.{after_all}
use Rattle.nt_protocols.specs.Lock.{step, opening}
use Rattle.nt_protocols.proofs.LockSteps.{always, one_owner}
use Rattle.nt_protocols.proofs.lock.one_owner.Goals as goal

pub returns : goal.returns
returns c = λ es can. one_owner (after_all step opening es) (always es can)
