use Rattle.nt_protocols.specs.Threads.{after_all}
use Rattle.nt_protocols.specs.Lock.{step, opening}
use Rattle.nt_protocols.proofs.LockSteps.{always, in_vain}
use Rattle.nt_protocols.proofs.lock.nobody_sleeps_on_the_lock_in_vain.Goals as goal

pub returns : goal.returns
returns c = λ es can. in_vain (after_all step opening es) (always es can)
