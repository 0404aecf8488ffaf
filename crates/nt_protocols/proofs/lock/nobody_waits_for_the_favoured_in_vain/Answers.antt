use Rattle.nt_protocols.specs.Threads.{after_all}
use Rattle.nt_protocols.specs.Lock.{step, opening}
use Rattle.nt_protocols.proofs.LockSteps.{always, naps_in_vain}
use Rattle.nt_protocols.proofs.lock.nobody_waits_for_the_favoured_in_vain.Goals as goal

pub returns : goal.returns
returns c = λ es can. naps_in_vain (after_all step opening es) (always es can)
