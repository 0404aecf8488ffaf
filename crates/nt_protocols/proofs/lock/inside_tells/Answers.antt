use Rattle.nt_protocols.specs.Threads.{after_all}
use Rattle.nt_protocols.specs.Lock.{step, opening}
use Rattle.nt_protocols.proofs.LockSteps.{always, inside_tells}
use Rattle.nt_protocols.proofs.lock.inside_tells.Goals as goal

pub returns : goal.returns
returns c = λ es can. inside_tells (after_all step opening es) (always es can)
