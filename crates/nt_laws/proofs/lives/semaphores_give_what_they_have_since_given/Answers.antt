use Rattle.nt_laws.proofs.GivingSince.{semaphore_since}
use Rattle.nt_laws.proofs.lives.semaphores_give_what_they_have_since_given.Goals as goal

pub returns : goal.returns
returns c = λ n stages s life h is. semaphore_since n stages s life h is
