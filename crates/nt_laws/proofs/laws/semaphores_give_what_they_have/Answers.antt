use Rattle.nt_laws.proofs.RunsAsLives.{semaphore_account}
use Rattle.nt_laws.proofs.laws.semaphores_give_what_they_have.Goals as goal

pub returns : goal.returns
returns c = λ n turns s run h is. semaphore_account n turns s run h is
