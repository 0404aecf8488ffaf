use Rattle.nt_apart.proofs.Apcs.{two_apcs}
use Rattle.nt_apart.proofs.steps.apcs_to_two_threads_commute.Goals as goal

pub returns : goal.returns
returns c = λ s mid new t u a b ra rb ga gb two. two_apcs s mid new t u a b ra rb ga gb two
