use Rattle.nt_apart.proofs.Signals.{both_signal}
use Rattle.nt_apart.proofs.steps.signals_commute.Goals as goal

pub returns : goal.returns
returns c = λ s mid new t u a b ra rb ga gb two. both_signal s mid new t u a b ra rb ga gb two
