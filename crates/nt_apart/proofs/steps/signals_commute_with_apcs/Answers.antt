use Rattle.nt_apart.proofs.ApcsBeside.{signal_and_apc}
use Rattle.nt_apart.proofs.steps.signals_commute_with_apcs.Goals as goal

pub returns : goal.returns
returns c = λ s mid new t u a b ra rb ga gb two. signal_and_apc s mid new t u a b ra rb ga gb two
