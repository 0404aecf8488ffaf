use Rattle.nt_apart.proofs.Waking.{waking}
use Rattle.nt_apart.proofs.steps.waking_commutes.Goals as goal

pub returns : goal.returns
returns c = λ s mid new t u a b ra rb ga gb here. waking s mid new t u a b ra rb ga gb here
