use Rattle.nt_apart.proofs.Footprint.{steps_apart}
use Rattle.nt_apart.proofs.steps.steps_apart_commute.Goals as goal

pub returns : goal.returns
returns c = λ s mid new t u a b ra rb ga gb two. steps_apart s mid new t u a b ra rb ga gb two
