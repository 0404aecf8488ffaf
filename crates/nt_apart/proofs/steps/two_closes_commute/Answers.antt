use Rattle.nt_apart.proofs.Footprint.{two_closes}
use Rattle.nt_apart.proofs.steps.two_closes_commute.Goals as goal

pub returns : goal.returns
returns c = λ s mid new t u h k ra rb ga gb two. two_closes s mid new t u h k ra rb ga gb two
