use Rattle.nt_apart.proofs.Timers.{two_timers}
use Rattle.nt_apart.proofs.steps.two_timers_commute.Goals as goal

pub returns : goal.returns
returns c = λ s mid new t u a b ra rb ga gb two. two_timers s mid new t u a b ra rb ga gb two
