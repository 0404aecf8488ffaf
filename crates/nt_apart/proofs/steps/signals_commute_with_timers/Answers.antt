use Rattle.nt_apart.proofs.Timers.{signal_and_timer}
use Rattle.nt_apart.proofs.steps.signals_commute_with_timers.Goals as goal

pub returns : goal.returns
returns c = λ s mid new t u a b ra rb ga gb two. signal_and_timer s mid new t u a b ra rb ga gb two
