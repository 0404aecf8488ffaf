use Rattle.nt_apart.proofs.Timers.{timer_and_signal}
use Rattle.nt_apart.proofs.steps.timers_commute_with_signals.Goals as goal

pub returns : goal.returns
returns c = λ s mid new t u b a rb ra gb ga two. timer_and_signal s mid new t u b a rb ra gb ga two
