use Rattle.nt_schedule.specs.Tree.{IsAsAsked}
use Rattle.nt_schedule.proofs.tree.diverges.Given as goal

abbrev pub invariant-loop-step : goal.invariant-loop-step
invariant-loop-step l = IsAsAsked l.asked l.ran l.step
