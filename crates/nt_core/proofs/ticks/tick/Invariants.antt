use Rattle.nt_core.proofs.Coming.{TickSoFar, left_to_come}
use Rattle.nt_core.proofs.ticks.tick.Given as goal

abbrev pub invariant-loop-u : goal.invariant-loop-u
invariant-loop-u l = TickSoFar l.initial.machine l.machine l.m

-- timers that are due and waits that pend
abbrev pub decreases-loop-u : goal.decreases-loop-u
decreases-loop-u l = left_to_come l.m l.machine
