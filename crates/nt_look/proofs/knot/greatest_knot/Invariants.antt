use Rattle.nt_machine.specs.Dispatcher.{state}
use Rattle.nt_look.proofs.Loosening.{HasAllKnots, left_marked}
use Rattle.nt_look.proofs.knot.greatest_knot.Given as goal

abbrev pub decreases-loop-thread : goal.decreases-loop-thread
decreases-loop-thread l = left_marked l.knot.items

abbrev pub invariant-loop-thread : goal.invariant-loop-thread
invariant-loop-thread l = HasAllKnots l.over (state l.core) l.knot.items
