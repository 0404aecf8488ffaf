use Rattle.nt_look.proofs.Loosening.{TiedBelow}
use Rattle.nt_look.proofs.knot.first_untied.Given as goal

abbrev pub invariant-loop-thread : goal.invariant-loop-thread
invariant-loop-thread l = TiedBelow l.core l.over l.knot l.thread
