use Rattle.std.specs.FinMap as fin
use Rattle.nt_machine.proofs.Ticking.{LateSoFar}
use Rattle.nt_core.proofs.ticks.time_out_all.Given as goal

abbrev pub invariant-loop-thread : goal.invariant-loop-thread
invariant-loop-thread l = LateSoFar l.initial.machine l.machine l.deadline

abbrev pub decreases-loop-thread : goal.decreases-loop-thread
decreases-loop-thread l = fin.len l.machine.table.pending
