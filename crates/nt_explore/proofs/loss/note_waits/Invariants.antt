use Rattle.nt_machine.specs.Dispatcher.{state}
use Rattle.nt_explore.specs.Levels.{IsRow}
use Rattle.nt_explore.proofs.loss.note_waits.Given as goal

abbrev pub invariant-loop-thread : goal.invariant-loop-thread
invariant-loop-thread l = IsRow l.initial.waits.items l.waits.items l.thread (state l.position.core)
