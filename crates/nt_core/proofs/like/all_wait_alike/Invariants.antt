use Rattle.std.proofs.Common.{◌≡◌, ◌<◌, ℕ}
use Rattle.std.specs.FinMap as map
use Rattle.nt_machine.specs.Dispatcher.{state}
use Rattle.nt_core.proofs.like.all_wait_alike.Given as goal

abbrev pub invariant-loop-thread : goal.invariant-loop-thread
invariant-loop-thread l = (t : ℕ) → t < l.thread → map.get (state l.core).waits t ≡ map.get (state l.other).waits t
