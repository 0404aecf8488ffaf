use Rattle.std.proofs.Common.{◌≡◌, ◌<◌, ℕ, true}
use Rattle.nt_calls.specs.State.{pends}
use Rattle.nt_machine.specs.Dispatcher.{state}
use Rattle.nt_look.specs.Hangs.{marked}
use Rattle.nt_explore.proofs.hanging.has_waiting.Given as goal

abbrev pub invariant-loop-thread : goal.invariant-loop-thread
invariant-loop-thread l = (t : ℕ) → t < l.thread → marked l.among t ≡ true → pends (state l.core) t ≡ true → ⊥
