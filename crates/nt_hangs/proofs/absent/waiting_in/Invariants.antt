use Rattle.std.proofs.Common.{◌≡◌, ◌<◌, ◌&&◌, ℕ, vec_len}
use Rattle.nt_machine.specs.Dispatcher.{state}
use Rattle.nt_calls.specs.State.{pends}
use Rattle.nt_look.specs.Hangs.{marked}
use Rattle.nt_hangs.proofs.absent.waiting_in.Given as goal

abbrev pub invariant-loop-thread : goal.invariant-loop-thread
invariant-loop-thread l =
    (vec_len l.held ≡ l.thread)
    × ((t : ℕ) → t < l.thread → marked l.held.items t ≡ (marked l.knot t && pends (state l.core) t))
