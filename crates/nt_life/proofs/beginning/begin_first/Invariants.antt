use Rattle.std.proofs.Common.{◌≡◌, ◌<◌, ℕ, false}
use Rattle.nt_machine.specs.Dispatcher.{state}
use Rattle.nt_machine.specs.Lawful.{IsLawful}
use Rattle.nt_core.specs.Renewals.{is_left}
use Rattle.nt_life.proofs.beginning.begin_first.Given as goal

abbrev pub invariant-loop-thread : goal.invariant-loop-thread
invariant-loop-thread l =
    IsLawful l.core × (state l.core ≡ state l.initial.core) × ((t : ℕ) → t < l.thread → is_left (state l.core) t ≡ false)
