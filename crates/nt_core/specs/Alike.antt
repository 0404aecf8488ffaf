-- When the parts of two dispatchers that no reader tells are the same. No public clause cites this module.
use Rattle.std.specs.Prelude.{◌≡◌, ◌<◌, ℕ, length}
use Rattle.nt_waits.specs.Waits.{queue_of}
use Rattle.nt_machine.specs.Dispatcher.{Dispatcher}

-- the same handles name the same, the same APCs are queued, the same threads may take theirs, and the same waits stand on each object, in the same order
pub record AreAlike (d e : Dispatcher) : Type 0 where
  pub handles : d.handles ≡ e.handles
  pub apcs : d.apcs.queues ≡ e.apcs.queues
  pub handing : d.handing ≡ e.handing
  pub queues : (h : ℕ) → h < length d.objects → queue_of d.table h ≡ queue_of e.table h
