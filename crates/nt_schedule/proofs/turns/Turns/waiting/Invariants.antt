use Rattle.std.proofs.Common.{◌≡◌}
use Rattle.nt_schedule.specs.Turns.{waiting}
use Rattle.nt_schedule.proofs.turns.Turns.waiting.Given as goal

abbrev pub invariant-loop-thread : goal.invariant-loop-thread
invariant-loop-thread l = l.first ≡ waiting l.thread l.caller l.self.threads.items
