use Rattle.std.proofs.Common.{◌≡◌}
use Rattle.nt_schedule.specs.Turns.{deadline}
use Rattle.nt_schedule.proofs.turns.Turns.deadline.Given as goal

abbrev pub invariant-loop-thread : goal.invariant-loop-thread
invariant-loop-thread l = l.least ≡ deadline l.thread l.self.threads.items
