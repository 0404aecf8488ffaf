use Rattle.std.proofs.Common.{◌≡◌}
use Rattle.nt_schedule.specs.Turns.{sleeper}
use Rattle.nt_schedule.proofs.turns.Turns.sleeper.Given as goal

abbrev pub invariant-loop-thread : goal.invariant-loop-thread
invariant-loop-thread l = l.first ≡ sleeper l.thread l.word l.self.threads.items
