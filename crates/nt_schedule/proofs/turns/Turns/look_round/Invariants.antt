use Rattle.std.proofs.Common.{◌≡◌, length}
use Rattle.nt_schedule.specs.Turns.{moment_of, looked_round}
use Rattle.nt_schedule.proofs.turns.Turns.look_round.Given as goal

abbrev pub invariant-loop-thread : goal.invariant-loop-thread
invariant-loop-thread l = record {
  moment : moment_of l.self ≡ looked_round l.thread (moment_of l.initial.self);
  len : length l.self.threads.items ≡ length l.initial.self.threads.items;
}
