use Rattle.std.proofs.Common.{◌≡◌, ◌≤◌, vec_len, vec_capacity}
use Rattle.nt_front.specs.Wakes.{AreNumbered}
use Rattle.nt_front.proofs.wake.Bells.new.Given as goal

abbrev pub invariant-loop-thread : goal.invariant-loop-thread
invariant-loop-thread l = record {
  count : vec_len l.all ≡ l.thread;
  numbered : AreNumbered l.all.items;
  room : l.threads ≤ vec_capacity l.all;
}
