use Rattle.std.proofs.Common.{◌≡◌}
use Rattle.nt_machine.specs.Dispatcher.{state}
use Rattle.nt_explore.specs.Hash.{folded, mixed_one_thread}
use Rattle.nt_explore.proofs.hash.hash_of_threads.Given as goal

abbrev pub invariant-loop-thread : goal.invariant-loop-thread
invariant-loop-thread l = l.so_far ≡ folded (mixed_one_thread (state l.core)) l.hash l.thread
