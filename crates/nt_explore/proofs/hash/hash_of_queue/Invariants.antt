use Rattle.std.proofs.Common.{◌≡◌, ◌-◌, Contains}
use Rattle.std.specs.Prelude.{slice_get}
use Rattle.std.specs.Option.{ForSome}
use Rattle.nt_machine.specs.Dispatcher.{state}
use Rattle.nt_explore.specs.Hash.{mixed_queue}
use Rattle.nt_explore.proofs.hash.hash_of_queue.Given as goal

abbrev pub invariant-loop : goal.invariant-loop
invariant-loop l =
    let s = state l.core in
    ForSome l.next (λ t. Contains (s.queues l.object) t)
    × (mixed_queue (s.threads - l.counter) (s.queues l.object) l.so_far l.next ≡ mixed_queue s.threads (s.queues l.object) l.hash (slice_get (s.queues l.object) 0))
