use Rattle.std.proofs.Common.{◌≡◌, ◌≤◌, length}
use Rattle.std.specs.Prelude.{slice_get}
use Rattle.nt_apc.specs.Queues.{apc_queue_of}
use Rattle.nt_machine.specs.Dispatcher.{state}
use Rattle.nt_explore.specs.Hash.{folded, mixed_apc}
use Rattle.nt_explore.proofs.hash.hash_of_apcs.Given as goal

abbrev pub invariant-loop-position : goal.invariant-loop-position
invariant-loop-position l =
    let queue = apc_queue_of (state l.core).apcs l.thread in
    (l.so_far ≡ folded (λ h i. mixed_apc h (slice_get queue i)) l.hash l.position) × (l.position ≤ length queue)
