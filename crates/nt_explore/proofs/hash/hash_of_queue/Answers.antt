use Rattle.std.proofs.Common.{◌≡◌, ◌-◌, ◌+◌, ℕ, Option, Some, ap, sym, ◌∙◌, arith}
use Rattle.nt_machine.specs.Dispatcher.{state}
use Rattle.nt_explore.specs.Hash.{mixed_thread, mixed_queue}
use Rattle.nt_explore.proofs.Slots.{next_stands, queue_on}
use Rattle.nt_explore.proofs.hash.hash_of_queue.Goals as goal

pub loop-preserved : goal.loop-preserved
loop-preserved c =
    let s = state c.args.core.now in
    let queue = s.queues c.args.object in
    let left : ℕ = s.threads - (c.loop.counter + 1) in
    let t : ℕ = c.in-Some.thread in
    let below = c.loop-test.true in
    let more : s.threads - c.loop.counter ≡ left + 1 = omega (arith, below) in
    let mixed = c.mixed_thread-so_far.ensures ∙ ap (λ (o : Option ℕ). mixed_thread c.loop.so_far o) c.in-Some.is in (
      next_stands queue t c.next_on-next.result c.next_on-next.ensures,
      ap (λ (h : ℕ). mixed_queue left queue h c.next_on-next.result) mixed
          ∙ (ap (λ (o : Option ℕ). mixed_queue left queue (mixed_thread c.loop.so_far (Some t)) o) c.next_on-next.ensures
          ∙ (sym (queue_on (s.threads - c.loop.counter) left queue c.loop.so_far t c.loop.next more c.in-Some.is) ∙ c.loop.invariant.1)),
    )
