use Rattle.nt_apc.proofs.ViewLemmas.{empty_sound}
use Rattle.nt_apc.proofs.queues.ApcQueues.new.Goals as goal

pub invariant_of-result : goal.invariant_of-result
invariant_of-result c = rw c.new-2.ensures.items (empty_sound c.loop.inboxes.items c.loop.counter c.loop.invariant.queues c.loop.invariant.timers)
