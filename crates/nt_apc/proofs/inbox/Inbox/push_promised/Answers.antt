use Rattle.std.proofs.Common.{◌<◌, arith, length, subst, sym}
use Rattle.nt_apc.specs.Inbox.{Contents, timed_count}
use Rattle.nt_apc.proofs.QueueLemmas.{counts}
use Rattle.nt_apc.proofs.inbox.Inbox.push_promised.Goals as goal

pub push_back_reserved-requires : goal.push_back_reserved-requires
push_back_reserved-requires c =
    let room : timed_count c.self.inside.queue.items < length c.self.inside.timers.items =
    subst (λ (held : Contents). timed_count held.queue < length held.timers) (sym c.self.view_is) c.requires in
    omega (arith, counts c.self.inside.queue.items, room, c.self.invariant)
