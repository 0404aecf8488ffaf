use Rattle.std.proofs.Common.{◌∙◌, ap, arith}
use Rattle.nt_apc.specs.Inbox.{Contents}
use Rattle.nt_apc.proofs.ViewLemmas.{copied_more, copied_all, copied_sound}
use Rattle.nt_apc.proofs.linked.copy.Goals as goal

pub loop-inbox-preserved : goal.loop-inbox-preserved
loop-inbox-preserved c = record {
  count = omega (arith, c.push_reserved.ensures.len, c.loop-inbox.invariant.count);
  room = omega (arith, c.push_reserved.ensures.capacity, c.loop-inbox.invariant.room);
  queues = rw c.push_reserved.ensures.items
      (copied_more (λ (inbox : Contents). inbox.queue) c.args.inboxes.now c.loop-inbox.copied.items c.loop-inbox.inbox-index c.in_ok-copy.field-0 c.inbox-item.result
      c.loop-inbox.invariant.queues c.loop-inbox-test.true
      (c.in_ok-copy.ensures.queue ∙ ap (λ (inbox : Contents). inbox.queue) c.inbox-item.is));
  timers = rw c.push_reserved.ensures.items
      (copied_more (λ (inbox : Contents). inbox.timers) c.args.inboxes.now c.loop-inbox.copied.items c.loop-inbox.inbox-index c.in_ok-copy.field-0 c.inbox-item.result
      c.loop-inbox.invariant.timers c.loop-inbox-test.true
      (c.in_ok-copy.ensures.timers ∙ ap (λ (inbox : Contents). inbox.timers) c.inbox-item.is));
}

pub returns-clause-sound : goal.returns-clause-sound
returns-clause-sound c =
    copied_sound c.args.inboxes.now c.loop-inbox.copied.items
    (copied_all (λ (inbox : Contents). inbox.queue) c.args.inboxes.now c.loop-inbox.copied.items c.loop-inbox.inbox-index c.loop-inbox.invariant.queues c.loop-inbox-test.false)
    (copied_all (λ (inbox : Contents). inbox.timers) c.args.inboxes.now c.loop-inbox.copied.items c.loop-inbox.inbox-index c.loop-inbox.invariant.timers c.loop-inbox-test.false)
