use Rattle.std.proofs.Common.{◌<◌, true, not, length, sym, ◌∙◌, ap, subst}
use Rattle.std.specs.List.{list_any}
use Rattle.nt_apc.specs.Inbox.{Contents}
use Rattle.nt_apc.specs.Queues.{Apcs}
use Rattle.nt_apc.proofs.ViewLemmas.{is_empty-is, queue_of-queues_in, read_at, has_inbox}
use Rattle.nt_apc.proofs.queues.ApcQueues.is_empty.Goals as goal

pub returns : goal.returns
returns c =
    let read = read_at c.self.inside.inboxes.items c.args.t c.get.result c.index.result.now c.get.ensures
    (has_inbox _ _ (subst (λ (apcs : Apcs). c.args.t < length apcs.queues) (sym c.self.view_is) c.requires)) in
    c.is_empty.ensures ∙ is_empty-is c.index.result.now.queue
    ∙ ap (λ (inbox : Contents). not (list_any (λ _. true) inbox.queue)) (c.index.ensures ∙ read)
    ∙ rw (← c.self.view_is) (ap (λ queue. not (list_any (λ _. true) queue)) (sym (queue_of-queues_in c.self.inside.inboxes.items c.args.t)))
