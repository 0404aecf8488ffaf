use Rattle.std.proofs.Common.{sym, ◌∙◌, ap}
use Rattle.nt_apc.specs.Queues.{oldest, without_oldest}
use Rattle.nt_apc.specs.Inbox.{Contents}
use Rattle.nt_apc.proofs.SoundLemmas.{next_none_sound, next_plain_sound, next_timed_sound}
use Rattle.nt_apc.proofs.ViewLemmas.{queues_in-set_by, read_at}
use Rattle.nt_apc.proofs.linked.next.Goals as goal

pub returns-in_default-clause-sound : goal.returns-in_default-clause-sound
returns-in_default-clause-sound c =
    let read = read_at c.args.inboxes.now c.args.t c.get.result c.index-inboxes-get.result c.get.ensures c.requires.thread in
    rw c.get.ensures
    (next_none_sound _ _ c.args.t c.next.new.self c.requires.sound c.requires.thread
    (sym (ap (λ (inbox : Contents). oldest inbox.queue) read) ∙ sym c.next.ensures.oldest ∙ c.in_default.is)
    (c.next.ensures.queue ∙ ap (λ (inbox : Contents). without_oldest inbox.queue) read)
    (c.next.ensures.timers ∙ ap (λ (inbox : Contents). inbox.timers) read))

pub returns-in_default-clause-queues : goal.returns-in_default-clause-queues
returns-in_default-clause-queues c =
    let read = read_at c.args.inboxes.now c.args.t c.get.result c.index-inboxes-get.result c.get.ensures c.requires.thread in
    rw c.get.ensures
    (queues_in-set_by c.args.inboxes.now c.args.t c.next.new.self without_oldest
    (c.next.ensures.queue ∙ ap (λ (inbox : Contents). without_oldest inbox.queue) read))

pub returns-in_default-timer-clause-sound : goal.returns-in_default-timer-clause-sound
returns-in_default-timer-clause-sound c =
    let read = read_at c.args.inboxes.now c.args.t c.get.result c.index-inboxes-get.result c.get.ensures c.requires.thread in
    rw c.get.ensures
    (next_plain_sound _ _ c.args.t c.next.new.self c.in-Some.queued c.in_default-timer.is c.requires.sound c.requires.thread
    (sym (ap (λ (inbox : Contents). oldest inbox.queue) read) ∙ sym c.next.ensures.oldest ∙ c.in-Some.is)
    (c.next.ensures.queue ∙ ap (λ (inbox : Contents). without_oldest inbox.queue) read)
    (c.next.ensures.timers ∙ ap (λ (inbox : Contents). inbox.timers) read))

pub returns-in_default-timer-clause-queues : goal.returns-in_default-timer-clause-queues
returns-in_default-timer-clause-queues c =
    let read = read_at c.args.inboxes.now c.args.t c.get.result c.index-inboxes-get.result c.get.ensures c.requires.thread in
    rw c.get.ensures
    (queues_in-set_by c.args.inboxes.now c.args.t c.next.new.self without_oldest
    (c.next.ensures.queue ∙ ap (λ (inbox : Contents). without_oldest inbox.queue) read))

pub returns-clause-sound : goal.returns-clause-sound
returns-clause-sound c =
    let read = read_at c.args.inboxes.now c.args.t c.get.result c.index-inboxes-get.result c.get.ensures c.requires.thread in
    rw (c.get.ensures, c.mark.ensures.places)
    (next_timed_sound _ _ c.args.t c.in-Some-timer.timer c.next.new.self c.in-Some.queued c.in-Some-timer.is c.requires.sound
    (sym (ap (λ (inbox : Contents). oldest inbox.queue) read) ∙ sym c.next.ensures.oldest ∙ c.in-Some.is)
    (c.next.ensures.queue ∙ ap (λ (inbox : Contents). without_oldest inbox.queue) read)
    (c.next.ensures.timers ∙ ap (λ (inbox : Contents). inbox.timers) read))

pub returns-clause-queues : goal.returns-clause-queues
returns-clause-queues c =
    let read = read_at c.args.inboxes.now c.args.t c.get.result c.index-inboxes-get.result c.get.ensures c.requires.thread in
    rw c.get.ensures
    (queues_in-set_by c.args.inboxes.now c.args.t c.next.new.self without_oldest
    (c.next.ensures.queue ∙ ap (λ (inbox : Contents). without_oldest inbox.queue) read))
