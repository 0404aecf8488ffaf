use Rattle.std.proofs.Common.{◌∙◌, ap}
use Rattle.nt_apc.specs.Inbox.{Contents}
use Rattle.nt_apc.proofs.SoundLemmas.{room_sound}
use Rattle.nt_apc.proofs.ViewLemmas.{queues_in-set_same, read_at}
use Rattle.nt_apc.proofs.linked.make_room.Goals as goal

pub returns-in_err-reserve-2-clause-sound : goal.returns-in_err-reserve-2-clause-sound
returns-in_err-reserve-2-clause-sound c places sound =
    let read = read_at c.args.inboxes.now c.args.t c.get.result c.index-inboxes-get.result c.get.ensures c.requires in
    rw c.get.ensures
    (room_sound c.args.inboxes.now places c.args.t c.reserve-2.new.self sound c.requires
    (c.reserve-2.ensures.queue ∙ ap (λ (inbox : Contents). inbox.queue) read)
    (c.reserve-2.ensures.timers ∙ ap (λ (inbox : Contents). inbox.timers) read))

pub returns-in_err-reserve-2-clause-queues : goal.returns-in_err-reserve-2-clause-queues
returns-in_err-reserve-2-clause-queues c =
    let read = read_at c.args.inboxes.now c.args.t c.get.result c.index-inboxes-get.result c.get.ensures c.requires in
    rw c.get.ensures (queues_in-set_same _ c.args.t c.reserve-2.new.self (c.reserve-2.ensures.queue ∙ ap (λ (inbox : Contents). inbox.queue) read))

pub returns-clause-sound : goal.returns-clause-sound
returns-clause-sound c places sound =
    let read = read_at c.args.inboxes.now c.args.t c.get.result c.index-inboxes-get.result c.get.ensures c.requires in
    rw c.get.ensures
    (room_sound c.args.inboxes.now places c.args.t c.reserve-2.new.self sound c.requires
    (c.reserve-2.ensures.queue ∙ ap (λ (inbox : Contents). inbox.queue) read)
    (c.reserve-2.ensures.timers ∙ ap (λ (inbox : Contents). inbox.timers) read))

pub returns-clause-queues : goal.returns-clause-queues
returns-clause-queues c =
    let read = read_at c.args.inboxes.now c.args.t c.get.result c.index-inboxes-get.result c.get.ensures c.requires in
    rw c.get.ensures (queues_in-set_same _ c.args.t c.reserve-2.new.self (c.reserve-2.ensures.queue ∙ ap (λ (inbox : Contents). inbox.queue) read))
