use Rattle.std.proofs.Common.{slice_index_or, sym, ◌∙◌, ap, ◌<◌, length}
use Rattle.nt_apc.specs.Queues.{has_from, without_from}
use Rattle.nt_apc.proofs.QueueLemmas.{has_from-without_from}
use Rattle.nt_apc.specs.Inbox.{Contents}
use Rattle.nt_apc.proofs.SoundLemmas.{inbox_set_at, place_known, stands_at-is, standing_placed, withdraw_sound}
use Rattle.nt_apc.proofs.ViewLemmas.{queues_in-set_by, queues_in-without_none, read_at}
use Rattle.nt_apc.proofs.linked.withdraw.Goals as goal

pub bounds-inboxes-get : goal.bounds-inboxes-get
bounds-inboxes-get c =
    rw c.get.ensures (place_known _ _ c.requires _ _ (standing_placed _ _ c.requires c.args.t c.args.timer (sym c.is_queued.ensures ∙ c.if-is_queued.true)))

pub returns-then-is_queued-clause-sound : goal.returns-then-is_queued-clause-sound
returns-then-is_queued-clause-sound c =
    let placed = standing_placed _ _ c.requires c.args.t c.args.timer (sym c.is_queued.ensures ∙ c.if-is_queued.true) in
    let read = read_at c.args.inboxes.now c.args.t c.get.result c.index-inboxes-get.result c.get.ensures (place_known _ _ c.requires _ _ placed) in
    rw (c.get.ensures, c.mark.ensures.places)
    (withdraw_sound _ _ c.args.t c.args.timer c.withdraw.new.self c.requires placed
    (c.withdraw.ensures.queue ∙ ap (λ (inbox : Contents). without_from c.args.timer inbox.queue) read)
    (c.withdraw.ensures.timers ∙ ap (λ (inbox : Contents). inbox.timers) read))

pub returns-then-is_queued-clause-queues : goal.returns-then-is_queued-clause-queues
returns-then-is_queued-clause-queues c =
    let placed = standing_placed _ _ c.requires c.args.t c.args.timer (sym c.is_queued.ensures ∙ c.if-is_queued.true) in
    let read = read_at c.args.inboxes.now c.args.t c.get.result c.index-inboxes-get.result c.get.ensures (place_known _ _ c.requires _ _ placed) in
    rw c.get.ensures
    (queues_in-set_by c.args.inboxes.now c.args.t c.withdraw.new.self (without_from c.args.timer)
    (c.withdraw.ensures.queue ∙ ap (λ (inbox : Contents). without_from c.args.timer inbox.queue) read))

pub returns-else-is_queued-clause-queues : goal.returns-else-is_queued-clause-queues
returns-else-is_queued-clause-queues c =
    queues_in-without_none _ c.args.t c.args.timer (sym (stands_at-is _ _ c.requires c.args.t c.args.timer) ∙ sym c.is_queued.ensures ∙ c.if-is_queued.false)

pub returns-then-is_queued-clause-none : goal.returns-then-is_queued-clause-none
returns-then-is_queued-clause-none c =
    let placed = standing_placed _ _ c.requires c.args.t c.args.timer (sym c.is_queued.ensures ∙ c.if-is_queued.true) in
    let below : c.get.result < length c.args.inboxes.now = rw c.get.ensures (place_known _ _ c.requires _ _ placed) in
    ap (λ (held : Contents). has_from c.args.timer held.queue) (inbox_set_at c.args.inboxes.now c.get.result c.args.t c.withdraw.new.self below (sym c.get.ensures))
    ∙ ap (has_from c.args.timer) c.withdraw.ensures.queue ∙ has_from-without_from c.args.timer (slice_index_or c.args.inboxes.now c.get.result c.index-inboxes-get.result).queue

pub returns-else-is_queued-clause-none : goal.returns-else-is_queued-clause-none
returns-else-is_queued-clause-none c = sym (stands_at-is _ _ c.requires c.args.t c.args.timer) ∙ sym c.is_queued.ensures ∙ c.if-is_queued.false
