use Rattle.std.proofs.Common.{◌++◌, ◌∷◌, [], false, length, slice_set, Some, None, sym, ◌∙◌, ap, get_or-set_same, get_or-set_other}
use Rattle.nt_apc.specs.declared.place.Place.{Place}
use Rattle.nt_apc.specs.Inbox.{Contents}
use Rattle.nt_apc.specs.Place.{thread_of_place}
use Rattle.nt_apc.proofs.ListingLemmas.{sound_listed, place_with}
use Rattle.nt_apc.proofs.ViewLemmas.{queues_in-set_same, read_at, place_of-threads_in}
use Rattle.nt_apc.proofs.linked.list.Goals as goal

pub returns-clause-sound : goal.returns-clause-sound
returns-clause-sound c =
    let read = read_at c.args.inboxes.now c.args.t c.get-at.result c.index-inboxes-at.result c.get-at.ensures c.requires.room.thread in
    let again = read_at c.args.inboxes.now c.args.t c.get-at.result c.index-inboxes-at-2.result c.get-at.ensures c.requires.room.thread in
    let placed : Place = place_with c.args.t (length c.timers.result.now) false in
    rw (c.get-at.ensures, c.get.ensures)
    (sound_listed c.args.inboxes.now c.args.places.now (slice_set c.args.places.now c.args.timer (Some placed)) c.args.t c.args.timer c.promise.new.self
    c.requires.sound c.requires.room.thread c.requires.none
    (c.promise.ensures.queue ∙ ap (λ (inbox : Contents). inbox.queue) again)
    (c.promise.ensures.timers ∙ ap (λ (inbox : Contents). inbox.timers ++ c.args.timer ∷ []) again)
    (get_or-set_same c.args.places.now c.args.timer (Some placed) None c.requires.room.known
    ∙ ap (λ n. Some (place_with c.args.t n false)) (ap length (c.timers.ensures ∙ ap (λ (inbox : Contents). inbox.timers) read)))
    (λ m other. get_or-set_other c.args.places.now c.args.timer m (Some placed) None other))

pub returns-clause-queues : goal.returns-clause-queues
returns-clause-queues c =
    let again = read_at c.args.inboxes.now c.args.t c.get-at.result c.index-inboxes-at-2.result c.get-at.ensures c.requires.room.thread in
    rw c.get-at.ensures (queues_in-set_same _ c.args.t c.promise.new.self (c.promise.ensures.queue ∙ ap (λ (inbox : Contents). inbox.queue) again))

pub returns-clause-here : goal.returns-clause-here
returns-clause-here c =
    let placed : Place = place_with c.args.t (length c.timers.result.now) false in
    rw c.get.ensures
    (place_of-threads_in (slice_set c.args.places.now c.args.timer (Some placed)) c.args.timer
    ∙ ap thread_of_place (get_or-set_same c.args.places.now c.args.timer (Some placed) None c.requires.room.known))

pub returns-clause-others : goal.returns-clause-others
returns-clause-others c m other =
    let placed : Place = place_with c.args.t (length c.timers.result.now) false in
    rw c.get.ensures
    (place_of-threads_in (slice_set c.args.places.now c.args.timer (Some placed)) m
    ∙ ap thread_of_place (get_or-set_other c.args.places.now c.args.timer m (Some placed) None other)
    ∙ sym (place_of-threads_in c.args.places.now m))
