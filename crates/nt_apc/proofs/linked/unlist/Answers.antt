use Rattle.std.proofs.Common.{◌<◌, length, sym, ◌∙◌, ap, subst}
use Rattle.nt_apc.specs.Inbox.{Contents, GivesUp}
use Rattle.nt_apc.specs.Place.{thread_of_place}
use Rattle.nt_apc.proofs.ListingLemmas.{index_known, sound_unlisted_moved, sound_unlisted_last, vacated_same, vacated_other}
use Rattle.nt_apc.proofs.ViewLemmas.{queues_in-set_same, read_at, place_of-threads_in}
use Rattle.nt_apc.proofs.linked.unlist.Goals as goal

pub bounds-inboxes-get : goal.bounds-inboxes-get
bounds-inboxes-get c = rw c.get.ensures (index_known _ _ c.requires.sound c.args.t c.args.timer c.args.index c.requires.index).0

pub give_up-requires : goal.give_up-requires
give_up-requires c =
    let known = index_known _ _ c.requires.sound c.args.t c.args.timer c.args.index c.requires.index in
    subst (λ (inbox : Contents). c.args.index < length inbox.timers) (sym (read_at c.args.inboxes.now c.args.t c.get.result c.index-inboxes-get.result c.get.ensures known.0)) known.1

pub returns-in_default-clause-sound : goal.returns-in_default-clause-sound
returns-in_default-clause-sound c =
    let known = index_known _ _ c.requires.sound c.args.t c.args.timer c.args.index c.requires.index in
    let read = read_at c.args.inboxes.now c.args.t c.get.result c.index-inboxes-get.result c.get.ensures known.0 in
    rw (c.get.ensures, c.vacate.ensures)
    (sound_unlisted_last _ _ c.args.t c.args.timer c.args.index c.give_up.new.self c.requires.sound c.requires.index c.requires.none
    (c.give_up.ensures.queue ∙ ap (λ (inbox : Contents). inbox.queue) read)
    (subst (λ (inbox : Contents). GivesUp inbox.timers c.give_up.new.self.timers c.args.index) read c.give_up.ensures.timers)
    (sym c.in_default.is ∙ c.give_up.ensures.moved))

pub returns-in_default-clause-queues : goal.returns-in_default-clause-queues
returns-in_default-clause-queues c =
    let known = index_known _ _ c.requires.sound c.args.t c.args.timer c.args.index c.requires.index in
    let read = read_at c.args.inboxes.now c.args.t c.get.result c.index-inboxes-get.result c.get.ensures known.0 in
    rw c.get.ensures (queues_in-set_same _ c.args.t c.give_up.new.self (c.give_up.ensures.queue ∙ ap (λ (inbox : Contents). inbox.queue) read))

pub returns-in_default-clause-gone : goal.returns-in_default-clause-gone
returns-in_default-clause-gone c = rw c.vacate.ensures (place_of-threads_in _ c.args.timer ∙ ap thread_of_place (vacated_same c.args.places.now c.args.timer))

pub returns-in_default-clause-others : goal.returns-in_default-clause-others
returns-in_default-clause-others c m other =
    rw c.vacate.ensures (place_of-threads_in _ m ∙ ap thread_of_place (vacated_other c.args.places.now c.args.timer m other) ∙ sym (place_of-threads_in c.args.places.now m))

pub returns-clause-sound : goal.returns-clause-sound
returns-clause-sound c =
    let known = index_known _ _ c.requires.sound c.args.t c.args.timer c.args.index c.requires.index in
    let read = read_at c.args.inboxes.now c.args.t c.get.result c.index-inboxes-get.result c.get.ensures known.0 in
    rw (c.get.ensures, c.set_index.ensures.places, c.vacate.ensures)
    (sound_unlisted_moved _ _ c.args.t c.args.timer c.args.index c.in-Some.moved c.give_up.new.self c.requires.sound c.requires.index c.requires.none
    (c.give_up.ensures.queue ∙ ap (λ (inbox : Contents). inbox.queue) read)
    (subst (λ (inbox : Contents). GivesUp inbox.timers c.give_up.new.self.timers c.args.index) read c.give_up.ensures.timers)
    (sym c.in-Some.is ∙ c.give_up.ensures.moved))

pub returns-clause-queues : goal.returns-clause-queues
returns-clause-queues c =
    let known = index_known _ _ c.requires.sound c.args.t c.args.timer c.args.index c.requires.index in
    let read = read_at c.args.inboxes.now c.args.t c.get.result c.index-inboxes-get.result c.get.ensures known.0 in
    rw c.get.ensures (queues_in-set_same _ c.args.t c.give_up.new.self (c.give_up.ensures.queue ∙ ap (λ (inbox : Contents). inbox.queue) read))

pub returns-clause-gone : goal.returns-clause-gone
returns-clause-gone c =
    rw (c.set_index.ensures.threads, c.vacate.ensures) (place_of-threads_in _ c.args.timer ∙ ap thread_of_place (vacated_same c.args.places.now c.args.timer))

pub returns-clause-others : goal.returns-clause-others
returns-clause-others c m other =
    rw (c.set_index.ensures.threads, c.vacate.ensures)
    (place_of-threads_in _ m ∙ ap thread_of_place (vacated_other c.args.places.now c.args.timer m other) ∙ sym (place_of-threads_in c.args.places.now m))
