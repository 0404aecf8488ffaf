use Rattle.std.proofs.Common.{◌≡◌, [], sym, ◌∙◌, ap}
use Rattle.nt_apc.specs.Inbox.{Contents}
use Rattle.nt_apc.specs.Place.{inbox_at, all_vacated}
use Rattle.nt_apc.specs.Queues.{given_up}
use Rattle.nt_apc.proofs.ListingLemmas.{sound_cleared, cleared_gone, cleared_other, cleared_threads}
use Rattle.nt_apc.proofs.ViewLemmas.{queues_in-set_by, read_at, place_of-threads_in}
use Rattle.nt_apc.proofs.linked.clear.Goals as goal

vacated_is : (c : goal.After-clear) → c.vacate_all.new.places ≡ all_vacated c.args.places.now (inbox_at c.args.inboxes.now c.args.t).timers
vacated_is c =
    let read = read_at c.args.inboxes.now c.args.t c.get.result c.index-inboxes-get.result c.get.ensures c.requires.thread in
    c.vacate_all.ensures ∙ ap (all_vacated c.args.places.now) (c.timers.ensures ∙ ap (λ (inbox : Contents). inbox.timers) read)

pub returns-clause-sound : goal.returns-clause-sound
returns-clause-sound c =
    rw (c.get.ensures, vacated_is c)
    (sound_cleared c.args.inboxes.now c.args.places.now _ c.args.t c.clear.new.self c.requires.sound c.requires.thread c.clear.ensures.queue c.clear.ensures.timers
    (cleared_gone _ _ c.requires.sound c.args.t) (cleared_other _ _ c.requires.sound c.args.t))

pub returns-clause-queues : goal.returns-clause-queues
returns-clause-queues c = rw c.get.ensures (queues_in-set_by c.args.inboxes.now c.args.t c.clear.new.self (λ queue. []) c.clear.ensures.queue)

pub returns-clause-places : goal.returns-clause-places
returns-clause-places c m =
    rw (vacated_is c)
    (place_of-threads_in _ m ∙ cleared_threads _ _ c.requires.sound c.args.t m ∙ ap (given_up c.args.t) (sym (place_of-threads_in c.args.places.now m)))
