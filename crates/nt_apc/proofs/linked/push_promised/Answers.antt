use Rattle.std.proofs.Common.{◌<◌, ◌++◌, ◌∷◌, [], length, Some, refl, sym, ◌∙◌, ap, subst}
use Rattle.nt_apc.specs.declared.apc.Queued.{Queued}
use Rattle.nt_apc.specs.Inbox.{Contents, timed_count}
use Rattle.nt_apc.proofs.SoundLemmas.{place_known, place_room, push_promised_sound}
use Rattle.nt_apc.proofs.ViewLemmas.{queues_in-set_by, read_at}
use Rattle.nt_apc.proofs.linked.push_promised.Goals as goal

pub bounds-inboxes-get : goal.bounds-inboxes-get
bounds-inboxes-get c = rw c.get.ensures (place_known _ _ c.requires.sound _ _ c.requires.placed)

pub push_promised-requires : goal.push_promised-requires
push_promised-requires c =
    subst (λ (inbox : Contents). timed_count inbox.queue < length inbox.timers)
    (sym (read_at c.args.inboxes.now c.args.t c.get.result c.index-inboxes-get.result c.get.ensures (place_known _ _ c.requires.sound _ _ c.requires.placed)))
    (place_room _ _ c.args.t c.args.timer c.requires.sound c.requires.placed c.requires.none)

pub returns-clause-sound : goal.returns-clause-sound
returns-clause-sound c =
    let read = read_at c.args.inboxes.now c.args.t c.get.result c.index-inboxes-get.result c.get.ensures (place_known _ _ c.requires.sound _ _ c.requires.placed) in
    let q : Queued = record { apc = c.args.apc; timer = Some c.args.timer } in
    rw (c.get.ensures, c.mark.ensures.places)
    (push_promised_sound _ _ c.args.t c.args.timer c.push_promised.new.self q refl c.requires.sound c.requires.placed c.requires.none
    (c.push_promised.ensures.queue ∙ ap (λ (inbox : Contents). inbox.queue ++ q ∷ []) read)
    (c.push_promised.ensures.timers ∙ ap (λ (inbox : Contents). inbox.timers) read))

pub returns-clause-queues : goal.returns-clause-queues
returns-clause-queues c =
    let read = read_at c.args.inboxes.now c.args.t c.get.result c.index-inboxes-get.result c.get.ensures (place_known _ _ c.requires.sound _ _ c.requires.placed) in
    let q : Queued = record { apc = c.args.apc; timer = Some c.args.timer } in
    rw c.get.ensures
    (queues_in-set_by c.args.inboxes.now c.args.t c.push_promised.new.self (λ queue. queue ++ q ∷ [])
    (c.push_promised.ensures.queue ∙ ap (λ (inbox : Contents). inbox.queue ++ q ∷ []) read))
