use Rattle.std.proofs.Common.{◌++◌, ◌∷◌, [], None, refl, ◌∙◌, ap}
use Rattle.nt_apc.specs.declared.apc.Queued.{Queued}
use Rattle.nt_apc.specs.Inbox.{Contents}
use Rattle.nt_apc.proofs.SoundLemmas.{push_sound, room_sound}
use Rattle.nt_apc.proofs.ListLemmas.{on_err}
use Rattle.nt_apc.proofs.ViewLemmas.{queues_in-set_by, queues_in-set_same, read_at}
use Rattle.nt_apc.proofs.linked.push.Goals as goal

pub returns-clause-sound : goal.returns-clause-sound
returns-clause-sound c places sound =
    let read = read_at c.args.inboxes.now c.args.t c.get.result c.index-inboxes-get.result c.get.ensures c.requires in
    let q : Queued = record { apc = c.args.apc; timer = None } in
    rw c.get.ensures
    (push_sound c.args.inboxes.now places c.args.t c.push.new.self q refl sound c.requires
    (c.in_ok-push.ensures.ok ∙ ap (λ (inbox : Contents). inbox.queue ++ q ∷ []) read)
    (c.push.ensures.timers ∙ ap (λ (inbox : Contents). inbox.timers) read))

pub returns-clause-ok : goal.returns-clause-ok
returns-clause-ok c =
    let read = read_at c.args.inboxes.now c.args.t c.get.result c.index-inboxes-get.result c.get.ensures c.requires in
    let q : Queued = record { apc = c.args.apc; timer = None } in
    rw c.get.ensures
    (queues_in-set_by c.args.inboxes.now c.args.t c.push.new.self (λ queue. queue ++ q ∷ [])
    (c.in_ok-push.ensures.ok ∙ ap (λ (inbox : Contents). inbox.queue ++ q ∷ []) read))

pub returns-in_err-push-clause-sound : goal.returns-in_err-push-clause-sound
returns-in_err-push-clause-sound c places sound =
    let read = read_at c.args.inboxes.now c.args.t c.get.result c.index-inboxes-get.result c.get.ensures c.requires in
    rw c.get.ensures
    (room_sound c.args.inboxes.now places c.args.t c.push.new.self sound c.requires
    (c.in_err-push.ensures.err ∙ ap (λ (inbox : Contents). inbox.queue) read)
    (c.push.ensures.timers ∙ ap (λ (inbox : Contents). inbox.timers) read))

pub returns-in_err-push-clause-err : goal.returns-in_err-push-clause-err
returns-in_err-push-clause-err c =
    let read = read_at c.args.inboxes.now c.args.t c.get.result c.index-inboxes-get.result c.get.ensures c.requires in
    on_err c.from_residual.result
    (rw c.get.ensures
    (queues_in-set_same c.args.inboxes.now c.args.t c.push.new.self (c.in_err-push.ensures.err ∙ ap (λ (inbox : Contents). inbox.queue) read)))
