-- The queue before the call is `links` of the blocks and the ends.
use Rattle.std.proofs.Common.{refl, ◌∙◌}
use Rattle.nt_waits.proofs.QueueLemmas.{last_there, queue_attached, attached_elsewhere}
use Rattle.nt_waits.proofs.chain.attach.Goals as goal

pub set_next-requires-clause-there : goal.set_next-requires-clause-there
set_next-requires-clause-there c =
    last_there c.args.blocks.now c.insert_reserved-key.new.self c.args.ends.now c.args.object c.args.thread _ c.insert_reserved-key.result c.requires.queue c.insert_reserved-key.ensures.was_vacant c.insert_reserved-key.ensures.updates

pub returns-clause-queue : goal.returns-clause-queue
returns-clause-queue c =
    let same = c.new-number.ensures in
    let mid = c.set_next.new.ends in
    queue_attached c.args.blocks.now c.insert_reserved-key.new.self c.args.ends.now c.args.object c.args.thread _ c.new-number.result c.requires.queue (rw same c.insert_reserved-key.ensures.was_vacant) (rw same c.insert_reserved-key.ensures.updates)
    c.set_next.new.blocks mid (record { first = mid.first; last = c.some-this.result })
    (c.set_next.ensures.forward.written ∙ c.some-this.ensures) c.set_next.ensures.forward.others c.set_next.ensures.backward c.set_next.ensures.blocks.owners
    refl c.some-this.ensures

pub returns-clause-elsewhere : goal.returns-clause-elsewhere
returns-clause-elsewhere c =
    let same = c.new-number.ensures in
    attached_elsewhere c.args.blocks.now c.insert_reserved-key.new.self c.args.ends.now c.args.object c.args.thread _ c.new-number.result c.requires.queue (rw same c.insert_reserved-key.ensures.was_vacant) (rw same c.insert_reserved-key.ensures.updates)
    c.set_next.new.blocks c.set_next.ensures.blocks.elsewhere
