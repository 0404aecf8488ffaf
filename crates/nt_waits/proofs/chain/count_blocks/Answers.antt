use Rattle.std.proofs.Common.{◌<◌, length, arith, sym}
use Rattle.nt_waits.specs.Queue.{links}
use Rattle.nt_waits.proofs.QueueLemmas.{queue_fits}
use Rattle.nt_waits.proofs.WalkLemmas.{none_counted, one_more, all_counted, number_there, none_there}
use Rattle.nt_waits.proofs.chain.count_blocks.Goals as goal

pub loop-at-init : goal.loop-at-init
loop-at-init c = none_counted c.args.blocks.now c.args.ends.now c.requires.0 c.requires.1

-- more blocks than were counted lie there, and no more than fit
pub overflow_add-count : goal.overflow_add-count
overflow_add-count c =
    let at = number_there c.loop-at.at c.is_none.result c.is_none.ensures c.loop-at-test.true in
    let less : c.loop-at.count < length (links c.args.blocks.now c.args.ends.now) = (one_more c.args.blocks.now c.args.ends.now c.loop-at.count c.loop-at.at c.loop-at.invariant at.0 at.1).0 in
    let keys = queue_fits c.args.blocks.now c.args.ends.now c.requires.0 (links c.args.blocks.now c.args.ends.now) c.requires.1 in
    let room = c.capacity-room.ensures.slots in
    let small = c.capacity-room.auto in
    omega (arith, less, keys, room, small)

pub index-requires : goal.index-requires
index-requires c =
    rw c.get.ensures (one_more c.args.blocks.now c.args.ends.now c.loop-at.count c.loop-at.at c.loop-at.invariant c.number.result (sym c.number.ensures)).1

pub loop-at-preserved : goal.loop-at-preserved
loop-at-preserved c =
    (one_more c.args.blocks.now c.args.ends.now c.loop-at.count c.loop-at.at c.loop-at.invariant c.number.result (sym c.number.ensures)).2 c.index.result.now (rw c.get.ensures at c.index.ensures)

pub loop-at-smaller : goal.loop-at-smaller
loop-at-smaller c =
    let less = (one_more c.args.blocks.now c.args.ends.now c.loop-at.count c.loop-at.at c.loop-at.invariant c.number.result (sym c.number.ensures)).0 in
    omega (arith, less)

pub returns : goal.returns
returns c = all_counted c.args.blocks.now c.args.ends.now c.loop-at.count c.loop-at.at c.loop-at.invariant (none_there c.loop-at.at c.is_none.result c.is_none.ensures c.loop-at-test.false)
