-- The queue before the call is `links` of the blocks and the ends.
use Rattle.std.proofs.Common.{arith, refl, ◌∙◌}
use Rattle.nt_waits.proofs.QueueLemmas.{queue_present, previous_there, next_there, next_thread, queue_detached, detached_elsewhere}
use Rattle.nt_waits.proofs.chain.detach.Goals as goal

pub reach-block-requires-clause-there : goal.reach-block-requires-clause-there
reach-block-requires-clause-there c = queue_present c.args.blocks.now c.args.ends.now c.args.object _ c.requires.queue c.args.number c.requires.linked

pub set_next-requires-clause-there : goal.set_next-requires-clause-there
set_next-requires-clause-there c =
    previous_there c.args.blocks.now c.reach-block.new.blocks c.args.ends.now c.args.object _ c.args.number c.reach-block.result c.requires.queue c.requires.linked c.reach-block.ensures.was c.reach-block.ensures.updates

pub set_previous-requires-clause-there : goal.set_previous-requires-clause-there
set_previous-requires-clause-there c =
    next_there c.args.blocks.now c.reach-block.new.blocks c.args.ends.now c.args.object _ c.args.number c.reach-block.result c.requires.queue c.requires.linked c.reach-block.ensures.was c.reach-block.ensures.updates c.set_next.new.blocks c.set_next.ensures.blocks.owners

pub returns-clause-queue : goal.returns-clause-queue
returns-clause-queue c =
    queue_detached c.args.blocks.now c.reach-block.new.blocks c.args.ends.now c.args.object _ c.args.number c.reach-block.result c.requires.queue c.requires.linked c.reach-block.ensures.was c.reach-block.ensures.updates
    c.set_next.new.blocks c.set_previous.new.blocks c.set_next.new.ends c.set_previous.new.ends c.set_previous.new.ends
    c.set_next.ensures.forward.written c.set_next.ensures.forward.others c.set_next.ensures.backward c.set_next.ensures.blocks.owners
    c.set_previous.ensures.backward.written c.set_previous.ensures.backward.others c.set_previous.ensures.forward c.set_previous.ensures.blocks.owners
    refl refl

pub returns-clause-others : goal.returns-clause-others
returns-clause-others c = record {
  elsewhere = detached_elsewhere c.args.blocks.now c.reach-block.new.blocks c.args.ends.now c.args.object _ c.args.number c.reach-block.result c.requires.queue c.requires.linked c.reach-block.ensures.was c.reach-block.ensures.updates
      c.set_next.new.blocks c.set_previous.new.blocks c.set_next.ensures.blocks.elsewhere c.set_previous.ensures.blocks.elsewhere;
  capacity = c.set_previous.ensures.blocks.capacity ∙ c.set_next.ensures.blocks.capacity ∙ c.reach-block.ensures.capacity;
}

pub returns-clause-reached : goal.returns-clause-reached
returns-clause-reached c =
    let first = c.reach-block.ensures.counted in
    let second = c.set_next.ensures.reached in
    let third = c.set_previous.ensures.reached in
    (omega (arith, first, second.0, third.0), omega (arith, first, second.1, third.1))

pub returns-clause-next : goal.returns-clause-next
returns-clause-next c =
    c.set_previous.ensures.thread
    ∙ next_thread c.args.blocks.now c.reach-block.new.blocks c.args.ends.now c.args.object _ c.args.number c.reach-block.result c.requires.queue c.requires.linked c.reach-block.ensures.was c.reach-block.ensures.updates c.set_next.new.blocks c.set_next.ensures.blocks.owners
