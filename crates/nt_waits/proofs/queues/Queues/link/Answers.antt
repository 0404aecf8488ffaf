use Rattle.std.proofs.Common.{ap, refl}
use Rattle.nt_waits.proofs.SoundLemmas.{queue_is_list, list_here, queue_here, sound_after, lists_after, vacant_differs}
use Rattle.nt_waits.proofs.queues.Queues.link.Goals as goal

pub attach-requires-clause-queue : goal.attach-requires-clause-queue
attach-requires-clause-queue c =
    queue_here c.self.inside.blocks c.self.inside.ends.items c.args.self.now.lists c.args.object c.get-at.result c.index_mut.result.now (ap (λ v. v.lists) c.self.view_is) c.self.invariant c.get-at.ensures c.requires.there c.index_mut.ensures.value

pub invariant_of-self : goal.invariant_of-self
invariant_of-self c =
    sound_after c.self.inside.blocks c.self.inside.ends.items c.args.self.now.lists c.args.object c.get-at.result c.index_mut.result.now (ap (λ v. v.lists) c.self.view_is) c.self.invariant c.get-at.ensures c.requires.there c.index_mut.ensures.value
    c.attach.new.blocks c.attach.new.ends _ c.attach.ensures.queue (λ k there. c.attach.ensures.elsewhere k (vacant_differs c.self.inside.blocks k c.attach.result there c.attach.ensures.fresh))

pub returns-clause-lists : goal.returns-clause-lists
returns-clause-lists c =
    let view = ap (λ v. v.lists) c.self.view_is in
    let here = list_here c.self.inside.blocks c.self.inside.ends.items c.args.self.now.lists c.args.object c.get-at.result c.index_mut.result.now view c.self.invariant c.get-at.ensures c.requires.there c.index_mut.ensures.value in
    rw (← here) (lists_after c.self.inside.blocks c.self.inside.ends.items c.args.self.now.lists c.args.object c.get-at.result c.index_mut.result.now view c.self.invariant c.get-at.ensures c.requires.there c.index_mut.ensures.value
    c.attach.new.blocks c.attach.new.ends _ c.attach.ensures.queue (λ k there. c.attach.ensures.elsewhere k (vacant_differs c.self.inside.blocks k c.attach.result there c.attach.ensures.fresh)))

pub returns-clause-distinct : goal.returns-clause-distinct
returns-clause-distinct c h =
    let sound = sound_after c.self.inside.blocks c.self.inside.ends.items c.args.self.now.lists c.args.object c.get-at.result c.index_mut.result.now (ap (λ v. v.lists) c.self.view_is) c.self.invariant c.get-at.ensures c.requires.there c.index_mut.ensures.value
    c.attach.new.blocks c.attach.new.ends _ c.attach.ensures.queue (λ k there. c.attach.ensures.elsewhere k (vacant_differs c.self.inside.blocks k c.attach.result there c.attach.ensures.fresh)) in
    (queue_is_list c.attach.new.blocks _ _ h refl sound).distinct
