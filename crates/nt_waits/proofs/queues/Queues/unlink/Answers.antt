use Rattle.std.proofs.Common.{ap, refl, sym, ◌∙◌}
use Rattle.nt_waits.specs.Sound.{ends_at}
use Rattle.nt_waits.proofs.SoundLemmas.{listed_within, queue_is_list, list_here, queue_here, sound_after, lists_after, thread_after-links}
use Rattle.nt_waits.proofs.queues.Queues.unlink.Goals as goal

pub detach-requires-clause-queue : goal.detach-requires-clause-queue
detach-requires-clause-queue c =
    queue_here c.self.inside.blocks c.self.inside.ends.items c.args.self.now.lists c.args.object c.get-at.result c.index_mut.result.now (ap (λ v. v.lists) c.self.view_is) c.self.invariant c.get-at.ensures (listed_within c.args.self.now.lists c.args.object c.args.number c.requires.linked) c.index_mut.ensures.value

pub invariant_of-self : goal.invariant_of-self
invariant_of-self c =
    sound_after c.self.inside.blocks c.self.inside.ends.items c.args.self.now.lists c.args.object c.get-at.result c.index_mut.result.now (ap (λ v. v.lists) c.self.view_is) c.self.invariant c.get-at.ensures (listed_within c.args.self.now.lists c.args.object c.args.number c.requires.linked) c.index_mut.ensures.value
    c.detach.new.blocks c.detach.new.ends _ c.detach.ensures.queue (λ k there. c.detach.ensures.others.elsewhere k)

pub returns-clause-lists : goal.returns-clause-lists
returns-clause-lists c =
    let view = ap (λ v. v.lists) c.self.view_is in
    let within = listed_within c.args.self.now.lists c.args.object c.args.number c.requires.linked in
    let here = list_here c.self.inside.blocks c.self.inside.ends.items c.args.self.now.lists c.args.object c.get-at.result c.index_mut.result.now view c.self.invariant c.get-at.ensures within c.index_mut.ensures.value in
    rw (← here) (lists_after c.self.inside.blocks c.self.inside.ends.items c.args.self.now.lists c.args.object c.get-at.result c.index_mut.result.now view c.self.invariant c.get-at.ensures within c.index_mut.ensures.value
    c.detach.new.blocks c.detach.new.ends _ c.detach.ensures.queue (λ k there. c.detach.ensures.others.elsewhere k))

pub returns-clause-distinct : goal.returns-clause-distinct
returns-clause-distinct c h =
    let sound = sound_after c.self.inside.blocks c.self.inside.ends.items c.args.self.now.lists c.args.object c.get-at.result c.index_mut.result.now (ap (λ v. v.lists) c.self.view_is) c.self.invariant c.get-at.ensures (listed_within c.args.self.now.lists c.args.object c.args.number c.requires.linked) c.index_mut.ensures.value
    c.detach.new.blocks c.detach.new.ends _ c.detach.ensures.queue (λ k there. c.detach.ensures.others.elsewhere k) in
    (queue_is_list c.detach.new.blocks _ _ h refl sound).distinct

pub returns-clause-next : goal.returns-clause-next
returns-clause-next c =
    let queue = queue_is_list c.self.inside.blocks c.self.inside.ends.items c.args.self.now.lists c.args.object (ap (λ v. v.lists) c.self.view_is) c.self.invariant in
    c.detach.ensures.next ∙ sym (thread_after-links c.self.inside.blocks (ends_at c.self.inside.ends.items c.args.object) c.args.object _ c.args.number queue c.requires.linked)
