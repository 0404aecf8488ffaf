use Rattle.std.proofs.Common.{ap, sym, ◌∙◌}
use Rattle.nt_waits.specs.Sound.{ends_at}
use Rattle.nt_waits.proofs.QueueLemmas.{queue_present}
use Rattle.nt_waits.proofs.SoundLemmas.{queue_is_list, next_there_in, thread_after-links}
use Rattle.nt_waits.proofs.queues.Queues.next.Goals as goal

pub index-requires : goal.index-requires
index-requires c =
    let queue = queue_is_list c.self.inside.blocks c.self.inside.ends.items c.args.self.now.lists c.args.object (ap (λ v. v.lists) c.self.view_is) c.self.invariant in
    rw c.get.ensures (queue_present c.self.inside.blocks (ends_at c.self.inside.ends.items c.args.object) c.args.object _ queue c.args.number c.requires)

pub thread_in-requires : goal.thread_in-requires
thread_in-requires c =
    let queue = queue_is_list c.self.inside.blocks c.self.inside.ends.items c.args.self.now.lists c.args.object (ap (λ v. v.lists) c.self.view_is) c.self.invariant in
    let read = rw c.get.ensures at c.index.ensures in
    next_there_in c.self.inside.blocks (ends_at c.self.inside.ends.items c.args.object) c.args.object c.args.number _ c.index.result.now queue c.requires read

pub returns : goal.returns
returns c =
    let queue = queue_is_list c.self.inside.blocks c.self.inside.ends.items c.args.self.now.lists c.args.object (ap (λ v. v.lists) c.self.view_is) c.self.invariant in
    let read = rw c.get.ensures at c.index.ensures in
    c.thread_in.ensures ∙ sym (rw read at (thread_after-links c.self.inside.blocks (ends_at c.self.inside.ends.items c.args.object) c.args.object _ c.args.number queue c.requires))
