use Rattle.std.proofs.Common.{ap, sym, ◌∙◌}
use Rattle.nt_waits.specs.Sound.{ends_at, no_ends}
use Rattle.nt_waits.proofs.SoundLemmas.{queue_is_list, first_there, first_thread-links}
use Rattle.nt_waits.proofs.queues.Queues.first.Goals as goal

pub thread_in-requires : goal.thread_in-requires
thread_in-requires c =
    let ends = c.self.inside.ends.items in
    let queue = queue_is_list c.self.inside.blocks ends c.args.self.now.lists c.args.object (ap (λ v. v.lists) c.self.view_is) c.self.invariant in
    let here = rw (c.deref.ensures.value, c.get.ensures) at (c.in_ok-ends.ensures.lookup.3.1 no_ends) in
    rw here (first_there c.self.inside.blocks (ends_at ends c.args.object) c.args.object _ queue)

pub returns : goal.returns
returns c =
    let ends = c.self.inside.ends.items in
    let queue = queue_is_list c.self.inside.blocks ends c.args.self.now.lists c.args.object (ap (λ v. v.lists) c.self.view_is) c.self.invariant in
    let here = rw (c.deref.ensures.value, c.get.ensures) at (c.in_ok-ends.ensures.lookup.3.1 no_ends) in
    rw here at c.thread_in.ensures ∙ sym (first_thread-links c.self.inside.blocks (ends_at ends c.args.object) c.args.object _ queue)
