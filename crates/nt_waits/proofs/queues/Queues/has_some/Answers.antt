use Rattle.std.proofs.Common.{ap}
use Rattle.nt_waits.specs.Sound.{ends_at, no_ends}
use Rattle.nt_waits.proofs.SoundLemmas.{queue_is_list}
use Rattle.nt_waits.proofs.WalkLemmas.{some_by_first}
use Rattle.nt_waits.proofs.queues.Queues.has_some.Goals as goal

pub returns-in-Some : goal.returns-in-Some
returns-in-Some c =
    let ends = c.self.inside.ends.items in
    let queue = queue_is_list c.self.inside.blocks ends c.args.self.now.lists c.args.object (ap (λ v. v.lists) c.self.view_is) c.self.invariant in
    let here = rw (c.deref.ensures.value, c.get.ensures) at (c.in-Some.ensures.lookup.3.1 no_ends) in
    rw (c.is_none.ensures, here) (some_by_first c.self.inside.blocks (ends_at ends c.args.object) c.args.object _ queue)
