use Rattle.nt_waits.specs.Sound.{no_ends}
use Rattle.nt_waits.proofs.queues.Queues.count.Goals as goal

pub count_blocks-requires : goal.count_blocks-requires
count_blocks-requires c =
    let here = rw (c.deref.ensures.value, c.get.ensures) at (c.in-Some.ensures.lookup.3.1 no_ends) in
    (c.args.object, rw here (c.self.invariant c.args.object))
