use Rattle.std.proofs.Common.{arith}
use Rattle.nt_tables.proofs.Counting.{more_counted, few_counted}
use Rattle.nt_tables.proofs.handles.open.Goals as goal

pub returns-clause-counted : goal.returns-clause-counted
returns-clause-counted c =
    rw (c.push_reserved-2.ensures.items, c.new.ensures, c.count_more.ensures, c.push_reserved.ensures.items)
    (more_counted c.args.handles.now.items c.args.counts.now.items c.args.opened c.requires.counted c.requires.known)

pub count_more-requires-clause-few : goal.count_more-requires-clause-few
count_more-requires-clause-few c =
    rw c.push_reserved.ensures.items
    (few_counted c.args.handles.now.items c.args.counts.now.items c.args.opened.object c.requires.counted (omega (arith, c.requires.few)))
