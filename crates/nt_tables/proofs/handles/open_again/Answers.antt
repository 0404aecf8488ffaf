use Rattle.std.proofs.Common.{arith}
use Rattle.nt_tables.proofs.Counting.{again_counted, few_again, known_again}
use Rattle.nt_tables.proofs.handles.open_again.Goals as goal

pub returns-clause-counted : goal.returns-clause-counted
returns-clause-counted c =
    rw (c.new.ensures, c.count_more.ensures, c.get.ensures)
    (again_counted c.args.handles.now c.args.counts.now.items c.args.handle c.args.opened c.requires.counted c.requires.there c.requires.closed c.requires.known)

pub count_more-requires-clause-known : goal.count_more-requires-clause-known
count_more-requires-clause-known c =
    known_again c.args.handles.now c.args.counts.now.items c.args.opened.object c.requires.counted c.requires.known

pub count_more-requires-clause-few : goal.count_more-requires-clause-few
count_more-requires-clause-few c =
    few_again c.args.handles.now c.args.counts.now.items c.args.opened.object c.requires.counted (omega (arith, c.requires.few))
