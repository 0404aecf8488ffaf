use Rattle.std.proofs.Common.{sym, ◌∙◌}
use Rattle.nt_tables.proofs.Counting.{count_of_open, known_of_open, less_counted}
use Rattle.nt_tables.proofs.handles.close.Goals as goal

pub count_less-requires-clause-known : goal.count_less-requires-clause-known
count_less-requires-clause-known c =
    known_of_open c.args.handles.now c.args.counts.now c.args.handle c.in-Some.opened c.requires.counted (sym c.opened_in.ensures ∙ c.in-Some.is)

pub count_less-requires-clause-some : goal.count_less-requires-clause-some
count_less-requires-clause-some c =
    count_of_open c.args.handles.now c.args.counts.now c.args.handle c.in-Some.opened c.requires.counted (sym c.opened_in.ensures ∙ c.in-Some.is)

pub returns-clause-counted : goal.returns-clause-counted
returns-clause-counted c =
    rw (c.count_less.ensures, c.get.ensures)
    (less_counted c.args.handles.now c.args.counts.now c.args.handle c.in-Some.opened c.requires.counted (sym c.opened_in.ensures ∙ c.in-Some.is))
