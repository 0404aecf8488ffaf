use Rattle.std.proofs.Common.{rules, arith, ◌≡◌, length}
use Rattle.nt_alarms.proofs.HeapLemmas.{alarms_added, table_added}
use Rattle.nt_alarms.proofs.alarms.add_place.Goals as goal

pub returns-clause-table : goal.returns-clause-table
returns-clause-table c =
    rw (c.push_reserved.ensures.items, c.push_reserved-2.ensures.items, c.push_reserved-3.ensures.items)
    (table_added _ _ _ _ _ c.requires.table (search rules) c.requires.few)

pub returns-clause-added : goal.returns-clause-added
returns-clause-added c =
    rw (c.push_reserved.ensures.items, c.push_reserved-2.ensures.items) (alarms_added _ _ _ _ c.requires.table.sound.ranks_too
    (let few = c.requires.table.few in let last : c.len-last.result ≡ length c.args.moments.now.items = search rules in omega arith))
