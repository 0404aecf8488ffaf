use Rattle.std.proofs.Common.{◌≡◌, None, sym, ◌∙◌}
use Rattle.std.proofs.lemmas.List.{get_or_read}
use Rattle.nt_waits.specs.Table.{slot_at}
use Rattle.nt_waits.proofs.TableLemmas.{slot_within}
use Rattle.nt_waits.proofs.EndedLemmas.{held, linked_anew, ended, touched}
use Rattle.nt_waits.proofs.take.end_wait.Goals as goal
use Rattle.nt_waits.proofs.take.end_wait.Goals.{After-index_mut}

-- what is borrowed is the thread's place
read : (c : After-index_mut) → c.index_mut.result.now ≡ slot_at c.args.waits.now.items c.args.t
read c = get_or_read c.args.waits.now.items c.args.t c.index_mut.result.now (slot_within c.args.waits.now.items c.args.t c.requires.there) (rw c.get.ensures at c.index_mut.ensures.value) None

pub empty-requires-clause-there : goal.empty-requires-clause-there
empty-requires-clause-there c = rw (read (goal.at.empty-requires-clause-there c).After-index_mut) c.requires.there

pub empty-requires-clause-linked : goal.empty-requires-clause-linked
empty-requires-clause-linked c p is =
    (c.args.t, linked_anew c.args.queues.now c.touch_anew.new.self c.args.t p c.touch_anew.ensures (c.requires.table.linked c.args.t p (sym (read (goal.at.empty-requires-clause-linked c).After-index_mut) ∙ is)))

pub empty-requires-clause-numbers : goal.empty-requires-clause-numbers
empty-requires-clause-numbers c h = rw c.touch_anew.ensures (c.requires.table.distinct h)

pub returns-clause-ended : goal.returns-clause-ended
returns-clause-ended c =
    let p = held (slot_at c.args.waits.now.items c.args.t) c.requires.there in
    let here = read (goal.at.returns-clause-ended c).After-index_mut in
    rw (c.get.ensures, c.empty.ensures.empty) (ended c.args.queues.now c.touch_anew.new.self c.empty.new.queues c.args.waits.now.items c.args.t p.0 c.requires.table p.1 c.touch_anew.ensures (c.empty.ensures.unlinked p.0 (here ∙ p.1)))

pub returns-clause-touched : goal.returns-clause-touched
returns-clause-touched c p is =
    let here = read (goal.at.returns-clause-touched c).After-index_mut in
    touched c.args.queues.now c.touch_anew.new.self c.empty.new.queues c.args.waits.now.items c.args.t p c.requires.table is c.touch_anew.ensures (c.empty.ensures.unlinked p (here ∙ is))
