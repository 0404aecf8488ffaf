use Rattle.std.proofs.Common.{None, [], ◌∷◌, ◌∙◌, arith, length-set}
use Rattle.std.proofs.lemmas.List.{get_or_read}
use Rattle.nt_waits.specs.Waits.{wait_for}
use Rattle.nt_waits.proofs.BeginLemmas.{one_once}
use Rattle.nt_waits.proofs.BegunLemmas.{filled_begun}
use Rattle.nt_waits.proofs.begin.begin_ready.Goals as goal

-- what is borrowed is the thread's place, which is empty
pub fill_one-requires-clause-free : goal.fill_one-requires-clause-free
fill_one-requires-clause-free c =
    get_or_read c.args.waits.now.items c.args.t c.index_mut.result.now c.requires.place (rw c.get.ensures at c.index_mut.ensures.value) None ∙ c.requires.free

pub returns-clause-begun : goal.returns-clause-begun
returns-clause-begun c =
    rw c.get.ensures (filled_begun c.args.queues.now c.fill_one.new.queues c.args.t (wait_for (c.args.object ∷ []) c.args.all c.args.about) c.fill_one.new.self c.fill_one.ensures c.args.waits.now.items
    c.requires.table c.requires.free c.requires.place (omega arith) (one_once c.args.object))

pub returns-clause-takes : goal.returns-clause-takes
returns-clause-takes c = c.fill_one.ensures.3.takes

pub returns-clause-places : goal.returns-clause-places
returns-clause-places c = rw c.get.ensures (length-set c.args.waits.now.items c.args.t c.fill_one.new.self)
