use Rattle.std.proofs.Common.{ap, ◌∙◌, arith, length}
use Rattle.std.proofs.lemmas.List.{with_items_is}
use Rattle.nt_tables.specs.Owned.{without_mutex}
use Rattle.nt_tables.proofs.SoundLemmas.{view_changed, listed_in}
use Rattle.nt_tables.proofs.owners.Owners.remove.Goals as goal

pub returns : goal.returns
returns c =
    let firsts = c.self.inside.firsts.items in
    let links = c.self.inside.links.items in
    rw (with_items_is c.self.inside.firsts c.leave.new.firsts (omega arith), with_items_is c.self.inside.links c.leave.new.links (omega arith))
    (view_changed c.args.self.now firsts c.leave.new.firsts links c.leave.new.links c.args.thread (without_mutex c.args.mutex) c.self.view_is
    (c.leave.auto.links ∙ ap (λ l. length l) c.deref_mut-2.ensures.value)
    (rw (c.deref_mut.ensures.value, c.deref_mut-2.ensures.value) at c.leave.ensures.lists))

pub leave-requires-clause-owned : goal.leave-requires-clause-owned
leave-requires-clause-owned c =
    rw (c.deref_mut.ensures.value, c.deref_mut-2.ensures.value) (listed_in c.args.self.now c.self.inside.firsts.items c.self.inside.links.items c.args.thread c.args.mutex c.self.view_is c.requires)
