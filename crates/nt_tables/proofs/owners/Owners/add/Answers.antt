use Rattle.std.proofs.Common.{◌∷◌, ap, ◌∙◌, arith, length}
use Rattle.std.proofs.lemmas.List.{with_items_is}
use Rattle.nt_tables.proofs.SoundLemmas.{view_changed, unowned_in}
use Rattle.nt_tables.proofs.owners.Owners.add.Goals as goal

pub returns : goal.returns
returns c =
    let firsts = c.self.inside.firsts.items in
    let links = c.self.inside.links.items in
    rw (with_items_is c.self.inside.firsts c.enter.new.firsts (omega arith), with_items_is c.self.inside.links c.enter.new.links (omega arith))
    (view_changed c.args.self.now firsts c.enter.new.firsts links c.enter.new.links c.args.thread (λ list. c.args.mutex ∷ list) c.self.view_is
    (c.enter.auto.links ∙ ap (λ l. length l) c.deref_mut-2.ensures.value)
    (rw (c.deref_mut.ensures.value, c.deref_mut-2.ensures.value) at c.enter.ensures.lists))

pub enter-requires-clause-unowned : goal.enter-requires-clause-unowned
enter-requires-clause-unowned c =
    rw (c.deref_mut.ensures.value, c.deref_mut-2.ensures.value) (unowned_in c.args.self.now c.self.inside.firsts.items c.self.inside.links.items c.args.mutex c.self.view_is c.requires.unowned)
