use Rattle.std.proofs.Common.{◌∙◌, ap, true, slice_set, arith}
use Rattle.std.proofs.lemmas.List.{with_items_is}
use Rattle.nt_marks.proofs.LevelLemmas.{place_below, in_levels, levels_set, marks_changed}
use Rattle.nt_marks.proofs.marks.Marks.set.Goals as goal

pub set_bit-requires : goal.set_bit-requires
set_bit-requires c =
    let below = place_below c.self.inside.words.items c.self.inside.places c.args.place _ c.self.view_is c.requires in
    rw c.deref_mut.ensures.value ((in_levels _ _ _ _ c.args.place c.self.invariant below).0)

pub set_bit-requires-2 : goal.set_bit-requires-2
set_bit-requires-2 c =
    let below = place_below c.self.inside.words.items c.self.inside.places c.args.place _ c.self.view_is c.requires in
    rw c.deref_mut-2.ensures.value ((in_levels _ _ _ _ c.args.place c.self.invariant below).1)

pub set_bit-requires-3 : goal.set_bit-requires-3
set_bit-requires-3 c =
    let below = place_below c.self.inside.words.items c.self.inside.places c.args.place _ c.self.view_is c.requires in
    (in_levels _ _ _ _ c.args.place c.self.invariant below).2

pub invariant_of-self : goal.invariant_of-self
invariant_of-self c =
    let below = place_below c.self.inside.words.items c.self.inside.places c.args.place _ c.self.view_is c.requires in
    rw (with_items_is c.self.inside.words c.set_bit.new.words (omega arith), with_items_is c.self.inside.groups c.set_bit-2.new.words (omega arith))
    (levels_set _ _ _ _ _ _ c.self.inside.places c.args.place c.self.invariant below (rw (← c.deref_mut.ensures.value) c.set_bit.ensures) (rw (← c.deref_mut-2.ensures.value) c.set_bit-2.ensures) c.set_bit-3.ensures (omega arith) (omega arith) (omega arith))

pub returns : goal.returns
returns c =
    let below = place_below c.self.inside.words.items c.self.inside.places c.args.place _ c.self.view_is c.requires in
    rw (with_items_is c.self.inside.words c.set_bit.new.words (omega arith))
    (marks_changed _ _ c.args.place 1 c.self.inside.places below (rw (← c.deref_mut.ensures.value) c.set_bit.ensures) ∙ ap (λ marks. slice_set marks c.args.place true) c.self.view_is)
