use Rattle.std.proofs.Common.{◌/◌, ◌∙◌, ap, false, slice_set, refl, arith}
use Rattle.std.proofs.lemmas.List.{with_items_is}
use Rattle.nt_marks.specs.Bits.{ChangesBit}
use Rattle.nt_marks.proofs.LevelLemmas.{place_below, in_levels, levels_cleared, told_emptied, told_left, marks_changed, word_left, word_emptied}
use Rattle.nt_marks.proofs.marks.Marks.clear.Goals as goal

pub clear_bit-requires : goal.clear_bit-requires
clear_bit-requires c =
    let below = place_below c.self.inside.words.items c.self.inside.places c.args.place _ c.self.view_is c.requires in
    rw c.deref_mut.ensures.value ((in_levels _ _ _ _ c.args.place c.self.invariant below).0)

pub invariant_of-self : goal.invariant_of-self
invariant_of-self c =
    let below = place_below c.self.inside.words.items c.self.inside.places c.args.place _ c.self.view_is c.requires in
    let low : ChangesBit c.self.inside.words.items c.clear_bit.new.words c.args.place 0 = rw (← c.deref_mut.ensures.value) c.clear_bit.ensures.changes in
    let told = told_left _ _ c.clear_bit.new.words c.args.place c.self.invariant.words_told low (word_left _ _ c.clear_bit.ensures.empty c.if-not-clear_bit.true) (rw c.deref_mut.ensures.value at c.clear_bit.ensures.still) in
    rw (with_items_is c.self.inside.words c.clear_bit.new.words (omega arith))
    (levels_cleared _ _ _ _ _ _ c.self.inside.places c.args.place c.self.invariant below low told c.self.invariant.groups_told (omega arith) refl refl)

pub returns-then-not-clear_bit : goal.returns-then-not-clear_bit
returns-then-not-clear_bit c =
    let below = place_below c.self.inside.words.items c.self.inside.places c.args.place _ c.self.view_is c.requires in
    rw (with_items_is c.self.inside.words c.clear_bit.new.words (omega arith))
    (marks_changed _ _ c.args.place 0 c.self.inside.places below (rw (← c.deref_mut.ensures.value) c.clear_bit.ensures.changes) ∙ ap (λ marks. slice_set marks c.args.place false) c.self.view_is)

pub clear_bit-requires-2 : goal.clear_bit-requires-2
clear_bit-requires-2 c =
    let below = place_below c.self.inside.words.items c.self.inside.places c.args.place _ c.self.view_is c.requires in
    rw c.deref_mut-2.ensures.value ((in_levels _ _ _ _ c.args.place c.self.invariant below).1)

pub invariant_of-self-then-not-clear_bit-2 : goal.invariant_of-self-then-not-clear_bit-2
invariant_of-self-then-not-clear_bit-2 c =
    let below = place_below c.self.inside.words.items c.self.inside.places c.args.place _ c.self.view_is c.requires in
    let low : ChangesBit c.self.inside.words.items c.clear_bit.new.words c.args.place 0 = rw (← c.deref_mut.ensures.value) c.clear_bit.ensures.changes in
    let mid : ChangesBit c.self.inside.groups.items c.clear_bit-2.new.words (c.args.place / 64) 0 = rw (← c.deref_mut-2.ensures.value) c.clear_bit-2.ensures.changes in
    let words_told = told_emptied _ _ c.clear_bit-2.new.words c.clear_bit.new.words c.args.place c.self.invariant.words_told low (word_emptied _ _ c.clear_bit.ensures.empty c.if-not-clear_bit.false) mid in
    let groups_told = told_left _ _ c.clear_bit-2.new.words (c.args.place / 64) c.self.invariant.groups_told mid (word_left _ _ c.clear_bit-2.ensures.empty c.if-not-clear_bit-2.true) (rw c.deref_mut-2.ensures.value at c.clear_bit-2.ensures.still) in
    rw (with_items_is c.self.inside.words c.clear_bit.new.words (omega arith), with_items_is c.self.inside.groups c.clear_bit-2.new.words (omega arith))
    (levels_cleared _ _ _ _ _ _ c.self.inside.places c.args.place c.self.invariant below low words_told groups_told (omega arith) (omega arith) refl)

pub returns-then-not-clear_bit-2 : goal.returns-then-not-clear_bit-2
returns-then-not-clear_bit-2 c =
    let below = place_below c.self.inside.words.items c.self.inside.places c.args.place _ c.self.view_is c.requires in
    rw (with_items_is c.self.inside.words c.clear_bit.new.words (omega arith))
    (marks_changed _ _ c.args.place 0 c.self.inside.places below (rw (← c.deref_mut.ensures.value) c.clear_bit.ensures.changes) ∙ ap (λ marks. slice_set marks c.args.place false) c.self.view_is)

pub clear_bit-requires-3 : goal.clear_bit-requires-3
clear_bit-requires-3 c =
    let below = place_below c.self.inside.words.items c.self.inside.places c.args.place _ c.self.view_is c.requires in
    (in_levels _ _ _ _ c.args.place c.self.invariant below).2

pub invariant_of-self-2 : goal.invariant_of-self-2
invariant_of-self-2 c =
    let below = place_below c.self.inside.words.items c.self.inside.places c.args.place _ c.self.view_is c.requires in
    let low : ChangesBit c.self.inside.words.items c.clear_bit.new.words c.args.place 0 = rw (← c.deref_mut.ensures.value) c.clear_bit.ensures.changes in
    let mid : ChangesBit c.self.inside.groups.items c.clear_bit-2.new.words (c.args.place / 64) 0 = rw (← c.deref_mut-2.ensures.value) c.clear_bit-2.ensures.changes in
    let words_told = told_emptied _ _ c.clear_bit-2.new.words c.clear_bit.new.words c.args.place c.self.invariant.words_told low (word_emptied _ _ c.clear_bit.ensures.empty c.if-not-clear_bit.false) mid in
    let groups_told = told_emptied _ _ c.clear_bit-3.new.words c.clear_bit-2.new.words (c.args.place / 64) c.self.invariant.groups_told mid (word_emptied _ _ c.clear_bit-2.ensures.empty c.if-not-clear_bit-2.false) c.clear_bit-3.ensures.changes in
    rw (with_items_is c.self.inside.words c.clear_bit.new.words (omega arith), with_items_is c.self.inside.groups c.clear_bit-2.new.words (omega arith))
    (levels_cleared _ _ _ _ _ _ c.self.inside.places c.args.place c.self.invariant below low words_told groups_told (omega arith) (omega arith) (omega arith))

pub returns : goal.returns
returns c =
    let below = place_below c.self.inside.words.items c.self.inside.places c.args.place _ c.self.view_is c.requires in
    rw (with_items_is c.self.inside.words c.clear_bit.new.words (omega arith))
    (marks_changed _ _ c.args.place 0 c.self.inside.places below (rw (← c.deref_mut.ensures.value) c.clear_bit.ensures.changes) ∙ ap (λ marks. slice_set marks c.args.place false) c.self.view_is)
