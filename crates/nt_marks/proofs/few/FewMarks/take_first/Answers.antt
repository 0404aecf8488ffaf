use Rattle.std.proofs.Common.{◌≡◌, ◌/◌, ◌∙◌, ℕ, sym, ap, subst, false, slice_set, arith}
use Rattle.nt_marks.specs.Bits.{ChangesBit}
use Rattle.nt_marks.proofs.LevelLemmas.{told_emptied, words_before, marks_changed, word_emptied}
use Rattle.nt_marks.proofs.FewLemmas.{none_at_top_of_two, bit_in_four, first_of_few, word_of_lowest}
use Rattle.nt_marks.proofs.few.FewMarks.take_first.Goals as goal

pub returns-then-self-eq0-clause-first : goal.returns-then-self-eq0-clause-first
returns-then-self-eq0-clause-first c = rw (← c.self.view_is) (none_at_top_of_two _ _ 256 c.self.invariant c.if-self-eq0.true)

pub invariant_of-self : goal.invariant_of-self
invariant_of-self c =
    let place = c.lowest_bit-place.result in
    let word = c.lowest_bit-word.result in
    let before = words_before _ _ word c.self.invariant.words_told c.lowest_bit-word.ensures.lowest in
    let same : place / 64 ≡ word = word_of_lowest _ word place c.lowest_bit-place.ensures.lowest before c.lowest_bit-place.ensures.within in
    let four = c.self.invariant.four_words in
    let one = c.self.invariant.one_top in
    record {
      four_words = omega (arith, four);
      one_top = omega (arith, one);
      words_told =
          told_emptied _ _ _ _ place c.self.invariant.words_told c.clear_bit.ensures.changes (word_emptied _ _ c.clear_bit.ensures.empty c.if-clear_bit.true)
          (subst (λ (w : ℕ). ChangesBit c.self.inside.top c.clear_bit-then-clear_bit.new.words w 0) (sym same) c.clear_bit-then-clear_bit.ensures.changes);
    }

pub returns-then-clear_bit-clause-first : goal.returns-then-clear_bit-clause-first
returns-then-clear_bit-clause-first c = rw (← c.self.view_is) (first_of_few _ _ c.lowest_bit-place.result c.self.invariant c.lowest_bit-place.ensures.lowest)

pub returns-then-clear_bit-clause-rest : goal.returns-then-clear_bit-clause-rest
returns-then-clear_bit-clause-rest c =
    let place = c.lowest_bit-place.result in
    marks_changed _ _ place 0 256 (bit_in_four _ _ place c.self.invariant c.lowest_bit-place.ensures.lowest) c.clear_bit.ensures.changes ∙ ap (λ marks. slice_set marks place false) c.self.view_is

pub returns-else-clear_bit-clause-first : goal.returns-else-clear_bit-clause-first
returns-else-clear_bit-clause-first c = rw (← c.self.view_is) (first_of_few _ _ c.lowest_bit-place.result c.self.invariant c.lowest_bit-place.ensures.lowest)

pub returns-else-clear_bit-clause-rest : goal.returns-else-clear_bit-clause-rest
returns-else-clear_bit-clause-rest c =
    let place = c.lowest_bit-place.result in
    marks_changed _ _ place 0 256 (bit_in_four _ _ place c.self.invariant c.lowest_bit-place.ensures.lowest) c.clear_bit.ensures.changes ∙ ap (λ marks. slice_set marks place false) c.self.view_is
