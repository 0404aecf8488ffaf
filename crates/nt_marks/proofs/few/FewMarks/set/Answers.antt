use Rattle.std.proofs.Common.{◌∙◌, ap, true, slice_set, arith}
use Rattle.nt_marks.proofs.LevelLemmas.{place_below, told_set, marks_changed}
use Rattle.nt_marks.proofs.few.FewMarks.set.Goals as goal

pub set_bit-requires : goal.set_bit-requires
set_bit-requires c =
    let below = place_below c.self.inside.words 256 c.args.place _ c.self.view_is c.requires in
    let four = c.self.invariant.four_words in
    omega (arith, below, four)

pub set_bit-requires-2 : goal.set_bit-requires-2
set_bit-requires-2 c =
    let below = place_below c.self.inside.words 256 c.args.place _ c.self.view_is c.requires in
    let one = c.self.invariant.one_top in
    omega (arith, below, one)

pub invariant_of-self : goal.invariant_of-self
invariant_of-self c =
    let four = c.self.invariant.four_words in
    let one = c.self.invariant.one_top in
    record {
      four_words = omega (arith, four);
      one_top = omega (arith, one);
      words_told = told_set _ _ _ _ c.args.place c.self.invariant.words_told c.set_bit.ensures c.set_bit-2.ensures;
    }

pub returns : goal.returns
returns c =
    let below = place_below c.self.inside.words 256 c.args.place _ c.self.view_is c.requires in
    marks_changed _ _ c.args.place 1 256 below c.set_bit.ensures ∙ ap (λ marks. slice_set marks c.args.place true) c.self.view_is
