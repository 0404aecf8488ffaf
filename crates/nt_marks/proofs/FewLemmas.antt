-- Marks in two levels.
use Rattle.std.proofs.Common.{◌≡◌, ℕ, zero, suc, ◌+◌, ◌*◌, ◌/◌, ◌<◌, min, false, List, [], ◌∷◌, replicate, refl, sym, ap, ◌∙◌, inl, inr, arith}
use Rattle.std.specs.Prelude.{slice_index, ◌==◌}
use Rattle.std.proofs.lemmas.Bool.{cases_lt}
use Rattle.std.proofs.lemmas.List.{get_or_past}
use Rattle.nt_marks.specs.Marks.{NoneMarked, IsFirstMarked}
use Rattle.nt_marks.specs.Bits.{IsLowestBit}
use Rattle.nt_marks.specs.Levels.{marks_from, marks_of, AreTwoLevels}
use Rattle.nt_marks.proofs.LevelLemmas.{no_bits, lone_zero, told_none, mark_at, marked_bit}

unmarked_from : (words : List ℕ) (k n : ℕ) → ((w : ℕ) → slice_index words w ≡ 0) → marks_from words k n ≡ replicate n false
unfolding marks_from
unmarked_from words k zero none = refl
unmarked_from words k (suc n) none = λ i. (no_bits words k (none (k / 64)) i == 1) ∷ unmarked_from words (k + 1) n none i

zero_words : (n w : ℕ) → slice_index (replicate n 0) w ≡ 0
zero_words zero w = refl
zero_words (suc n) zero = refl
zero_words (suc n) (suc w) = zero_words n w

pub unmarked : (n : ℕ) → marks_of (replicate 4 0) n ≡ replicate n false
unmarked n = unmarked_from (replicate 4 0) 0 n (zero_words 4)

pub two_empty : AreTwoLevels (replicate 4 0) (0 ∷ [])
two_empty = record {
  four_words = refl;
  one_top = refl;
  words_told = record { each = λ w. no_bits (0 ∷ []) w (lone_zero (0 ∷ []) refl refl (w / 64)) ∙ ap (λ (x : ℕ). min 1 x) (sym (zero_words 4 w)) };
}

-- nothing is marked if the top is 0
pub none_at_top_of_two : (words top : List ℕ) (n : ℕ) → AreTwoLevels words top → slice_index top 0 ≡ 0 → NoneMarked (marks_of words n)
none_at_top_of_two words top n levels none place marked =
    let words_none = told_none top words levels.words_told (lone_zero top levels.one_top none) in
    let bit = no_bits words place (words_none (place / 64)) in
    let one = (marked_bit words n place marked).1 in
    omega (arith, bit, one)

-- the lowest bit is in the four words
pub bit_in_four : (words top : List ℕ) (place : ℕ) → AreTwoLevels words top → IsLowestBit words place → place < 256
bit_in_four words top place levels lowest = elim (cases_lt place 256) [
  | inl below ↦ below
  | inr past ↦ (let count = levels.four_words in let none = no_bits words place (get_or_past words (place / 64) 0 (omega (arith, count, past))) in let one = lowest.here in absurd (omega (arith, none, one)))
]

-- it is that of the first place that is marked
pub first_of_few : (words top : List ℕ) (place : ℕ) → AreTwoLevels words top → IsLowestBit words place → IsFirstMarked (marks_of words 256) place
first_of_few words top place levels lowest = record {
  here = mark_at words 256 place (bit_in_four words top place levels lowest) ∙ ap (λ (x : ℕ). x == 1) lowest.here;
  none_below = λ lower less marked. (let one = (marked_bit words 256 lower marked).1 in let none = lowest.none_below lower less in omega (arith, one, none));
}

-- the word of a lowest bit
pub word_of_lowest : (words : List ℕ) (word place : ℕ) → IsLowestBit words place → ((w : ℕ) → w < word → slice_index words w ≡ 0) → place < 64 * word + 64 → place / 64 ≡ word
word_of_lowest words word place lowest before within = elim (cases_lt (place / 64) word) [
  | inl below ↦ (let none = no_bits words place (before (place / 64) below) in let one = lowest.here in absurd (omega (arith, none, one)))
  | inr above ↦ omega (arith, above, within)
]
