-- Bits of words that are set, cleared and found.
use Rattle.std.proofs.Common.{◌≡◌, ◌≢◌, ℕ, ◌+◌, ◌*◌, ◌/◌, ◌%◌, ◌^◌, ◌<◌, List, length, bit_or, w64, ap, ◌∙◌, inl, inr, arith, get_or-set_same, get_or-set_other}
use Rattle.std.specs.Prelude.{slice_index, slice_set, bit_and}
use Rattle.std.specs.Int.{bit_at, bit_not, trailing_zeros}
use Rattle.std.proofs.lemmas.Bool.{cases_eq, cases_lt}
use Rattle.std.proofs.lemmas.Nat.Bits.{bit_at_set_same, bit_at_set_other, bit_at_clear_same, bit_at_clear_other, bit_at-zero, bit_at-trailing_zeros}
use Rattle.std.proofs.lemmas.List.{get_or_past}
use Rattle.nt_marks.specs.Bits.{bit_of, ChangesBit, IsLowestBit}

-- a word in which one bit alone is new
word_changed : (old : List ℕ) (bit word value : ℕ) → bit / 64 < length old → bit_at word (bit % 64) ≡ value →
    ((i : ℕ) → i < 64 → i ≢ bit % 64 → bit_at word i ≡ bit_at (slice_index old (bit / 64)) i) →
    ChangesBit old (slice_set old (bit / 64) word) bit value
unfolding bit_of
word_changed old bit word value inside here others = record {
  here = ap (λ (x : ℕ). bit_at x (bit % 64)) (get_or-set_same old (bit / 64) word 0 inside) ∙ here;
  others = other;
  words = λ w apart. get_or-set_other old (bit / 64) w word 0 apart;
}
  where
    other : (n : ℕ) → n ≢ bit → bit_at (slice_index (slice_set old (bit / 64) word) (n / 64)) (n % 64) ≡ bit_at (slice_index old (n / 64)) (n % 64)
    other n differs =
        elim (cases_eq (n / 64) (bit / 64)) [
          | inl same ↦ rw (same, get_or-set_same old (bit / 64) word 0 inside) (others (n % 64) (omega arith) (λ index. differs (omega arith)))
          | inr apart ↦ ap (λ (x : ℕ). bit_at x (n % 64)) (get_or-set_other old (bit / 64) (n / 64) word 0 apart)
        ]

pub bit_set : (old : List ℕ) (bit : ℕ) → bit / 64 < length old →
    ChangesBit old (slice_set old (bit / 64) (bit_or (slice_index old (bit / 64)) (1 * 2 ^ (bit % 64) % 2 ^ 64))) bit 1
bit_set old bit inside = word_changed old bit _ 1 inside (bit_at_set_same w64 (slice_index old (bit / 64)) (bit % 64) (omega arith)) (λ i within apart. bit_at_set_other w64 (slice_index old (bit / 64)) (bit % 64) (omega arith) i apart)

pub bit_cleared : (old : List ℕ) (bit : ℕ) → bit / 64 < length old →
    ChangesBit old (slice_set old (bit / 64) (bit_and (slice_index old (bit / 64)) (bit_not w64 (1 * 2 ^ (bit % 64) % 2 ^ 64)))) bit 0
bit_cleared old bit inside = word_changed old bit _ 0 inside (bit_at_clear_same w64 (slice_index old (bit / 64)) (bit % 64) (omega arith)) (λ i within apart. bit_at_clear_other w64 (slice_index old (bit / 64)) (bit % 64) (omega arith) i within apart)

-- a word that is not 0 is there
pub word_there : (words : List ℕ) (word : ℕ) → slice_index words word ≢ 0 → word < length words
word_there words word here = elim (cases_lt word (length words)) [ inl below ↦ below | inr past ↦ absurd (here (get_or_past words word 0 past)) ]

-- the lowest bit of the first word that is not 0
pub bit_found : (words : List ℕ) (word : ℕ) → slice_index words word ≢ 0 → slice_index words word < 2 ^ 64 → ((w : ℕ) → w < word → slice_index words w ≡ 0) →
    IsLowestBit words (64 * word + trailing_zeros w64 (slice_index words word))
unfolding bit_of
bit_found words word here small before =
    let positive : 0 < slice_index words word = omega (arith, here) in
    let found = bit_at-trailing_zeros w64 (slice_index words word) positive small in
    let at = trailing_zeros w64 (slice_index words word) in
    let within : at < 64 = found.0 in
    let which : (64 * word + at) / 64 ≡ word = omega (arith, within) in
    let bit : (64 * word + at) % 64 ≡ at = omega (arith, within) in
    record {
      here = rw (which, bit) found.1;
      none_below = λ n below. elim (cases_eq (n / 64) word) [
        | inl same ↦ rw same (found.2 (n % 64) (omega (arith, within, below, same)))
        | inr apart ↦ ap (λ (x : ℕ). bit_at x (n % 64)) (before (n / 64) (omega (arith, within, below, apart))) ∙ bit_at-zero (n % 64)
      ];
    }
