-- The first place of a byte.
use Rattle.std.proofs.Common.{◌≡◌, ℕ, Bool, true, false, cond, List, length, get_or, Option, Some, None, nat_lt, position, refl, sym, ap, ◌∙◌, arith}
use Rattle.std.specs.List.{position_or_len}
use Rattle.std.proofs.lemmas.Bool.{ltb-true, ltb-false}
use Rattle.std.proofs.lemmas.List.Sums.{position_or_len_is}
use Rattle.memchr.specs.Find.{IsFirstByte}

not_true : (b : Bool) → (b ≡ true → ⊥) → b ≡ false
not_true true h = absurd (h refl)
not_true false h = refl

pub position_is : (test : ℕ → Bool) (bytes : List ℕ) (found : Option ℕ) → IsFirstByte test bytes found → found ≡ position test bytes
position_is test bytes None nowhere =
    let all : position_or_len test bytes ≡ length bytes = position_or_len_is test bytes (length bytes) 0 (omega arith)
    (λ k lt. not_true (test (get_or bytes k 0)) (nowhere k (omega arith) lt)) (λ lt. absurd (omega arith)) in
    by (nat_lt (position_or_len test bytes) (length bytes)) refl all
  where
    by : (b : Bool) → nat_lt (position_or_len test bytes) (length bytes) ≡ b → position_or_len test bytes ≡ length bytes → None ≡ cond (nat_lt (position_or_len test bytes) (length bytes)) (Some (position_or_len test bytes)) None
    by true is all = let lt = ltb-true _ _ is in absurd (omega (arith, lt, all))
    by false is all = sym (ap (λ (b : Bool). cond b (Some (position_or_len test bytes)) None) is)
position_is test bytes (Some place) (first, passes) =
    let here : position_or_len test bytes ≡ place = position_or_len_is test bytes place 0 (omega (arith, first.high))
    (λ k lt. not_true (test (get_or bytes k 0)) (first.before k (omega arith) lt)) (λ lt. passes) in
    by (nat_lt (position_or_len test bytes) (length bytes)) refl here
  where
    by : (b : Bool) → nat_lt (position_or_len test bytes) (length bytes) ≡ b → position_or_len test bytes ≡ place → Some place ≡ cond (nat_lt (position_or_len test bytes) (length bytes)) (Some (position_or_len test bytes)) None
    by true is here = ap Some (sym here) ∙ sym (ap (λ (b : Bool). cond b (Some (position_or_len test bytes)) None) is)
    by false is here = let far = ltb-false _ _ is in absurd (omega (arith, far, here, first.high))
