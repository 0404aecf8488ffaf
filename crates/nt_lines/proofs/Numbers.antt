-- Digits as numbers.
use Rattle.std.proofs.Common.{◌≡◌, ℕ, ◌+◌, ◌-◌, ◌*◌, ◌^◌, ◌<◌, ◌≤◌, List, [], ◌∷◌, length, get_or, drop, arith, drop-cons, add-one, refl, None, Some}
use Rattle.std.proofs.lemmas.Bool.{lt-ltb, le-ltb}
use Rattle.nt_lines.specs.Words.{value_after, fitting}

-- more digits make no smaller number
pub value_after-le : (n : ℕ) (digits : List ℕ) → n ≤ value_after n digits
value_after-le n [] = omega arith
value_after-le n (digit ∷ digits) = omega (arith, value_after-le (n * 10 + (digit - 48)) digits)

-- the next digit comes after those of the number so far
pub value_after-next : (n i : ℕ) (digits : List ℕ) → i < length digits → value_after n (drop i digits) ≡ value_after (n * 10 + (get_or digits i 0 - 48)) (drop (i + 1) digits)
value_after-next n i digits lt = rw (add-one, drop-cons digits i 0) refl

-- what does not fit with one digit more does not fit with all
pub overflow : (n i : ℕ) (digits : List ℕ) → i < length digits → value_after n (drop i digits) ≡ value_after 0 digits → 2 ^ 64 ≤ n * 10 + (get_or digits i 0 - 48) → fitting (value_after 0 digits) ≡ None
overflow n i digits lt so_far big =
    let next = n * 10 + (get_or digits i 0 - 48) in
    let all : 2 ^ 64 ≤ value_after 0 digits = omega (arith, value_after-le next (drop (i + 1) digits), value_after-next n i digits lt, so_far) in
    rw (le-ltb _ _ all) refl

pub fitted : (n : ℕ) → n < 2 ^ 64 → fitting n ≡ Some n
fitted n lt = rw (lt-ltb _ _ lt) refl
