-- A list, by its first item.
use Rattle.std.proofs.Common.{◌≡◌, ◌<◌, ◌++◌, ◌∷◌, [], List, length, take, drop, slice_index_or, refl, arith}

pub first_and_rest : {X : Type 0} (xs rest : List X) (x : X) → 0 < length xs → x ≡ slice_index_or xs 0 x → rest ≡ take 0 xs ++ drop 1 xs → xs ≡ x ∷ rest
first_and_rest [] rest x some is left = absurd (omega arith)
first_and_rest (y ∷ ys) rest x some is left = rw (is, left) refl

pub empty_of_length : {X : Type 0} (xs : List X) → length xs ≡ 0 → xs ≡ []
empty_of_length [] none = refl
empty_of_length (x ∷ xs) none = absurd (omega arith)
