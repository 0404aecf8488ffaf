-- Numbers added up over the views of all seats.
use Rattle.std.proofs.Common.{◌≡◌, ◌≢◌, ℕ, zero, suc, ◌+◌, ◌≤◌, List, [], ◌∷◌, ◌++◌, set, refl, sym, ap, arith}
use Rattle.std.specs.Prelude.{nat_lt, Bool, true, false, length}
use Rattle.nt_calls.specs.Moves.{one_if}
use mathlib.Core.Option.{some, some-ne-none, some-injective}
use lib.ListN.{get_elem?}
use Rattle.nt_mail.specs.declared.knowledge.View.{View}
use Rattle.nt_mail.specs.Rule.{total}

pub at_le : (f : View → ℕ) (views : List View) (i : ℕ) (v : View) → get_elem? views i ≡ some v → f v ≤ total f views
at_le f [] i v e = absurd (some-ne-none v (sym e))
at_le f (x ∷ xs) zero v e = let s : f x ≡ f v = ap f (some-injective x v e) in omega arith
at_le f (x ∷ xs) (suc i) v e = omega (arith, at_le f xs i v e)

pub total-set : (f : View → ℕ) (views : List View) (i : ℕ) (v w : View) → get_elem? views i ≡ some v → total f (set views i w) + f v ≡ total f views + f w
total-set f [] i v w e = absurd (some-ne-none v (sym e))
total-set f (x ∷ xs) zero v w e = let s : f x ≡ f v = ap f (some-injective x v e) in omega arith
total-set f (x ∷ xs) (suc i) v w e = omega (arith, total-set f xs i v w e)

pub total-push : (f : View → ℕ) (views : List View) (w : View) → total f (views ++ w ∷ []) ≡ total f views + f w
total-push f [] w = omega arith
total-push f (x ∷ xs) w = omega (arith, total-push f xs w)

-- two seats count twice
pub two_le : (f : View → ℕ) (views : List View) (i j : ℕ) (v u : View) → get_elem? views i ≡ some v → get_elem? views j ≡ some u → j ≢ i → f v + f u ≤ total f views
two_le f [] i j v u e d n = absurd (some-ne-none v (sym e))
two_le f (x ∷ xs) zero zero v u e d n = absurd (n refl)
two_le f (x ∷ xs) zero (suc j) v u e d n = let s : f x ≡ f v = ap f (some-injective x v e) in omega (arith, at_le f xs j u d)
two_le f (x ∷ xs) (suc i) zero v u e d n = let s : f x ≡ f u = ap f (some-injective x u d) in omega (arith, at_le f xs i v e)
two_le f (x ∷ xs) (suc i) (suc j) v u e d n = omega (arith, two_le f xs i j v u e d (λ s. n (ap suc s)))

-- no thread has two parts
pub le_one : (words : List ℕ) (t n : ℕ) → n ≡ one_if (nat_lt (t + 1) (length words)) → n ≤ 1
le_one words t n is = small (nat_lt (t + 1) (length words)) is
  where
    small : (b : Bool) → n ≡ one_if b → n ≤ 1
    small true e = omega arith
    small false e = omega arith
