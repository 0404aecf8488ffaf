-- Lists of handles, each once: put together, counted, and sorted.
use Rattle.std.proofs.Common.{◌≡◌, ◌≢◌, ◌<◌, ◌+◌, ◌==◌, ℕ, true, false, List, [], ◌∷◌, ◌++◌, length, get_or, take, sym, ap, ◌∙◌, arith}
use Rattle.std.proofs.lemmas.Bool.Decides.{nat_tests}
use Rattle.std.proofs.lemmas.List.{take_more}

-- ---- tests of numbers

pub same_yes : (a b : ℕ) → a ≡ b → (a == b) ≡ true
same_yes a b e = grind (arith, nat_tests, e)

pub same_no : (a b : ℕ) → a ≢ b → (a == b) ≡ false
same_no a b e = grind (arith, nat_tests, e)

-- ---- the first ones of a list

pub one_more : (xs : List ℕ) (i h : ℕ) → i < length xs → h ≡ get_or xs i h → take (i + 1) xs ≡ take i xs ++ h ∷ []
one_more xs i h below is = take_more xs i h below ∙ ap (λ x. take i xs ++ x ∷ []) (sym is)
