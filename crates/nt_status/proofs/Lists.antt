-- Lists of numbers, by std's `Contains` and `IsDistinct`: lemmas that go along the list.
use Rattle.std.proofs.Common.{◌≡◌, ◌≢◌, ◌<◌, ◌≤◌, ◌⊎◌, ℕ, zero, suc, false, List, [], ◌∷◌, ◌++◌, length, get_or, Some, Contains, refl, sym, ◌∙◌, subst, arith, inl, inr}
use Rattle.std.proofs.lemmas.Bool.{cases_eq, false≢true}
use Rattle.std.proofs.lemmas.Bool.Decides.{nat_tests, Decides-eqb}
use Rattle.std.proofs.lemmas.List.Elements.{All-from_recursion, All-contains, Contains-append_cases, Contains-get_or}
use Rattle.std.proofs.lemmas.Map.Keys.{IsDistinct-head, IsDistinct-tail, IsDistinct-cons}
use Rattle.std.proofs.lemmas.Map.Steps.{length-le_from_distinct_below}
use Rattle.std.proofs.lemmas.Map.Views.{Contains-from_any}
use Rattle.std.proofs.lemmas.Option.{none-some, same_Some}
use Rattle.std.specs.Prelude.{slice_get, nat_eq}
use Rattle.std.specs.List.{IsDistinct, AllByRecursion}

-- ---- members

-- an empty list has no member
pub contains_none : {X : Type 0} (x : X) → Contains [] x → ⊥
contains_none x has = let below = has.1 in omega (arith, below)

-- what equals the first is a member
pub contains_first : {X : Type 0} (first : X) (rest : List X) (x : X) → first ≡ x → Contains (first ∷ rest) x
contains_first first rest x same = (0, omega arith, same)

-- a member of the rest is a member
pub contains_later : {X : Type 0} (first : X) (rest : List X) (x : X) → Contains rest x → Contains (first ∷ rest) x
contains_later first rest x has = let below = has.1 in (suc has.0, omega (arith, below), has.2)

-- a member is the first, or a member of the rest
pub contains_cases : {X : Type 0} (first : X) (rest : List X) (x : X) → Contains (first ∷ rest) x → (first ≡ x) ⊎ Contains rest x
contains_cases first rest x has = at has.0 has.1 has.2
  where
    at : (k : ℕ) → k < length (first ∷ rest) → get_or (first ∷ rest) k x ≡ x → (first ≡ x) ⊎ Contains rest x
    at zero below same = inl same
    at (suc k) below same = inr (k, omega arith, same)

-- what equals a member is a member
pub contains_same : {X : Type 0} (xs : List X) (a b : X) → a ≡ b → Contains xs a → Contains xs b
contains_same xs a b same has = subst (Contains xs) same has

-- what stands at a place of the list is a member
pub contains_at : {X : Type 0} (xs : List X) (place : ℕ) (past x : X) → place < length xs → get_or xs place past ≡ x → Contains xs x
contains_at xs place past x below same = contains_same xs (get_or xs place past) x same (Contains-get_or xs place past below)

-- the first of a list is a member
pub contains_front : {X : Type 0} (xs : List X) (x : X) → slice_get xs 0 ≡ Some x → Contains xs x
contains_front [] x is = absurd (none-some x is)
contains_front (first ∷ xs) x is = contains_first first xs x (same_Some first x is)

-- each number is a member of the list or is none
pub contains_or_not : (xs : List ℕ) (x : ℕ) → Contains xs x ⊎ (Contains xs x → ⊥)
contains_or_not [] x = inr (contains_none x)
contains_or_not (first ∷ xs) x = go (cases_eq first x) (contains_or_not xs x)
  where
    go : (first ≡ x) ⊎ (first ≢ x) → Contains xs x ⊎ (Contains xs x → ⊥) → Contains (first ∷ xs) x ⊎ (Contains (first ∷ xs) x → ⊥)
    go (inl same) rest = inl (contains_first first xs x same)
    go (inr differs) (inl later) = inl (contains_later first xs x later)
    go (inr differs) (inr absent) = inr (λ has. elim (contains_cases first xs x has) [ inl same ↦ differs same | inr later ↦ absent later ])

-- ---- each once

-- the first does not stand in the rest
pub distinct_first : (first : ℕ) (rest : List ℕ) → IsDistinct nat_eq (first ∷ rest) → Contains rest first → ⊥
distinct_first first rest once has =
    let others = All-from_recursion (λ y. nat_eq first y ≡ false) rest (IsDistinct-head nat_eq first rest once) in
    false≢true (sym (All-contains (λ y. nat_eq first y ≡ false) rest first others has) ∙ (Decides-eqb first first).1 refl)

-- a number that is no member may be put in front
pub distinct_cons : (first : ℕ) (rest : List ℕ) → (Contains rest first → ⊥) → IsDistinct nat_eq rest → IsDistinct nat_eq (first ∷ rest)
distinct_cons first rest absent once = IsDistinct-cons nat_eq first rest (all_differ rest absent) once
  where
    other : (y : ℕ) → first ≢ y → nat_eq first y ≡ false
    other y differs = grind (arith, nat_tests)

    all_differ : (xs : List ℕ) → (Contains xs first → ⊥) → AllByRecursion (λ y. nat_eq first y ≡ false) xs
    all_differ [] none = tt
    all_differ (y ∷ xs) none = (other y (λ same. none (contains_first y xs first (sym same))), all_differ xs (λ later. none (contains_later y xs first later)))

-- no number stands twice in an empty list
pub distinct_none : IsDistinct nat_eq []
unfolding IsDistinct
distinct_none = tt

-- two lists without a common member, each number once in each, have each number once when joined
pub distinct_append : (xs ys : List ℕ) → IsDistinct nat_eq xs → IsDistinct nat_eq ys → ((x : ℕ) → Contains xs x → Contains ys x → ⊥) → IsDistinct nat_eq (xs ++ ys)
distinct_append [] ys once last apart = last
distinct_append (first ∷ xs) ys once last apart = distinct_cons first (xs ++ ys)
    (λ has. elim (Contains-append_cases xs ys first has) [
      | inl before ↦ distinct_first first xs once before
      | inr after ↦ apart first (contains_first first xs first refl) after
    ])
    (distinct_append xs ys (IsDistinct-tail nat_eq first xs once) last (λ x before after. apart x (contains_later first xs x before) after))

-- a number that is no member may be added at the end
pub distinct_push : (xs : List ℕ) (last : ℕ) → IsDistinct nat_eq xs → (Contains xs last → ⊥) → IsDistinct nat_eq (xs ++ last ∷ [])
distinct_push xs last once absent =
    distinct_append xs (last ∷ []) once (distinct_cons last [] (contains_none last) distinct_none) (λ x before only. elim (contains_cases last [] x only) [
      | inl same ↦ absent (contains_same xs x last (sym same) before)
      | inr none ↦ contains_none x none
    ])

-- there are no more than n numbers below n
pub few_below : (n : ℕ) (xs : List ℕ) → IsDistinct nat_eq xs → ((x : ℕ) → Contains xs x → x < n) → length xs ≤ n
few_below n xs once below = length-le_from_distinct_below xs n once (λ x any. below x (Contains-from_any (λ a b. (Decides-eqb a b).0) x xs any))
