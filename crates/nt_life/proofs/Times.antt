-- How often a number stands in a list.
use Rattle.std.proofs.Common.{◌≡◌, ◌≢◌, ◌≤◌, ◌<◌, ℕ, zero, suc, ◌+◌, ◌==◌, Bool, true, false, cond, ◌||◌, List, [], ◌∷◌, ◌++◌, length, get_or, refl, sym, ap, ◌∙◌, arith, inl, inr}
use Rattle.std.specs.Prelude.{count_by}
use Rattle.std.specs.List.{list_any, IsDistinct, AllByRecursion, swap_remove}
use Rattle.std.proofs.lemmas.Bool.{cases_eq, false≢true}
use Rattle.std.proofs.lemmas.Bool.Decides.{nat_tests}
use Rattle.std.proofs.lemmas.List.Sums.{sum_by-swap_remove}
use Rattle.std.proofs.lemmas.Map.Steps.{length-le_from_distinct_below}
use Rattle.std.proofs.lemmas.List.Recursion.{is_count_by}
use Rattle.nt_tables.proofs.Counting.{weight}
use Rattle.nt_life.specs.Lasting.{times}

pub same_weight : (k n : ℕ) → k ≡ n → weight (k == n) ≡ 1
same_weight k n same = let test : (k == n) ≡ true = grind (arith, nat_tests, same) in ap weight test

pub other_weight : (k n : ℕ) → k ≢ n → weight (k == n) ≡ 0
other_weight k n differs = go (k == n) refl
  where
    go : (b : Bool) → (k == n) ≡ b → weight (k == n) ≡ 0
    go true e = absurd (differs (let test = e in grind (arith, nat_tests, test)))
    go false e = ap weight e

first_time : (n k : ℕ) (ns : List ℕ) → times n (k ∷ ns) ≡ weight (k == n) + times n ns
first_time n k ns = refl

pub times_end : (n k : ℕ) (ns : List ℕ) → times n (ns ++ k ∷ []) ≡ times n ns + weight (k == n)
times_end n k [] = let first = first_time n k [] in omega (arith, first)
times_end n k (x ∷ ns) =
    let rest = times_end n k ns in
    let before = first_time n x ns in
    let after = first_time n x (ns ++ k ∷ []) in
    omega (arith, rest, before, after)

counted : (n : ℕ) (ns : List ℕ) → times n ns ≡ count_by (λ k. k == n) ns
counted n ns = is_count_by (times n) (λ k. k == n) refl step ns
  where
    step : (k : ℕ) (ks : List ℕ) → times n (k ∷ ks) ≡ cond (k == n) (1 + times n ks) (times n ks)
    step k ks = go (k == n)
      where
        go : (b : Bool) → weight b + times n ks ≡ cond b (1 + times n ks) (times n ks)
        go true = refl
        go false = omega arith

-- the number at this place is taken
pub times_taken : (n : ℕ) (ns : List ℕ) (place : ℕ) → place < length ns → times n (swap_remove ns place 0) + weight (get_or ns place 0 == n) ≡ times n ns
times_taken n ns place there =
    let left = counted n (swap_remove ns place 0) in
    let all = counted n ns in
    let sum = sum_by-swap_remove (λ k. weight (k == n)) ns place 0 there in
    omega (arith, left, all, sum)

-- the last number is taken
pub times_last : (n k : ℕ) (before after : List ℕ) → before ≡ after ++ k ∷ [] → times n after + weight (k == n) ≡ times n before
times_last n k before after is =
    let end = times_end n k after in
    let same = ap (λ ns. times n ns) is in
    omega (arith, end, same)

-- ---- numbers that stand once

member : (n : ℕ) (ns : List ℕ) → list_any (λ k. n == k) ns ≡ true → 0 < times n ns
member n [] is = absurd (false≢true is)
member n (k ∷ ns) is = elim (cases_eq k n) [
  | inl same ↦ let one = same_weight k n same in let first = first_time n k ns in omega (arith, one, first)
  | inr differs ↦
      let test : (n == k) ≡ false = grind (arith, nat_tests, differs) in
      let rest = member n ns (sym (ap (λ b. b || list_any (λ j. n == j) ns) test) ∙ is) in
      let first = first_time n k ns in
      omega (arith, rest, first)
]

distinct : (ns : List ℕ) → ((n : ℕ) → times n ns ≤ 1) → IsDistinct (λ a b. a == b) ns
unfolding IsDistinct
distinct [] once = tt
distinct (k ∷ ns) once = (apart ns (let first = first_time k k ns in let one = same_weight k k refl in let most = once k in omega (arith, first, one, most)), distinct ns (λ n. let first = first_time n k ns in let most = once n in omega (arith, first, most)))
  where
    apart : (js : List ℕ) → times k js ≡ 0 → AllByRecursion (λ j. (k == j) ≡ false) js
    apart [] none = tt
    apart (j ∷ js) none =
        let first = first_time k j js in
        (differs j (omega (arith, first, none)), apart js (omega (arith, first, none)))
      where
        differs : (i : ℕ) → weight (i == k) ≡ 0 → (k == i) ≡ false
        differs i light = elim (cases_eq i k) [
          | inl same ↦ let one = same_weight i k same in absurd (omega (arith, one, light))
          | inr other ↦ grind (arith, nat_tests, other)
        ]

pub bounded : (ns : List ℕ) (m : ℕ) → ((n : ℕ) → times n ns ≤ 1) → ((n : ℕ) → 0 < times n ns → n < m) → length ns ≤ m
bounded ns m once below = length-le_from_distinct_below ns m (distinct ns once) (λ n is. below n (member n ns is))

-- a number that stands there has a place
pub place_of : (n : ℕ) (ns : List ℕ) → 0 < times n ns → (place : ℕ) × (place < length ns) × (get_or ns place 0 ≡ n)
place_of n [] some = absurd (omega (arith, some))
place_of n (k ∷ ns) some = elim (cases_eq k n) [
  | inl same ↦ (0, omega arith, same)
  | inr differs ↦
      let first = first_time n k ns in
      let none = other_weight k n differs in
      let rest = place_of n ns (omega (arith, first, none, some)) in
      let below = rest.1 in
      (suc rest.0, omega (arith, below), rest.2)
]

-- what stands at a place stands there
pub stands : (ns : List ℕ) (place : ℕ) → place < length ns → 0 < times (get_or ns place 0) ns
stands [] place there = absurd (omega (arith, there))
stands (k ∷ ns) zero there = let one = same_weight k k refl in let first = first_time k k ns in omega (arith, one, first)
stands (k ∷ ns) (suc place) there =
    let rest = stands ns place (omega (arith, there)) in
    let first = first_time (get_or ns place 0) k ns in
    omega (arith, rest, first)
