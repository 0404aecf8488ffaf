-- Counts and filters that std has not.
use Rattle.std.proofs.Common.{◌≡◌, ℕ, ◌+◌, ◌≤◌, Bool, true, false, cond, ◌||◌, List, [], ◌∷◌, refl, sym, ◌∙◌, ap, arith}
use Rattle.std.specs.Prelude.{count_by, filter}
use Rattle.std.specs.List.{list_any}
use Rattle.std.specs.Prelude.{Result, Ok, Err, OnErr}
use Rattle.std.proofs.lemmas.List.Sums.{sum_by-cons}

-- what an element adds to a count
abbrev pub one_if : Bool → ℕ
one_if b = cond b 1 0

pub count_by-cons : {X : Type 0} (p : X → Bool) (x : X) (xs : List X) → count_by p (x ∷ xs) ≡ one_if (p x) + count_by p xs
count_by-cons p x xs = sum_by-cons (λ x. cond (p x) 1 0) x xs

-- what is filtered out does not count
pub count_by-filter : {X : Type 0} (p keep : X → Bool) → ((x : X) → keep x ≡ false → p x ≡ false) → (xs : List X) → count_by p (filter keep xs) ≡ count_by p xs
count_by-filter p keep out [] = refl
count_by-filter {X} p keep out (x ∷ xs) = cases (keep x) refl (count_by-filter p keep out xs)
  where
    cases : (b : Bool) → keep x ≡ b → count_by p (filter keep xs) ≡ count_by p xs → count_by p (cond b (x ∷ filter keep xs) (filter keep xs)) ≡ count_by p (x ∷ xs)
    cases true is rest = count_by-cons p x (filter keep xs) ∙ ap (λ n. one_if (p x) + n) rest ∙ sym (count_by-cons p x xs)
    cases false is rest =
        let none : p x ≡ false = out x is in
        let whole : count_by p (x ∷ xs) ≡ one_if (p x) + count_by p xs = count_by-cons p x xs in
        let zero_here : one_if (p x) ≡ 0 = rw none refl in
        omega (arith, rest, whole, zero_here)

pub count_by-filter-le : {X : Type 0} (p keep : X → Bool) (xs : List X) → count_by p (filter keep xs) ≤ count_by p xs
count_by-filter-le p keep [] = omega arith
count_by-filter-le {X} p keep (x ∷ xs) = cases (keep x) (count_by-filter-le p keep xs)
  where
    cases : (b : Bool) → count_by p (filter keep xs) ≤ count_by p xs → count_by p (cond b (x ∷ filter keep xs) (filter keep xs)) ≤ count_by p (x ∷ xs)
    cases true rest = omega (arith, rest, count_by-cons p x (filter keep xs), count_by-cons p x xs)
    cases false rest = omega (arith, rest, count_by-cons p x xs)

-- nothing is filtered out
pub filter-all : {X : Type 0} (p keep : X → Bool) → ((x : X) → keep x ≡ false → p x ≡ true) → (xs : List X) → list_any p xs ≡ false → filter keep xs ≡ xs
filter-all p keep out [] none = refl
filter-all {X} p keep out (x ∷ xs) none = cases (keep x) refl (p x) refl none (filter-all p keep out xs)
  where
    cases : (b : Bool) → keep x ≡ b → (c : Bool) → p x ≡ c → (c || list_any p xs) ≡ false → (list_any p xs ≡ false → filter keep xs ≡ xs) → cond b (x ∷ filter keep xs) (filter keep xs) ≡ x ∷ xs
    cases b is true passes none rest = cc
    cases true is false fails none rest = ap (λ ys. x ∷ ys) (rest none)
    cases false is false fails none rest = let passes : p x ≡ true = out x is in cc

pub list_any-filter_other : {X : Type 0} (p keep : X → Bool) → ((x : X) → keep x ≡ false → p x ≡ false) → (xs : List X) → list_any p (filter keep xs) ≡ list_any p xs
list_any-filter_other p keep out [] = refl
list_any-filter_other {X} p keep out (x ∷ xs) = cases (keep x) refl (list_any-filter_other p keep out xs)
  where
    cases : (b : Bool) → keep x ≡ b → list_any p (filter keep xs) ≡ list_any p xs → list_any p (cond b (x ∷ filter keep xs) (filter keep xs)) ≡ list_any p (x ∷ xs)
    cases true is rest = ap (λ b. p x || b) rest
    cases false is rest = rw (out x is) rest

pub list_any-filter_none : {X : Type 0} (p keep : X → Bool) → ((x : X) → keep x ≡ true → p x ≡ false) → (xs : List X) → list_any p (filter keep xs) ≡ false
list_any-filter_none p keep out [] = refl
list_any-filter_none {X} p keep out (x ∷ xs) = cases (keep x) refl (list_any-filter_none p keep out xs)
  where
    cases : (b : Bool) → keep x ≡ b → list_any p (filter keep xs) ≡ false → list_any p (cond b (x ∷ filter keep xs) (filter keep xs)) ≡ false
    cases true is rest = rw (out x is) rest
    cases false is rest = rest

pub count_by-none : {X : Type 0} (p : X → Bool) (xs : List X) → list_any p xs ≡ false → count_by p xs ≡ 0
count_by-none p [] none = refl
count_by-none {X} p (x ∷ xs) none = cases (p x) refl none (count_by-none p xs)
  where
    cases : (b : Bool) → p x ≡ b → (b || list_any p xs) ≡ false → (list_any p xs ≡ false → count_by p xs ≡ 0) → count_by p (x ∷ xs) ≡ 0
    cases true is none rest = cc
    cases false is none rest =
        let here : one_if (p x) ≡ 0 = rw is refl in
        omega (arith, count_by-cons p x xs, here, rest none)

pub list_any-from_count : {X : Type 0} (p : X → Bool) (xs : List X) → count_by p xs ≡ 0 → list_any p xs ≡ false
list_any-from_count p [] none = refl
list_any-from_count {X} p (x ∷ xs) none = cases (p x) refl (list_any-from_count p xs)
  where
    cases : (b : Bool) → p x ≡ b → (count_by p xs ≡ 0 → list_any p xs ≡ false) → (b || list_any p xs) ≡ false
    cases true is rest =
        let here : one_if (p x) ≡ 1 = rw is refl in
        absurd (omega (arith, count_by-cons p x xs, here, none))
    cases false is rest = rest (omega (arith, count_by-cons p x xs, none))

-- what holds, holds where a result is an error
pub on_err : {T E : Type 0} {P : Type 0} (r : Result T E) → P → OnErr r P
on_err (Ok x) p = tt
on_err (Err e) p = p
