-- Numbers, lists and tests, renamed.
use Rattle.std.proofs.Common.{◌≡◌, ◌<◌, ◌≤◌, ◌⊎◌, inl, inr, ℕ, ◌+◌, zero, suc, Bool, true, false, not, ◌&&◌, ◌||◌, List, [], ◌∷◌, ◌++◌, length, map, refl, sym, ap, ◌∙◌, subst, arith, Some, Contains}
use Rattle.std.specs.Prelude.{slice_index_or, slice_set, nat_le, nat_lt, ◌==◌, if◌then◌else◌, option_map}
use Rattle.std.specs.List.{list_any, list_all, find, position_or_len, flat_map}
use Rattle.std.specs.Ordering.{nat_cmp, eq_by_cmp}
use Rattle.std.specs.Cmp.{unsigned_tied}
use Rattle.std.proofs.lemmas.Bool.{cases_eq, cases_lt}
use Rattle.std.proofs.lemmas.Bool.Decides.{nat_tests}
use Rattle.std.proofs.lemmas.List.{length-set, get_or-set_other, get_or-set_same}
use Rattle.nt_apart.specs.Fewer.{IsRenaming, AreMoved, AreGrantsRenamed, renamed_grant}
use Rattle.nt_status.proofs.Lists.{contains_none, contains_first, contains_later, contains_cases}
use Rattle.nt_calls.specs.declared.call.Grant.{Grant}
use Rattle.nt_calls.specs.Rising.{IsRising, AreRising}
use Rattle.nt_machine.proofs.Listing.{same_yes, same_no}

-- ---- tests of numbers

pub tests_agree : (a b : Bool) → (a ≡ true → b ≡ true) → (b ≡ true → a ≡ true) → a ≡ b
tests_agree true b there back = sym (there refl)
tests_agree false true there back = back refl
tests_agree false false there back = refl

pub turned : (x y : ℕ) → (x == y) ≡ (y == x)
turned x y = elim (cases_eq x y) [ inl same ↦ same_yes x y same ∙ sym (same_yes y x (sym same)) | inr differs ↦ same_no x y differs ∙ sym (same_no y x (λ e. differs (sym e))) ]

pub one_to_one : (n : ℕ) (r : ℕ → ℕ) → IsRenaming n r → (x y : ℕ) → r x ≡ r y → x ≡ y
one_to_one n r ren x y e = sym (ren.back x) ∙ (ap (λ (z : ℕ). r z) e ∙ ren.back y)

pub same_test : (n : ℕ) (r : ℕ → ℕ) → IsRenaming n r → (x y : ℕ) → (r x == r y) ≡ (x == y)
same_test n r ren x y = elim (cases_eq x y) [
  | inl same ↦ same_yes (r x) (r y) (ap (λ (z : ℕ). r z) same) ∙ sym (same_yes x y same)
  | inr differs ↦ same_no (r x) (r y) (λ e. differs (one_to_one n r ren x y e)) ∙ sym (same_no x y differs)
]

pub tied_test : (n : ℕ) (r : ℕ → ℕ) → IsRenaming n r → (x y : ℕ) → eq_by_cmp nat_cmp (r x) (r y) ≡ eq_by_cmp nat_cmp x y
tied_test n r ren x y = unsigned_tied (r x) (r y) ∙ (same_test n r ren x y ∙ sym (unsigned_tied x y))

pub le_test : (n : ℕ) (r : ℕ → ℕ) → IsRenaming n r → (m x : ℕ) → n ≤ m → nat_le m (r x) ≡ nat_le m x
le_test n r ren m x most = elim (cases_lt x n) [
  | inl below ↦ let there = ren.inside x below in no (r x) (omega (arith, there, most)) ∙ sym (no x (omega (arith, below, most)))
  | inr above ↦ ap (λ (z : ℕ). nat_le m z) (ren.outside x above)
]
  where
    no : (z : ℕ) → z < m → nat_le m z ≡ false
    no z less = grind (arith, nat_tests, less)

pub lt_test : (n : ℕ) (r : ℕ → ℕ) → IsRenaming n r → (m x : ℕ) → n ≤ m → nat_lt (r x) m ≡ nat_lt x m
lt_test n r ren m x most = elim (cases_lt x n) [
  | inl below ↦ let there = ren.inside x below in yes (r x) (omega (arith, there, most)) ∙ sym (yes x (omega (arith, below, most)))
  | inr above ↦ ap (λ (z : ℕ). nat_lt z m) (ren.outside x above)
]
  where
    yes : (z : ℕ) → z < m → nat_lt z m ≡ true
    yes z less = grind (arith, nat_tests, less)

pub lt_there : (n : ℕ) (r : ℕ → ℕ) → IsRenaming n r → (m x : ℕ) → n ≤ m → x < m → r x < m
lt_there n r ren m x most less = elim (cases_lt x n) [
  | inl below ↦ let there = ren.inside x below in omega (arith, there, most)
  | inr above ↦ let is = ren.outside x above in omega (arith, is, less)
]

-- ---- lists of numbers

pub any_renamed : (r : ℕ → ℕ) (p q : ℕ → Bool) → ((x : ℕ) → q (r x) ≡ p x) → (xs : List ℕ) → list_any q (map r xs) ≡ list_any p xs
any_renamed r p q same [] = refl
any_renamed r p q same (x ∷ xs) = ap (λ (b : Bool). b || list_any q (map r xs)) (same x) ∙ ap (λ (b : Bool). p x || b) (any_renamed r p q same xs)

pub all_renamed : (r : ℕ → ℕ) (p q : ℕ → Bool) → ((x : ℕ) → q (r x) ≡ p x) → (xs : List ℕ) → list_all q (map r xs) ≡ list_all p xs
all_renamed r p q same [] = refl
all_renamed r p q same (x ∷ xs) = ap (λ (b : Bool). b && list_all q (map r xs)) (same x) ∙ ap (λ (b : Bool). p x && b) (all_renamed r p q same xs)

pub find_renamed : (r : ℕ → ℕ) (p q : ℕ → Bool) → ((x : ℕ) → q (r x) ≡ p x) → (xs : List ℕ) → find q (map r xs) ≡ option_map r (find p xs)
find_renamed r p q same [] = refl
find_renamed r p q same (x ∷ xs) = ap (λ (b : Bool). if b then Some (r x) else find q (map r xs)) (same x) ∙ go (p x) (find_renamed r p q same xs)
  where
    go : (b : Bool) → find q (map r xs) ≡ option_map r (find p xs) → (if b then Some (r x) else find q (map r xs)) ≡ option_map r (if b then Some x else find p xs)
    go true rest = refl
    go false rest = rest

pub place_renamed : (r : ℕ → ℕ) (p q : ℕ → Bool) → ((x : ℕ) → q (r x) ≡ p x) → (xs : List ℕ) → position_or_len q (map r xs) ≡ position_or_len p xs
place_renamed r p q same [] = refl
place_renamed r p q same (x ∷ xs) = ap (λ (b : Bool). if not b then 1 + position_or_len q (map r xs) else 0) (same x) ∙ ap (λ (k : ℕ). if not (p x) then 1 + k else 0) (place_renamed r p q same xs)

pub map_after : {A B C : Type 0} (f : A → B) (g : B → C) (h : A → C) → ((x : A) → g (f x) ≡ h x) → (xs : List A) → map g (map f xs) ≡ map h xs
map_after f g h same [] = refl
map_after f g h same (x ∷ xs) = ap (λ z. z ∷ map g (map f xs)) (same x) ∙ ap (λ zs. h x ∷ zs) (map_after f g h same xs)

pub map_append : {A B : Type 0} (f : A → B) (xs ys : List A) → map f (xs ++ ys) ≡ map f xs ++ map f ys
map_append f [] ys = refl
map_append f (x ∷ xs) ys = ap (λ zs. f x ∷ zs) (map_append f xs ys)

pub flat_renamed : (r : ℕ → ℕ) (f g : ℕ → List ℕ) → ((x : ℕ) → g (r x) ≡ map r (f x)) → (xs : List ℕ) → flat_map g (map r xs) ≡ map r (flat_map f xs)
flat_renamed r f g same [] = refl
flat_renamed r f g same (x ∷ xs) =
    ap (λ (l : List ℕ). l ++ flat_map g (map r xs)) (same x)
    ∙ (ap (λ (l : List ℕ). map r (f x) ++ l) (flat_renamed r f g same xs) ∙ sym (map_append r (f x) (flat_map f xs)))

-- ---- lists by number

pub past : {A : Type 0} (xs : List A) (i : ℕ) (d : A) → length xs ≤ i → slice_index_or xs i d ≡ d
past [] i d most = refl
past (x ∷ xs) zero d most = absurd (omega (arith, most))
past (x ∷ xs) (suc i) d most = past xs i d (omega (arith, most))

pub moved_set : {A : Type 0} (n : ℕ) (r : ℕ → ℕ) (f : A → A) (d : A) (xs ys : List A) → IsRenaming n r → AreMoved n r f d xs ys → (t : ℕ) (v w : A) → f d ≡ d → w ≡ f v → AreMoved n r f d (slice_set xs t v) (slice_set ys (r t) w)
moved_set n r f d xs ys ren moved t v w none is = record {
  enough = let long = length-set xs t v in let most = moved.enough in omega (arith, long, most);
  count = length-set ys (r t) w ∙ (moved.count ∙ sym (length-set xs t v));
  each = λ x. at x (cases_eq x t) (cases_lt t (length xs));
}
  where
    at : (x : ℕ) → (x ≡ t) ⊎ (x ≡ t → ⊥) → (t < length xs) ⊎ (length xs ≤ t) → slice_index_or (slice_set ys (r t) w) (r x) d ≡ f (slice_index_or (slice_set xs t v) x d)
    at x (inr differs) _ =
        get_or-set_other ys (r t) (r x) w d (λ e. differs (one_to_one n r ren x t e))
        ∙ (moved.each x ∙ ap (λ z. f z) (sym (get_or-set_other xs t x v d differs)))
    at x (inl same) (inl below) =
        let count = moved.count in
        let there : r t < length ys = let in_place = lt_there n r ren (length xs) t moved.enough below in omega (arith, in_place, count) in
        ap (λ (z : ℕ). slice_index_or (slice_set ys (r t) w) (r z) d) same
        ∙ (get_or-set_same ys (r t) w d there
        ∙ (is ∙ (ap (λ z. f z) (sym (get_or-set_same xs t v d below)) ∙ ap (λ (z : ℕ). f (slice_index_or (slice_set xs t v) z d)) (sym same))))
    at x (inl same) (inr above) =
        let count = moved.count in
        let most = moved.enough in
        let still = ren.outside t (omega (arith, most, above)) in
        let e = length-set ys (r t) w in
        let g = length-set xs t v in
        past (slice_set ys (r t) w) (r x) d (let k = ap (λ (z : ℕ). r z) same in omega (arith, e, count, still, above, k))
        ∙ (sym none ∙ ap (λ z. f z) (sym (past (slice_set xs t v) x d (omega (arith, g, same, above)))))

pub length_map : {A B : Type 0} (g : A → B) (xs : List A) → length (map g xs) ≡ length xs
length_map g [] = refl
length_map g (x ∷ xs) = ap (λ (k : ℕ). suc k) (length_map g xs)

pub get_map : {A : Type 0} (g : A → A) (d : A) → g d ≡ d → (xs : List A) (i : ℕ) → slice_index_or (map g xs) i d ≡ g (slice_index_or xs i d)
get_map g d none [] i = sym none
get_map g d none (x ∷ xs) zero = refl
get_map g d none (x ∷ xs) (suc i) = get_map g d none xs i

pub moved_map : {A : Type 0} (n : ℕ) (r : ℕ → ℕ) (f : A → A) (d : A) (xs ys : List A) → AreMoved n r f d xs ys → (g h : A → A) → g d ≡ d → h d ≡ d → ((x : A) → h (f x) ≡ f (g x)) → AreMoved n r f d (map g xs) (map h ys)
moved_map {A = A} n r f d xs ys moved g h none_g none_h same = record {
  enough = let long = length_map g xs in let most = moved.enough in omega (arith, long, most);
  count = length_map h ys ∙ (moved.count ∙ sym (length_map g xs));
  each = λ x. get_map h d none_h ys (r x) ∙ (ap (λ z. h z) (moved.each x) ∙ (same (slice_index_or xs x d) ∙ ap (λ z. f z) (sym (get_map g d none_g xs x))));
}

get_last : {A : Type 0} (xs : List A) (v d : A) → slice_index_or (xs ++ v ∷ []) (length xs) d ≡ v
get_last [] v d = refl
get_last (x ∷ xs) v d = get_last xs v d

pub get_front : {A : Type 0} (xs : List A) (v d : A) (i : ℕ) → i < length xs → slice_index_or (xs ++ v ∷ []) i d ≡ slice_index_or xs i d
get_front [] v d i less = absurd (omega (arith, less))
get_front (x ∷ xs) v d zero less = refl
get_front (x ∷ xs) v d (suc i) less = get_front xs v d i (omega (arith, less))

pub length_last : {A : Type 0} (xs : List A) (v : A) → length (xs ++ v ∷ []) ≡ suc (length xs)
length_last [] v = refl
length_last (x ∷ xs) v = ap (λ (k : ℕ). suc k) (length_last xs v)

pub moved_last : {A : Type 0} (n : ℕ) (r : ℕ → ℕ) (f : A → A) (d : A) (xs ys : List A) → IsRenaming n r → AreMoved n r f d xs ys → (v w : A) → f d ≡ d → w ≡ f v → AreMoved n r f d (xs ++ v ∷ []) (ys ++ w ∷ [])
moved_last n r f d xs ys ren moved v w none is = record {
  enough = let long = length_last xs v in let most = moved.enough in omega (arith, long, most);
  count = length_last ys w ∙ (ap (λ (k : ℕ). suc k) moved.count ∙ sym (length_last xs v));
  each = λ x. at x (cases_lt x (length xs)) (cases_eq x (length xs));
}
  where
    at : (x : ℕ) → (x < length xs) ⊎ (length xs ≤ x) → (x ≡ length xs) ⊎ (x ≡ length xs → ⊥) → slice_index_or (ys ++ w ∷ []) (r x) d ≡ f (slice_index_or (xs ++ v ∷ []) x d)
    at x (inl less) _ =
        let count = moved.count in
        let there : r x < length ys = let in_place = lt_there n r ren (length xs) x moved.enough less in omega (arith, in_place, count) in
        get_front ys w d (r x) there ∙ (moved.each x ∙ ap (λ z. f z) (sym (get_front xs v d x less)))
    at x (inr most) (inl same) =
        let enough = moved.enough in
        let still : r x ≡ length ys = ren.outside x (omega (arith, most, enough)) ∙ (same ∙ sym moved.count) in
        ap (λ (z : ℕ). slice_index_or (ys ++ w ∷ []) z d) still
        ∙ (get_last ys w d ∙ (is ∙ (ap (λ z. f z) (sym (get_last xs v d)) ∙ ap (λ (z : ℕ). f (slice_index_or (xs ++ v ∷ []) z d)) (sym same))))
    at x (inr most) (inr differs) =
        let enough = moved.enough in
        let count = moved.count in
        let still = ren.outside x (omega (arith, most, enough)) in
        let e = length_last ys w in
        let g = length_last xs v in
        let more : suc (length xs) ≤ x = grind (arith, most, differs) in
        past (ys ++ w ∷ []) (r x) d (omega (arith, e, count, still, more)) ∙ (sym none ∙ ap (λ z. f z) (sym (past (xs ++ v ∷ []) x d (omega (arith, g, more)))))

-- ---- a list in order

-- x where it belongs in a rising list
placed : ℕ → List ℕ → List ℕ
placed x [] = x ∷ []
placed x (y ∷ ys) = elim (cases_lt x y) [
  | inl less ↦ x ∷ y ∷ ys
  | inr most ↦ elim (cases_eq x y) [ inl same ↦ y ∷ ys | inr differs ↦ y ∷ placed x ys ]
]

abbrev pub AreMembersOf : List ℕ → List ℕ → ℕ → Type 0
AreMembersOf zs ys x = ((z : ℕ) → Contains zs z → (z ≡ x) ⊎ Contains ys z) × Contains zs x × ((z : ℕ) → Contains ys z → Contains zs z)

placed_has : (x : ℕ) (ys : List ℕ) → AreMembersOf (placed x ys) ys x
unfolding placed
placed_has x [] = (λ z has. elim (contains_cases x [] z has) [ inl same ↦ inl (sym same) | inr later ↦ inr later ], contains_first x [] x refl, λ z has. absurd (contains_none z has))
placed_has x (y ∷ ys) = go (cases_lt x y) (cases_eq x y) (placed_has x ys)
  where
    go : (c : (x < y) ⊎ (y ≤ x)) (d : (x ≡ y) ⊎ (x ≡ y → ⊥)) → AreMembersOf (placed x ys) ys x
        → AreMembersOf (elim c [ inl less ↦ x ∷ y ∷ ys | inr most ↦ elim d [ inl same ↦ y ∷ ys | inr differs ↦ y ∷ placed x ys ] ]) (y ∷ ys) x
    go (inl less) d rest = (λ z has. elim (contains_cases x (y ∷ ys) z has) [ inl same ↦ inl (sym same) | inr later ↦ inr later ], contains_first x (y ∷ ys) x refl, λ z has. contains_later x (y ∷ ys) z has)
    go (inr most) (inl same) rest = (λ z has. inr has, contains_first y ys x (sym same), λ z has. has)
    go (inr most) (inr differs) rest = (
      λ z has. elim (contains_cases y (placed x ys) z has) [
        | inl same ↦ inr (contains_first y ys z same)
        | inr later ↦ elim (rest.0 z later) [ inl same ↦ inl same | inr before ↦ inr (contains_later y ys z before) ]
      ],
      contains_later y (placed x ys) x rest.1,
      λ z has. elim (contains_cases y ys z has) [ inl same ↦ contains_first y (placed x ys) z same | inr later ↦ contains_later y (placed x ys) z (rest.2 z later) ],
    )

placed_rising : (x : ℕ) (ys : List ℕ) → IsRising ys → IsRising (placed x ys)
unfolding placed
placed_rising x [] rising = (λ y has. absurd (contains_none y has), tt)
placed_rising x (y ∷ ys) rising = go (cases_lt x y) (cases_eq x y) (placed_rising x ys rising.1)
  where
    go : (c : (x < y) ⊎ (y ≤ x)) (d : (x ≡ y) ⊎ (x ≡ y → ⊥)) → IsRising (placed x ys)
        → IsRising (elim c [ inl less ↦ x ∷ y ∷ ys | inr most ↦ elim d [ inl same ↦ y ∷ ys | inr differs ↦ y ∷ placed x ys ] ])
    go (inl less) d rest =
        (λ z has. elim (contains_cases y ys z has) [ inl same ↦ omega (arith, less, same) | inr later ↦ let more = rising.0 z later in omega (arith, less, more) ], rising)
    go (inr most) (inl same) rest = rising
    go (inr most) (inr differs) rest = (
      λ z has. elim ((placed_has x ys).0 z has) [
        | inl same ↦ grind (arith, most, differs, same)
        | inr later ↦ rising.0 z later
      ],
      rest,
    )

pub in_order : List ℕ → List ℕ
in_order [] = []
in_order (x ∷ xs) = placed x (in_order xs)

in_order_rising : (xs : List ℕ) → IsRising (in_order xs)
unfolding in_order
in_order_rising [] = tt
in_order_rising (x ∷ xs) = placed_rising x (in_order xs) (in_order_rising xs)

in_order_has : (xs : List ℕ) (z : ℕ) → (Contains (in_order xs) z → Contains xs z) × (Contains xs z → Contains (in_order xs) z)
unfolding in_order
in_order_has [] z = (λ has. has, λ has. has)
in_order_has (x ∷ xs) z =
    let of = placed_has x (in_order xs) in
    let rest = in_order_has xs z in (
      λ has. elim (of.0 z has) [ inl same ↦ contains_first x xs z (sym same) | inr later ↦ contains_later x xs z (rest.0 later) ],
      λ has. elim (contains_cases x xs z has) [ inl same ↦ subst (λ (y : ℕ). Contains (placed x (in_order xs)) y) same of.1 | inr later ↦ of.2 z (rest.1 later) ],
    )

-- ---- members of a renamed list

pub mapped_has : {A B : Type 0} (f : A → B) (xs : List A) (z : A) → Contains xs z → Contains (map f xs) (f z)
mapped_has f [] z has = absurd (contains_none z has)
mapped_has f (x ∷ xs) z has = elim (contains_cases x xs z has) [
  | inl same ↦ contains_first (f x) (map f xs) (f z) (ap (λ y. f y) same)
  | inr later ↦ contains_later (f x) (map f xs) (f z) (mapped_has f xs z later)
]

pub has_mapped : {A B : Type 0} (f : A → B) (xs : List A) (z : B) → Contains (map f xs) z → (y : A) × Contains xs y × (f y ≡ z)
has_mapped f [] z has = absurd (contains_none z has)
has_mapped f (x ∷ xs) z has = elim (contains_cases (f x) (map f xs) z has) [
  | inl same ↦ (x, contains_first x xs x refl, same)
  | inr later ↦ let rest = has_mapped f xs z later in (rest.0, contains_later x xs rest.0 rest.1, rest.2)
]

-- ---- the numbers of which something is true

-- the renamed numbers, in order
abbrev pub renamed_order : (ℕ → ℕ) → List ℕ → List ℕ
renamed_order r xs = in_order (map r xs)

pub order_there : (r : ℕ → ℕ) (xs : List ℕ) (x : ℕ) → Contains xs x → Contains (renamed_order r xs) (r x)
order_there r xs x has = (in_order_has (map r xs) (r x)).1 (mapped_has r xs x has)

pub order_back : (n : ℕ) (r : ℕ → ℕ) → IsRenaming n r → (xs : List ℕ) (y : ℕ) → Contains (renamed_order r xs) y → Contains xs (r y)
order_back n r ren xs y has =
    let it = has_mapped r xs y ((in_order_has (map r xs) y).0 has) in
    subst (λ (z : ℕ). Contains xs z) (sym (ren.back it.0) ∙ ap (λ (z : ℕ). r z) it.2) it.1

pub rising_renamed : (n : ℕ) (r : ℕ → ℕ) → IsRenaming n r → (P Q : ℕ → Type 0) (xs : List ℕ) → AreRising P xs → ((x : ℕ) → P x → Q (r x)) → ((x : ℕ) → Q x → P (r x)) → AreRising Q (renamed_order r xs)
rising_renamed n r ren P Q xs rising there back = record {
  rising = in_order_rising (map r xs);
  exactly = λ y. (
    λ has. subst (λ (z : ℕ). Q z) (ren.back y) (there (r y) ((rising.exactly (r y)).0 (order_back n r ren xs y has))),
    λ is. subst (λ (z : ℕ). Contains (renamed_order r xs) z) (ren.back y) (order_there r xs (r y) ((rising.exactly (r y)).1 (back y is))),
  );
}

-- a test by number, of the renamed list
member_test : (xs : List ℕ) (x : ℕ) → list_any (λ (y : ℕ). y == x) xs ≡ true → Contains xs x
member_test [] x is = absurd (let h : false ≡ true = is in cc)
member_test (y ∷ xs) x is = elim (cases_eq y x) [
  | inl same ↦ contains_first y xs x same
  | inr differs ↦ contains_later y xs x (member_test xs x (sym (ap (λ (b : Bool). b || list_any (λ (z : ℕ). z == x) xs) (same_no y x differs)) ∙ is))
]

pub test_member : (xs : List ℕ) (x : ℕ) → Contains xs x → list_any (λ (y : ℕ). y == x) xs ≡ true
test_member [] x has = absurd (contains_none x has)
test_member (y ∷ xs) x has = elim (contains_cases y xs x has) [
  | inl same ↦ ap (λ (b : Bool). b || list_any (λ (z : ℕ). z == x) xs) (same_yes y x same)
  | inr later ↦ go (y == x) (test_member xs x later)
]
  where
    go : (b : Bool) → list_any (λ (z : ℕ). z == x) xs ≡ true → (b || list_any (λ (z : ℕ). z == x) xs) ≡ true
    go true rest = refl
    go false rest = rest

abbrev pub among : List ℕ → ℕ → Bool
among xs x = list_any (λ (y : ℕ). y == x) xs

pub among_renamed : (n : ℕ) (r : ℕ → ℕ) → IsRenaming n r → (xs : List ℕ) (x : ℕ) → among (renamed_order r xs) (r x) ≡ among xs x
among_renamed n r ren xs x = tests_agree (among (renamed_order r xs) (r x)) (among xs x)
    (λ is. test_member xs x (subst (λ (z : ℕ). Contains xs z) (ren.back x) (order_back n r ren xs (r x) (member_test (renamed_order r xs) (r x) is))))
    (λ is. test_member (renamed_order r xs) (r x) (order_there r xs x (member_test xs x is)))

-- ---- grants

-- the grants of these threads
pub grants_in_order : (n : ℕ) (r : ℕ → ℕ) → IsRenaming n r → (e f : ℕ → Grant) → ((t : ℕ) → f (r t) ≡ renamed_grant r (e t)) → (ts : List ℕ) → AreGrantsRenamed r (map e ts) (map f (renamed_order r ts))
grants_in_order n r ren e f same ts = record { there = there; back = back }
  where
    there : (g : Grant) → Contains (map e ts) g → Contains (map f (renamed_order r ts)) (renamed_grant r g)
    there g has =
        let it = has_mapped e ts g has in
        subst (λ (z : Grant). Contains (map f (renamed_order r ts)) z) (same it.0 ∙ ap (λ (z : Grant). renamed_grant r z) it.2)
        (mapped_has f (renamed_order r ts) (r it.0) (order_there r ts it.0 it.1))

    twice : (g : Grant) → renamed_grant r (renamed_grant r g) ≡ g
    twice g = ap (λ (z : ℕ). record g { thread = z }) (ren.back g.thread)

    back : (g : Grant) → Contains (map f (renamed_order r ts)) g → Contains (map e ts) (renamed_grant r g)
    back g has =
        let it = has_mapped f (renamed_order r ts) g has in
        let is : e (r it.0) ≡ renamed_grant r g = sym (twice (e (r it.0))) ∙ (ap (λ (z : Grant). renamed_grant r z) (sym (same (r it.0)) ∙ (ap (λ (z : ℕ). f z) (ren.back it.0) ∙ it.2))) in
        subst (λ (z : Grant). Contains (map e ts) z) is (mapped_has e ts (r it.0) (order_back n r ren ts it.0 it.1))

pub grants_mapped : (n : ℕ) (r : ℕ → ℕ) → IsRenaming n r → (gs : List Grant) → AreGrantsRenamed r gs (map (renamed_grant r) gs)
grants_mapped n r ren gs = record { there = λ g has. mapped_has (renamed_grant r) gs g has; back = back }
  where
    twice : (g : Grant) → renamed_grant r (renamed_grant r g) ≡ g
    twice g = ap (λ (z : ℕ). record g { thread = z }) (ren.back g.thread)

    back : (g : Grant) → Contains (map (renamed_grant r) gs) g → Contains gs (renamed_grant r g)
    back g has =
        let it = has_mapped (renamed_grant r) gs g has in
        subst (λ (z : Grant). Contains gs z) (sym (twice it.0) ∙ ap (λ (z : Grant). renamed_grant r z) it.2) it.1
