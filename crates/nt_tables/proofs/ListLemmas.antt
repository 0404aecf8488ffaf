-- Lists in which no mutex stands twice.
use Rattle.std.proofs.Common.{◌≡◌, ◌≢◌, ◌<◌, ℕ, set, true, false, eqb, List, [], ◌∷◌, length, sym, ap, ◌∙◌, subst, inl, inr, arith, Contains, nat_eq}
use Rattle.std.proofs.lemmas.Bool.{cases_eq, cases_lt}
use Rattle.std.proofs.lemmas.List.{get_or-set_same, get_or-set_other, get_or_past}
use Rattle.std.proofs.lemmas.Bool.Decides.{nat_tests}
use Rattle.std.specs.List.{IsDistinct}
use Rattle.std.proofs.lemmas.Map.Keys.{IsDistinct-tail}
use Rattle.std.proofs.lemmas.Map.Made.{Contains-tail}
use Rattle.nt_status.proofs.Lists.{contains_none, contains_first, contains_later, contains_cases, contains_same, distinct_none, distinct_first, distinct_cons}
use Rattle.nt_tables.specs.Owned.{list_of, without_mutex}

pub same_test : (a b : ℕ) → a ≡ b → eqb a b ≡ true
same_test a b e = grind arith

pub other_test : (a b : ℕ) → a ≢ b → eqb a b ≡ false
other_test a b e = grind (arith, nat_tests)

-- what stands in the list without a mutex stands in the list
pub without_member : (m k : ℕ) (list : List ℕ) → Contains (without_mutex m list) k → Contains list k
without_member m k [] has = has
without_member m k (x ∷ list) has = elim (cases_eq x m) [
  | inl same ↦ contains_later x list k (rw (same_test x m same) at has)
  | inr differs ↦ elim (contains_cases x (without_mutex m list) k (rw (other_test x m differs) at has)) [
    | inl here ↦ contains_first x list k here
    | inr later ↦ contains_later x list k (without_member m k list later)
  ]
]

-- the mutex that is left out does not stand there any more
pub without_itself : (m : ℕ) (list : List ℕ) → IsDistinct nat_eq list → Contains (without_mutex m list) m → ⊥
without_itself m [] once has = contains_none m has
without_itself m (x ∷ list) once has = elim (cases_eq x m) [
  | inl same ↦ distinct_first x list once (contains_same list m x (sym same) (rw (same_test x m same) at has))
  | inr differs ↦ without_itself m list (IsDistinct-tail nat_eq x list once) (Contains-tail x (without_mutex m list) m differs (rw (other_test x m differs) at has))
]

-- all others stand there still
pub without_others : (m k : ℕ) (list : List ℕ) → k ≢ m → Contains list k → Contains (without_mutex m list) k
without_others m k [] differs has = has
without_others m k (x ∷ list) differs has = elim (cases_eq x m) [
  | inl same ↦ rw (same_test x m same) (Contains-tail x list k (λ e. differs (sym e ∙ same)) has)
  | inr other ↦ rw (other_test x m other) (elim (contains_cases x list k has) [
    | inl here ↦ contains_first x (without_mutex m list) k here
    | inr later ↦ contains_later x (without_mutex m list) k (without_others m k list differs later)
  ])
]

pub without_once : (m : ℕ) (list : List ℕ) → IsDistinct nat_eq list → IsDistinct nat_eq (without_mutex m list)
without_once m [] once = distinct_none
without_once m (x ∷ list) once = elim (cases_eq x m) [
  | inl same ↦ rw (same_test x m same) (IsDistinct-tail nat_eq x list once)
  | inr differs ↦ rw (other_test x m differs) (distinct_cons x (without_mutex m list) (λ has. distinct_first x list once (without_member m x list has)) (without_once m list (IsDistinct-tail nat_eq x list once)))
]

-- ---- a mutex leaves one of several lists

module _ (lists : List (List ℕ)) (t h : ℕ) (known : t < length lists) where
  here : (list : List ℕ) → list_of (set lists t list) t ≡ list
  here list = get_or-set_same lists t list [] known

  pub elsewhere : (list : List ℕ) (u : ℕ) → u ≢ t → list_of (set lists t list) u ≡ list_of lists u
  elsewhere list u differs = get_or-set_other lists t u list [] differs

  pub at_t : (list : List ℕ) (u : ℕ) → u ≡ t → list_of (set lists t list) u ≡ list
  at_t list u same = ap (λ v. list_of (set lists t list) v) same ∙ here list

  pub removed_member : (u m : ℕ) → IsDistinct nat_eq (list_of lists t) → Contains (list_of (set lists t (without_mutex h (list_of lists t))) u) m → Contains (list_of lists u) m × (u ≡ t → m ≢ h)
  removed_member u m once has = elim (cases_eq u t) [
    | inl same ↦
        let left : Contains (without_mutex h (list_of lists t)) m = subst (λ (list : List ℕ). Contains list m) (at_t (without_mutex h (list_of lists t)) u same) has in
        (subst (λ (v : ℕ). Contains (list_of lists v) m) (sym same) (without_member h m (list_of lists t) left), λ _ e. without_itself h (list_of lists t) once (contains_same (without_mutex h (list_of lists t)) m h e left))
    | inr differs ↦ (subst (λ (list : List ℕ). Contains list m) (elsewhere (without_mutex h (list_of lists t)) u differs) has, λ same. absurd (differs same))
  ]

  pub member_removed : (u m : ℕ) → m ≢ h → Contains (list_of lists u) m → Contains (list_of (set lists t (without_mutex h (list_of lists t))) u) m
  member_removed u m other has = elim (cases_eq u t) [
    | inl same ↦ subst (λ (list : List ℕ). Contains list m) (sym (at_t (without_mutex h (list_of lists t)) u same)) (without_others h m (list_of lists t) other (subst (λ (v : ℕ). Contains (list_of lists v) m) same has))
    | inr differs ↦ subst (λ (list : List ℕ). Contains list m) (sym (elsewhere (without_mutex h (list_of lists t)) u differs)) has
  ]

  pub removed_once : (u : ℕ) → IsDistinct nat_eq (list_of lists t) → IsDistinct nat_eq (list_of lists u) → IsDistinct nat_eq (list_of (set lists t (without_mutex h (list_of lists t))) u)
  removed_once u once others = elim (cases_eq u t) [
    | inl same ↦ subst (IsDistinct nat_eq) (sym (at_t (without_mutex h (list_of lists t)) u same)) (without_once h (list_of lists t) once)
    | inr differs ↦ subst (IsDistinct nat_eq) (sym (elsewhere (without_mutex h (list_of lists t)) u differs)) others
  ]

-- a thread that has a list is there
pub listed_known : (lists : List (List ℕ)) (t m : ℕ) → Contains (list_of lists t) m → t < length lists
listed_known lists t m has = elim (cases_lt t (length lists)) [
  | inl below ↦ below
  | inr past ↦ absurd (contains_none m (subst (λ (list : List ℕ). Contains list m) (get_or_past lists t [] past) has))
]
