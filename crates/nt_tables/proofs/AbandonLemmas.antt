-- A thread's mutexes are abandoned and marked, one after another.
use Rattle.std.proofs.Common.{◌≡◌, ◌≢◌, ◌<◌, ◌⊎◌, ℕ, set, zero, suc, false, List, [], ◌∷◌, length, map, Bool, true, refl, sym, ap, ◌∙◌, subst, inl, inr, arith, Some, None, Contains}
use Rattle.std.specs.Prelude.{◌↔◌, IsTrue}
use Rattle.std.proofs.lemmas.Bool.{cases_eq}
use Rattle.std.proofs.lemmas.List.{length-set, length-map, get_or-set_same, get_or-set_other}
use Rattle.nt_objects.specs.declared.object.Object.{Object}
use Rattle.nt_objects.specs.declared.object.Object.TheVariants.{Event, Semaphore, Mutex, Timer, Thread, Gone}
use Rattle.nt_objects.specs.Object.{owned_by, abandoned_by}
use Rattle.nt_marks.specs.Marks.{is_marked, AddsMarks}
use Rattle.nt_status.proofs.Lists.{contains_none}
use Rattle.nt_tables.specs.Owned.{list_of}
use Rattle.nt_tables.specs.Objects.{object_at, OwnersAgree}
use Rattle.nt_tables.proofs.ListLemmas.{same_test, other_test}
use Rattle.nt_tables.proofs.PassLemmas.{owned_owner, owned_below}

-- ---- abandoning

-- the thread owns the object at this number
abbrev pub Owns : List Object → ℕ → ℕ → Type 0
Owns objects t m = IsTrue (owned_by (object_at objects m) t)

-- those that it owned and owns no more have a mark, besides those that were marked at first
pub record MarkedSoFar (old now : List Object) (t : ℕ) (start marks : List Bool) : Type 0 where
  pub count : length marks ≡ length start
  pub exactly : (m : ℕ) → ((is_marked marks m ≡ true) ⊎ Owns now t m) ↔ ((is_marked start m ≡ true) ⊎ Owns old t m)

pub none_marked : (objects : List Object) (t : ℕ) (start : List Bool) → MarkedSoFar objects objects t start start
none_marked objects t start = record { count = refl; exactly = λ m. (λ has. has, λ has. has) }

abbrev pub abandoned_at : List Object → ℕ → ℕ → List Object
abandoned_at objects t m = set objects m (abandoned_by t (object_at objects m))

owns_elsewhere : (objects : List Object) (t m k : ℕ) → k ≢ m → object_at (abandoned_at objects t m) k ≡ object_at objects k
owns_elsewhere objects t m k differs = get_or-set_other objects m k (abandoned_by t (object_at objects m)) (Thread false) differs

pub one_marked : (old now : List Object) (t m : ℕ) (start marks : List Bool) → MarkedSoFar old now t start marks → Owns now t m → m < length marks → MarkedSoFar old (abandoned_at now t m) t start (set marks m true)
one_marked old now t m start marks so_far owns below = record {
  count = length-set marks m true ∙ so_far.count;
  exactly = λ k. ((λ has. (so_far.exactly k).0 (before k has (cases_eq k m))), λ was. after k was (cases_eq k m));
}
  where
    owned_before : (k : ℕ) → k ≢ m → Owns (abandoned_at now t m) t k → Owns now t k
    owned_before k differs still = subst (λ (o : Object). IsTrue (owned_by o t)) (owns_elsewhere now t m k differs) still

    before : (k : ℕ) → (is_marked (set marks m true) k ≡ true) ⊎ Owns (abandoned_at now t m) t k → (k ≡ m) ⊎ (k ≢ m) → (is_marked marks k ≡ true) ⊎ Owns now t k
    before k has (inl same) = inr (subst (λ (n : ℕ). Owns now t n) (sym same) owns)
    before k (inl mark) (inr differs) = inl (sym (get_or-set_other marks m k true false differs) ∙ mark)
    before k (inr still) (inr differs) = inr (owned_before k differs still)

    after : (k : ℕ) → (is_marked start k ≡ true) ⊎ Owns old t k → (k ≡ m) ⊎ (k ≢ m) → (is_marked (set marks m true) k ≡ true) ⊎ Owns (abandoned_at now t m) t k
    after k was (inl same) = inl (ap (λ (n : ℕ). is_marked (set marks m true) n) same ∙ get_or-set_same marks m true false below)
    after k was (inr differs) = elim ((so_far.exactly k).1 was) [
      | inl mark ↦ inl (get_or-set_other marks m k true false differs ∙ mark)
      | inr owned ↦ inr (subst (λ (o : Object). IsTrue (owned_by o t)) (sym (owns_elsewhere now t m k differs)) owned)
    ]

-- what the thread still owns is among the objects that there were
pub owned_there : (old now : List Object) (t m : ℕ) → map (abandoned_by t) now ≡ map (abandoned_by t) old → Owns now t m → m < length old
owned_there old now t m all owns =
    let below = owned_below now t m ((owned_owner (object_at now m) t).0 owns) in
    let same : length (map (abandoned_by t) now) ≡ length (map (abandoned_by t) old) = ap (λ (os : List Object). length os) all in
    let a = length-map now (abandoned_by t) in
    let b = length-map old (abandoned_by t) in
    omega (arith, below, same, a, b)

pub all_marked : (old now : List Object) (t : ℕ) (start marks : List Bool) → MarkedSoFar old now t start marks → ((m : ℕ) → Owns now t m → ⊥) → AddsMarks (λ m. IsTrue (owned_by (object_at old m) t)) start marks
all_marked old now t start marks so_far none = record {
  count = so_far.count;
  exactly = λ m. (
    (λ mark. (so_far.exactly m).0 (inl mark)),
    λ was. elim ((so_far.exactly m).1 was) [
      | inl mark ↦ mark
      | inr owns ↦ absurd (none m owns)
    ],
  );
}

-- ---- all objects at once

abandoned_twice : (t : ℕ) (o : Object) → abandoned_by t (abandoned_by t o) ≡ abandoned_by t o
abandoned_twice t (Mutex (Some owner) depth abandoned) = elim (cases_eq owner t) [
  | inl same ↦ rw (same_test owner t same) refl
  | inr differs ↦ rw (other_test owner t differs) (rw (other_test owner t differs) refl)
]
abandoned_twice t (Mutex None depth abandoned) = refl
abandoned_twice t (Event manual set) = refl
abandoned_twice t (Semaphore count maximum) = refl
abandoned_twice t (Timer manual set armed) = refl
abandoned_twice t (Thread ended) = refl
abandoned_twice t Gone = refl

-- the object at one number abandoned ahead of all
pub all_the_same : (objects : List Object) (t m : ℕ) → map (abandoned_by t) (abandoned_at objects t m) ≡ map (abandoned_by t) objects
all_the_same [] t m = refl
all_the_same (o ∷ objects) t zero = ap (λ x. x ∷ map (abandoned_by t) objects) (abandoned_twice t o)
all_the_same (o ∷ objects) t (suc m) = ap (λ rest. abandoned_by t o ∷ rest) (all_the_same objects t m)

unowned_same : (t : ℕ) (o : Object) → (IsTrue (owned_by o t) → ⊥) → abandoned_by t o ≡ o
unowned_same t (Mutex (Some owner) depth abandoned) free = elim (cases_eq owner t) [
  | inl same ↦ absurd (free (same_test owner t same))
  | inr differs ↦ rw (other_test owner t differs) refl
]
unowned_same t (Mutex None depth abandoned) free = refl
unowned_same t (Event manual set) free = refl
unowned_same t (Semaphore count maximum) free = refl
unowned_same t (Timer manual set armed) free = refl
unowned_same t (Thread ended) free = refl
unowned_same t Gone free = refl

-- where the thread owns nothing there is nothing to abandon
pub none_abandoned : (objects : List Object) (t : ℕ) → ((m : ℕ) → Owns objects t m → ⊥) → map (abandoned_by t) objects ≡ objects
none_abandoned [] t free = refl
none_abandoned (o ∷ objects) t free = λ i. unowned_same t o (free zero) i ∷ none_abandoned objects t (λ m. free (suc m)) i

pub none_owned : (objects : List Object) (lists : List (List ℕ)) (t : ℕ) → OwnersAgree objects lists → list_of lists t ≡ [] → (m : ℕ) → Owns objects t m → ⊥
none_owned objects lists t agree none m owns = contains_none m (subst (λ (list : List ℕ). Contains list m) none ((agree.named t m).1 owns))
