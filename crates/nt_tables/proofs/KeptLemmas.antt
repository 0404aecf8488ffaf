-- The lists agree with the objects still where an object keeps its owner, joins a list, or nothing is there yet.
use Rattle.std.proofs.Common.{◌≡◌, ◌≢◌, ◌<◌, ◌≤◌, ◌↔◌, ℤ, ℕ, zero, suc, Bool, true, false, Contains, nat_eq, set, List, [], ◌∷◌, length, replicate, get_or, refl, sym, ap, ◌∙◌, subst, inl, inr, Option, Some, None, Result, Ok, Err, OnOk, OnErr, arith}
use Rattle.std.specs.Prelude.{slice_get}
use Rattle.std.specs.List.{IsDistinct}
use Rattle.std.proofs.lemmas.Bool.{cases_eq, false≢true}
use Rattle.std.proofs.lemmas.List.{get_or_read, get_or_past, length-set, set-get_or}
use Rattle.std.proofs.lemmas.Map.Made.{Contains-tail}
use Rattle.std.proofs.lemmas.Option.{same_Some, none-some}
use Rattle.nt_status.proofs.Lists.{contains_none, contains_first, contains_later, distinct_none, distinct_cons}
use Rattle.nt_status.specs.declared.refusal.Refusal.{Refusal}
use Rattle.nt_objects.specs.declared.object.Object.{Object}
use Rattle.nt_objects.specs.declared.object.Object.TheVariants.{Event, Semaphore, Mutex, Timer, Thread, Gone}
use Rattle.nt_objects.specs.Object.{mutex_owner, owned_by, is_mutex, taken, with_set, released}
use Rattle.nt_tables.specs.Owned.{list_of, after_first, added, IsUnowned}
use Rattle.nt_tables.specs.Objects.{object_at, OwnersAgree, IsPassed}
use Rattle.nt_tables.proofs.ListLemmas.{elsewhere, at_t}
use Rattle.nt_tables.proofs.PassLemmas.{agree_owner, agree_put}

-- ---- lists

-- the lists stay where they name the owner already
pub same_passed : (lists : List (List ℕ)) (m : ℕ) (to : Option ℕ) → ((t : ℕ) → Contains (list_of lists t) m ↔ (to ≡ Some t)) → ((t : ℕ) → IsDistinct nat_eq (list_of lists t)) → IsPassed lists lists m to
same_passed lists m to itself once = record {
  itself = itself;
  others = λ t k differs. ((λ has. has), (λ has. has));
  once = once;
}

-- what stands in no list has no owner
pub unlisted : (lists : List (List ℕ)) (m : ℕ) → IsUnowned lists m → (t : ℕ) → Contains (list_of lists t) m ↔ (None ≡ Some t)
unlisted lists m unowned t = ((λ has. absurd (unowned t has)), (λ e. absurd (none-some t e)))

-- a mutex comes to a list from none
pub added_passed : (lists : List (List ℕ)) (t m : ℕ) → t < length lists → IsUnowned lists m → ((u : ℕ) → IsDistinct nat_eq (list_of lists u)) → IsPassed lists (added lists t m) m (Some t)
added_passed lists t m known unowned once = record {
  itself = λ u. elim (cases_eq u t) [
    | inl same ↦ ((λ _. ap Some (sym same)), (λ _. subst (λ (list : List ℕ). Contains list m) (sym (now u same)) (contains_first m (list_of lists t) m refl)))
    | inr differs ↦ ((λ has. absurd (unowned u (subst (λ (list : List ℕ). Contains list m) (other u differs) has))), (λ e. absurd (differs (sym (same_Some t u e)))))
  ];
  others = λ u k apart. elim (cases_eq u t) [
    | inl same ↦ (
      (λ has. subst (λ (v : ℕ). Contains (list_of lists v) k) (sym same) (Contains-tail m (list_of lists t) k (λ e. apart (sym e)) (subst (λ (list : List ℕ). Contains list k) (now u same) has))),
      (λ has. subst (λ (list : List ℕ). Contains list k) (sym (now u same)) (contains_later m (list_of lists t) k (subst (λ (v : ℕ). Contains (list_of lists v) k) same has))),
    )
    | inr differs ↦ (
      (λ has. subst (λ (list : List ℕ). Contains list k) (other u differs) has),
      (λ has. subst (λ (list : List ℕ). Contains list k) (sym (other u differs)) has),
    )
  ];
  once = λ u. elim (cases_eq u t) [
    | inl same ↦ subst (IsDistinct nat_eq) (sym (now u same)) (distinct_cons m (list_of lists t) (unowned t) (once t))
    | inr differs ↦ subst (IsDistinct nat_eq) (sym (other u differs)) (once u)
  ];
}
  where
    now : (u : ℕ) → u ≡ t → list_of (added lists t m) u ≡ m ∷ list_of lists t
    now u same = at_t lists t m known (m ∷ list_of lists t) u same

    other : (u : ℕ) → u ≢ t → list_of (added lists t m) u ≡ list_of lists u
    other u differs = elsewhere lists t m known (m ∷ list_of lists t) u differs

-- a mutex leaves its list, and then comes to another
pub passed_on : (old mid new : List (List ℕ)) (m : ℕ) (to : Option ℕ) → IsPassed old mid m None → IsPassed mid new m to → IsPassed old new m to
passed_on old mid new m to left joined = record {
  itself = joined.itself;
  others = λ t k differs. (
    (λ has. (left.others t k differs).0 ((joined.others t k differs).0 has)),
    (λ has. (joined.others t k differs).1 ((left.others t k differs).1 has)),
  );
  once = joined.once;
}

-- ---- objects

-- what has no owner stands in no list
pub free_unowned : (objects : List Object) (lists : List (List ℕ)) (m : ℕ) → OwnersAgree objects lists → mutex_owner (object_at objects m) ≡ None → IsUnowned lists m
free_unowned objects lists m agree free t has = none-some t (sym free ∙ (agree_owner objects lists m agree t).0 has)

-- past the last object nothing is owned
pub next_unowned : (objects : List Object) (lists : List (List ℕ)) → OwnersAgree objects lists → IsUnowned lists (length objects)
next_unowned objects lists agree =
    free_unowned objects lists (length objects) agree (ap mutex_owner (get_or_past objects (length objects) (Thread false) (omega arith)))

-- an object that was read changes, but not its owner; each list stays, and there is still room
pub owner_kept : (objects : List Object) (lists : List (List ℕ)) (m place room : ℕ) (read new : Object) → place ≡ m → m < length objects → read ≡ get_or objects place read → mutex_owner new ≡ mutex_owner read → OwnersAgree objects lists × (length objects ≤ room) → OwnersAgree (set objects place new) lists × (length (set objects place new) ≤ room)
owner_kept objects lists m place room read new placed known is same whole =
    let here : read ≡ get_or objects m read = rw placed at is in
    let was : mutex_owner (object_at objects m) ≡ mutex_owner new = sym (same ∙ ap mutex_owner (get_or_read objects m read known here (Thread false))) in
    let passed : IsPassed lists lists m (mutex_owner new) = same_passed lists m (mutex_owner new) (λ t. subst (λ (o : Option ℕ). Contains (list_of lists t) m ↔ (o ≡ Some t)) was (agree_owner objects lists m whole.0 t)) whole.0.once in
    (rw placed (agree_put objects lists lists m new known whole.0 passed), rw (length-set objects place new) whole.1)

pub owner-with_set : (b : Bool) (o : Object) → mutex_owner (with_set b o) ≡ mutex_owner o
owner-with_set b (Event manual set) = refl
owner-with_set b (Semaphore count maximum) = refl
owner-with_set b (Mutex owner depth abandoned) = refl
owner-with_set b (Timer manual set armed) = refl
owner-with_set b (Thread ended) = refl
owner-with_set b Gone = refl

owner-released : (n : ℤ) (o : Object) → mutex_owner (released n o) ≡ mutex_owner o
owner-released n (Event manual set) = refl
owner-released n (Semaphore count maximum) = refl
owner-released n (Mutex owner depth abandoned) = refl
owner-released n (Timer manual set armed) = refl
owner-released n (Thread ended) = refl
owner-released n Gone = refl

-- a release, or its refusal, of a semaphore
pub owner-release : (result : Result ℤ Refusal) (n : ℤ) (old new : Object) → OnOk result (new ≡ released n old) → OnErr result (new ≡ old) → mutex_owner new ≡ mutex_owner old
owner-release (Ok before) n old new ok err = ap mutex_owner ok ∙ owner-released n old
owner-release (Err refusal) n old new ok err = ap mutex_owner err

-- a free mutex that is taken is the thread's
pub owner-taken_free : (o : Object) (t : ℕ) → is_mutex o ≡ true → mutex_owner o ≡ None → mutex_owner (taken o t) ≡ Some t
owner-taken_free (Event manual set) t is free = absurd (false≢true is)
owner-taken_free (Semaphore count maximum) t is free = absurd (false≢true is)
owner-taken_free (Mutex None depth abandoned) t is free = refl
owner-taken_free (Mutex (Some owner) depth abandoned) t is free = absurd (none-some owner (sym free))
owner-taken_free (Timer manual set armed) t is free = absurd (false≢true is)
owner-taken_free (Thread ended) t is free = absurd (false≢true is)
owner-taken_free Gone t is free = absurd (false≢true is)

-- all others stay with their owner
pub owner-taken : (o : Object) (t : ℕ) → (is_mutex o ≡ true → mutex_owner o ≡ None → ⊥) → mutex_owner (taken o t) ≡ mutex_owner o
owner-taken (Event manual set) t other = refl
owner-taken (Semaphore count maximum) t other = refl
owner-taken (Mutex None depth abandoned) t other = absurd (other refl refl)
owner-taken (Mutex (Some owner) depth abandoned) t other = refl
owner-taken (Timer manual set armed) t other = refl
owner-taken (Thread ended) t other = refl
owner-taken Gone t other = refl

-- ---- nothing there yet, and nothing owned

none_list : (n t : ℕ) → list_of (replicate n []) t ≡ []
none_list zero t = refl
none_list (suc n) zero = refl
none_list (suc n) (suc t) = none_list n t

all_run : (n m : ℕ) → object_at (replicate n (Thread false)) m ≡ Thread false
all_run zero m = refl
all_run (suc n) zero = refl
all_run (suc n) (suc m) = all_run n m

-- threads that run and own nothing
pub none_agree : (n k : ℕ) (objects : List Object) (lists : List (List ℕ)) → objects ≡ replicate n (Thread false) → lists ≡ replicate k [] → OwnersAgree objects lists
none_agree n k objects lists running empty = rw (running, empty) (record {
  named = λ t m. (
    (λ has. absurd (contains_none m (subst (λ (list : List ℕ). Contains list m) (none_list k t) has))),
    (λ owns. absurd (false≢true (sym (ap (λ (o : Object). owned_by o t) (all_run n m)) ∙ owns))),
  );
  once = λ t. subst (IsDistinct nat_eq) (sym (none_list k t)) distinct_none;
})

-- a thread that owns nothing loses nothing
pub none_popped : (objects : List Object) (lists : List (List ℕ)) (t : ℕ) → slice_get (list_of lists t) 0 ≡ None → OwnersAgree objects lists → OwnersAgree objects (set lists t (after_first (list_of lists t)))
none_popped objects lists t none agree = rw (nothing (list_of lists t) none, set-get_or lists t []) agree
  where
    nothing : (list : List ℕ) → slice_get list 0 ≡ None → after_first list ≡ list
    nothing [] e = refl
    nothing (m ∷ list) e = absurd (none-some m (sym e))
