-- A mutex passes from one owner's list to another's, and the lists agree with the objects still.
use Rattle.std.proofs.Common.{◌≡◌, ◌≢◌, ◌<◌, ◌⊎◌, ℕ, set, true, false, List, [], ◌∷◌, ◌++◌, length, zero, suc, refl, sym, ap, ◌∙◌, subst, inl, inr, Option, Some, None, Contains, nat_eq}
use Rattle.std.specs.Prelude.{◌↔◌, IsTrue, IfSome, slice_get}
use Rattle.std.proofs.lemmas.Bool.{cases_eq, cases_lt, false≢true}
use Rattle.std.proofs.lemmas.Option.{same_Some, none-some}
use Rattle.std.proofs.lemmas.List.{get_or-set_same, get_or-set_other, get_or_past}
use Rattle.std.specs.List.{IsDistinct}
use Rattle.nt_objects.specs.declared.object.Object.{Object}
use Rattle.nt_objects.specs.declared.object.Object.TheVariants.{Event, Semaphore, Mutex, Timer, Thread, Gone}
use Rattle.nt_objects.specs.Object.{mutex_owner, owned_by, abandoned_by}
use Rattle.nt_status.proofs.Lists.{contains_front}
use Rattle.nt_tables.specs.Owned.{list_of, after_first, removed}
use Rattle.nt_tables.specs.Objects.{object_at, OwnersAgree, IsPassed}
use Rattle.nt_tables.proofs.SoundLemmas.{without_head}
use Rattle.nt_tables.proofs.ListLemmas.{same_test, other_test, listed_known, removed_member, member_removed, removed_once}

-- ---- lists

pub removed_passed : (lists : List (List ℕ)) (t m : ℕ) → ((u : ℕ) → Contains (list_of lists u) m ↔ (Some t ≡ Some u)) → ((u : ℕ) → IsDistinct nat_eq (list_of lists u)) → IsPassed lists (removed lists t m) m None
removed_passed lists t m itself once =
    let known : t < length lists = listed_known lists t m ((itself t).1 refl) in
    record {
      itself = λ u. ((λ has. let was = removed_member lists t m known u m (once t) has in absurd (was.1 (same_Some u t (sym ((itself u).0 was.0))) refl)), λ e. absurd (none-some u e));
      others = λ u k differs. ((λ has. (removed_member lists t m known u k (once t) has).0), λ has. member_removed lists t m known u k differs has);
      once = λ u. removed_once lists t m known u (once t) (once u);
    }

-- ---- objects

pub owned_owner : (o : Object) (t : ℕ) → IsTrue (owned_by o t) ↔ (mutex_owner o ≡ Some t)
owned_owner (Event manual set) t = ((λ is. absurd (false≢true is)), λ e. absurd (none-some t e))
owned_owner (Semaphore count maximum) t = ((λ is. absurd (false≢true is)), λ e. absurd (none-some t e))
owned_owner (Mutex None depth abandoned) t = ((λ is. absurd (false≢true is)), λ e. absurd (none-some t e))
owned_owner (Mutex (Some owner) depth abandoned) t = elim (cases_eq owner t) [
  | inl same ↦ ((λ is. ap Some same), λ e. rw (same_test owner t same) refl)
  | inr differs ↦ ((λ is. absurd (false≢true (rw (other_test owner t differs) at is))), λ e. absurd (differs (same_Some owner t e)))
]
owned_owner (Timer manual set armed) t = ((λ is. absurd (false≢true is)), λ e. absurd (none-some t e))
owned_owner (Thread ended) t = ((λ is. absurd (false≢true is)), λ e. absurd (none-some t e))
owned_owner Gone t = ((λ is. absurd (false≢true is)), λ e. absurd (none-some t e))

-- the mutex at a number stands in the list of its owner alone
pub agree_owner : (objects : List Object) (lists : List (List ℕ)) (m : ℕ) → OwnersAgree objects lists → (t : ℕ) → Contains (list_of lists t) m ↔ (mutex_owner (object_at objects m) ≡ Some t)
agree_owner objects lists m agree t =
    ((λ has. (owned_owner (object_at objects m) t).0 ((agree.named t m).0 has)), λ e. (agree.named t m).1 ((owned_owner (object_at objects m) t).1 e))

pub agree_passed : (old new : List Object) (lists lists' : List (List ℕ)) (m : ℕ) (to : Option ℕ) → OwnersAgree old lists → IsPassed lists lists' m to → mutex_owner (object_at new m) ≡ to → ((k : ℕ) → k ≢ m → object_at new k ≡ object_at old k) → OwnersAgree new lists'
agree_passed old new lists lists' m to agree passed here others = record {
  named = λ t k. elim (cases_eq k m) [
    | inl same ↦ subst (λ (n : ℕ). Contains (list_of lists' t) n ↔ IsTrue (owned_by (object_at new n) t)) (sym same)
        ((λ has. (owned_owner (object_at new m) t).1 (here ∙ (passed.itself t).0 has)), λ is. (passed.itself t).1 (sym here ∙ (owned_owner (object_at new m) t).0 is))
    | inr differs ↦ (
      (λ has. subst (λ (o : Object). IsTrue (owned_by o t)) (sym (others k differs)) ((agree.named t k).0 ((passed.others t k differs).0 has))),
      λ is. (passed.others t k differs).1 ((agree.named t k).1 (subst (λ (o : Object). IsTrue (owned_by o t)) (others k differs) is)),
    )
  ];
  once = passed.once;
}

pub agree_put : (objects : List Object) (lists lists' : List (List ℕ)) (m : ℕ) (o : Object) → m < length objects → OwnersAgree objects lists → IsPassed lists lists' m (mutex_owner o) → OwnersAgree (set objects m o) lists'
agree_put objects lists lists' m o known agree passed =
    agree_passed objects (set objects m o) lists lists' m (mutex_owner o) agree passed (ap mutex_owner (get_or-set_same objects m o (Thread false) known)) (λ k differs. get_or-set_other objects m k o (Thread false) differs)

-- whoever is to own the object has a list
pub owner_known : (o : Object) (n : ℕ) → ((t : ℕ) → owned_by o t ≡ true → t < n) → (t : ℕ) → mutex_owner o ≡ Some t → t < n
owner_known (Mutex (Some owner) depth abandoned) n below t e = below t (same_test owner t (same_Some owner t e))
owner_known (Event manual set) n below t e = absurd (none-some t e)
owner_known (Semaphore count maximum) n below t e = absurd (none-some t e)
owner_known (Mutex None depth abandoned) n below t e = absurd (none-some t e)
owner_known (Timer manual set armed) n below t e = absurd (none-some t e)
owner_known (Thread ended) n below t e = absurd (none-some t e)
owner_known Gone n below t e = absurd (none-some t e)

object_added : (objects : List Object) (o : Object) → object_at (objects ++ o ∷ []) (length objects) ≡ o
object_added [] o = refl
object_added (x ∷ objects) o = object_added objects o

object_before : (objects : List Object) (o : Object) (k : ℕ) → k ≢ length objects → object_at (objects ++ o ∷ []) k ≡ object_at objects k
object_before [] o zero differs = absurd (differs refl)
object_before [] o (suc k) differs = refl
object_before (x ∷ objects) o zero differs = refl
object_before (x ∷ objects) o (suc k) differs = object_before objects o k (λ e. differs (ap suc e))

pub agree_added : (objects : List Object) (lists lists' : List (List ℕ)) (o : Object) → OwnersAgree objects lists → IsPassed lists lists' (length objects) (mutex_owner o) → OwnersAgree (objects ++ o ∷ []) lists'
agree_added objects lists lists' o agree passed =
    agree_passed objects (objects ++ o ∷ []) lists lists' (length objects) (mutex_owner o) agree passed (ap mutex_owner (object_added objects o)) (λ k differs. object_before objects o k differs)

-- ---- the mutex that came last leaves its owner's list

pub first_owner : (objects : List Object) (lists : List (List ℕ)) (t m : ℕ) → OwnersAgree objects lists → slice_get (list_of lists t) 0 ≡ Some m → mutex_owner (object_at objects m) ≡ Some t
first_owner objects lists t m agree is = (agree_owner objects lists m agree t).0 (contains_front (list_of lists t) m is)

pub owned_below : (objects : List Object) (t m : ℕ) → mutex_owner (object_at objects m) ≡ Some t → m < length objects
owned_below objects t m owned = elim (cases_lt m (length objects)) [
  | inl below ↦ below
  | inr past ↦ absurd (none-some t (ap mutex_owner (sym (get_or_past objects m (Thread false) past)) ∙ owned))
]

pub popped_passed : (objects : List Object) (lists : List (List ℕ)) (t m : ℕ) → OwnersAgree objects lists → slice_get (list_of lists t) 0 ≡ Some m → IsPassed lists (set lists t (after_first (list_of lists t))) m None
popped_passed objects lists t m agree is =
    let owner : mutex_owner (object_at objects m) ≡ Some t = first_owner objects lists t m agree is in
    subst (λ (list : List ℕ). IsPassed lists (set lists t list) m None) (without_head (list_of lists t) m is)
    (removed_passed lists t m (λ u. ((λ has. sym owner ∙ (agree_owner objects lists m agree u).0 has), λ e. (agree_owner objects lists m agree u).1 (owner ∙ e))) agree.once)

-- an abandoned mutex has no owner
pub abandoned_free : (o : Object) (t : ℕ) → mutex_owner o ≡ Some t → mutex_owner (abandoned_by t o) ≡ None
abandoned_free (Mutex (Some owner) depth abandoned) t e = rw (same_test owner t (same_Some owner t e)) refl
abandoned_free (Event manual set) t e = absurd (none-some t e)
abandoned_free (Semaphore count maximum) t e = absurd (none-some t e)
abandoned_free (Mutex None depth abandoned) t e = absurd (none-some t e)
abandoned_free (Timer manual set armed) t e = absurd (none-some t e)
abandoned_free (Thread ended) t e = absurd (none-some t e)
abandoned_free Gone t e = absurd (none-some t e)

-- what abandoning told, of the object that was read
pub abandoned_is : (o read new : Object) (t : ℕ) → read ≡ o → mutex_owner o ≡ Some t → IfSome (mutex_owner read) (λ owner. new ≡ abandoned_by owner read) → new ≡ abandoned_by t o
abandoned_is o read new t same owner is =
    subst (λ (x : Option ℕ). IfSome x (λ u. new ≡ abandoned_by u o)) owner (subst (λ (r : Object). IfSome (mutex_owner r) (λ u. new ≡ abandoned_by u r)) same is)

pub agree_abandoned : (objects : List Object) (lists : List (List ℕ)) (t m : ℕ) → OwnersAgree objects lists → slice_get (list_of lists t) 0 ≡ Some m → OwnersAgree (set objects m (abandoned_by t (object_at objects m))) (set lists t (after_first (list_of lists t)))
agree_abandoned objects lists t m agree is =
    let owner : mutex_owner (object_at objects m) ≡ Some t = first_owner objects lists t m agree is in
    let after = set lists t (after_first (list_of lists t)) in
    agree_put objects lists after m (abandoned_by t (object_at objects m)) (owned_below objects t m owner) agree
    (subst (λ (to : Option ℕ). IsPassed lists after m to) (sym (abandoned_free (object_at objects m) t owner)) (popped_passed objects lists t m agree is))

-- whoever is to own the object in the place of another has a list
pub heir_known : (objects : List Object) (lists : List (List ℕ)) (m : ℕ) (o : Object) → OwnersAgree objects lists → ((t : ℕ) → owned_by o t ≡ true → (owned_by (object_at objects m) t ≡ true) ⊎ (t < length lists)) → (t : ℕ) → mutex_owner o ≡ Some t → t < length lists
heir_known objects lists m o agree heir t e = elim (heir t ((owned_owner o t).1 e)) [
  | inl had ↦ listed_known lists t m ((agree.named t m).1 had)
  | inr known ↦ known
]

-- ---- a mutex is free after its owner's last release

pub agree_freed : (objects : List Object) (lists : List (List ℕ)) (t m : ℕ) (freed : Object) → OwnersAgree objects lists → mutex_owner (object_at objects m) ≡ Some t → mutex_owner freed ≡ None → OwnersAgree (set objects m freed) (removed lists t m)
agree_freed objects lists t m freed agree owner free =
    let itself : (u : ℕ) → Contains (list_of lists u) m ↔ (Some t ≡ Some u) = λ u. ((λ has. sym owner ∙ (agree_owner objects lists m agree u).0 has), λ e. (agree_owner objects lists m agree u).1 (owner ∙ e)) in
    agree_put objects lists (removed lists t m) m freed (owned_below objects t m owner) agree
    (subst (λ (to : Option ℕ). IsPassed lists (removed lists t m) m to) (sym free) (removed_passed lists t m itself agree.once))
