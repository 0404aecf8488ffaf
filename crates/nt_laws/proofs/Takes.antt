-- What grants and replies tell is what was taken.
use Rattle.std.proofs.Common.{◌≡◌, ◌≢◌, ℕ, zero, suc, ◌+◌, ◌-◌, ◌≤◌, ◌<◌, Bool, true, false, cond, not, ◌&&◌, ◌==◌, List, [], ◌∷◌, ◌++◌, length, get_or, append_assoc, refl, sym, ap, ◌∙◌, subst, arith, Option, Some, None, inl, inr, Contains}
use Rattle.std.specs.Prelude.{map, nat_le, nat_eq, slice_index}
use Rattle.std.specs.List.{list_any, list_all, IsDistinct}
use Rattle.std.specs.FinMap.{get}
use Rattle.std.proofs.lemmas.Bool.{cases_eq, eqb-true}
use Rattle.std.proofs.lemmas.Bool.Decides.{nat_tests}
use Rattle.nt_status.proofs.Lists.{contains_first, contains_later}
use Rattle.nt_status.specs.Status.{io_completion_code}
use Rattle.nt_waits.specs.declared.wait.Wait.{Wait}
use Rattle.nt_objects.specs.declared.object.Object.{Object}
use Rattle.nt_objects.specs.Object.{signaled, taken}
use Rattle.nt_calls.specs.declared.call.Grant.{Grant}
use Rattle.nt_calls.specs.State.{State, Pending, object_at}
use Rattle.nt_calls.specs.Serving.{is_ready, is_sleep, fits, least, status, status_at, is_abandoned_at, take_at, take_each, objects_taken, wait_granted, Grants, ending, IsLate, late_status, sleeps}
use Rattle.nt_laws.specs.Takes.{Take, only_at, handles_told, takes_of, grant_took, grants_took, takers}
use Rattle.nt_machine.proofs.Listing.{same_yes, same_no}
use Rattle.nt_calls.proofs.Tries.{object_taken_other, ready_other, differ}
use Rattle.nt_machine.proofs.Keeping.{list_all_at, list_any_at}
use Rattle.nt_machine.proofs.Walks.{get_removed}

-- ---- one object, taken by one thread after another

-- these threads took the object in turn; it was signaled for each
abbrev pub TakenBy : Object → List ℕ → Object → Type 0
TakenBy o [] new = new ≡ o
TakenBy o (t ∷ ts) new = (signaled o t ≡ true) × TakenBy (taken o t) ts new

pub TakenBy-append : (a b c : Object) (ts us : List ℕ) → TakenBy a ts b → TakenBy b us c → TakenBy a (ts ++ us) c
TakenBy-append a b c [] us is more = subst (λ o. TakenBy o us c) is more
TakenBy-append a b c (t ∷ ts) us is more = (is.0, TakenBy-append (taken a t) b c ts us is.1 more)

pub takers-append : (h : ℕ) (ks js : List Take) → takers h (ks ++ js) ≡ takers h ks ++ takers h js
takers-append h [] js = refl
takers-append h (k ∷ ks) js = go (takers-append h ks js) (k.handle == h)
  where
    go : takers h (ks ++ js) ≡ takers h ks ++ takers h js → (b : Bool) → cond b (k.thread ∷ takers h (ks ++ js)) (takers h (ks ++ js)) ≡ cond b (k.thread ∷ takers h ks) (takers h ks) ++ takers h js
    go rest true = ap (λ ts. k.thread ∷ ts) rest
    go rest false = rest

object_taken_same : (os : List Object) (t h : ℕ) → object_at (take_at os t h) h ≡ taken (object_at os h) t
object_taken_same [] t h = refl
object_taken_same (o ∷ os) t zero = refl
object_taken_same (o ∷ os) t (suc h) = object_taken_same os t h

-- ---- the handles of one wait

-- distinct handles of signaled objects, taken one after another
each_taken : (t h : ℕ) (hs : List ℕ) (os : List Object) → ((i j : ℕ) → i < j → j < length hs → get_or hs i 0 ≢ get_or hs j 0) → ((j : ℕ) → j < length hs → is_ready os t (get_or hs j 0) ≡ true) → TakenBy (object_at os h) (takers h (takes_of t hs)) (object_at (take_each os t hs) h)
each_taken t h [] os apart ready = refl
each_taken t h (k ∷ hs) os apart ready =
    let other : (j : ℕ) → j < length hs → get_or hs j 0 ≢ k = λ j below e. apart 0 (suc j) (omega arith) (omega (arith, below)) (sym e) in
    let rest = each_taken t h hs (take_at os t k)
    (λ i j before below. apart (suc i) (suc j) (omega (arith, before)) (omega (arith, below)))
    (λ j below. ready_other os t k (get_or hs j 0) (other j below) ∙ ready (suc j) (omega (arith, below))) in
    first rest (ready 0 (omega arith))
  where
    first : TakenBy (object_at (take_at os t k) h) (takers h (takes_of t hs)) (object_at (take_each (take_at os t k) t hs) h) → is_ready os t k ≡ true → TakenBy (object_at os h) (takers h (takes_of t (k ∷ hs))) (object_at (take_each (take_at os t k) t hs) h)
    first rest now = elim (cases_eq k h) [
      | inl same ↦ rw (same_yes k h same) (
        subst (λ x. is_ready os t x ≡ true) same now,
        subst (λ o. TakenBy o (takers h (takes_of t hs)) (object_at (take_each (take_at os t k) t hs) h)) (ap (λ x. object_at (take_at os t x) h) same ∙ object_taken_same os t h) rest,
      )
      | inr differs ↦ rw (same_no k h differs) (
          subst (λ o. TakenBy o (takers h (takes_of t hs)) (object_at (take_each (take_at os t k) t hs) h)) (object_taken_other os t k h (λ e. differs (sym e))) rest)
    ]

only_at_index : (hs : List ℕ) (i : ℕ) → i < length hs → only_at hs i ≡ get_or hs i 0 ∷ []
only_at_index [] i below = absurd (omega (arith, below))
only_at_index (h ∷ hs) zero below = refl
only_at_index (h ∷ hs) (suc i) below = only_at_index hs i (omega (arith, below))

told_all : (w : Wait) (marked : Bool) → w.all ≡ true → handles_told w (status_at marked 0) ≡ w.objects
told_all w true all = rw all refl
told_all w false all = rw all refl

told_any : (w : Wait) (marked : Bool) (i : ℕ) → w.all ≡ false → i < length w.objects → length w.objects ≤ 64 → handles_told w (status_at marked i) ≡ get_or w.objects i 0 ∷ []
told_any w true i all below few =
    let a : ((128 + i) == 192) ≡ false = same_no (128 + i) 192 (omega arith) in
    let b : ((128 + i) == 258) ≡ false = same_no (128 + i) 258 (omega arith) in
    let c : nat_le 128 (128 + i) ≡ true = grind (arith, nat_tests) in
    let d : (128 + i) - 128 ≡ i = omega arith in
    rw (a, b, all, c, d) (only_at_index w.objects i below)
told_any w false i all below few =
    let a : (i == 192) ≡ false = same_no i 192 (omega arith) in
    let b : (i == 258) ≡ false = same_no i 258 (omega arith) in
    let c : nat_le 128 i ≡ false = grind (arith, nat_tests, below, few) in
    rw (a, b, all, c) (only_at_index w.objects i below)

-- a wait of few distinct handles
abbrev pub IsFair : Wait → Type 0
IsFair w = (length w.objects ≤ 64) × IsDistinct nat_eq w.objects

abbrev pub AreFair : Pending → Type 0
AreFair waits = (t : ℕ) (w : Wait) → get waits t ≡ Some w → IsFair w

-- what a fitting wait takes is what its status tells
pub wait_taken : (os : List Object) (t : ℕ) (w : Wait) (h : ℕ) → IsFair w → fits os t w ≡ true → TakenBy (object_at os h) (takers h (takes_of t (handles_told w (status os t w)))) (object_at (objects_taken os t w) h)
wait_taken os t w h fair fit = go w.all refl fit
  where
    whole : (b : Bool) → (not b && list_all (is_ready os t) w.objects) ≡ true → list_all (is_ready os t) w.objects ≡ true
    whole true e = let h : false ≡ true = e in (cc)
    whole false e = e

    at_these : (hs : List ℕ) → handles_told w (status os t w) ≡ hs → objects_taken os t w ≡ take_each os t hs → ((i j : ℕ) → i < j → j < length hs → get_or hs i 0 ≢ get_or hs j 0) → ((j : ℕ) → j < length hs → is_ready os t (get_or hs j 0) ≡ true) → TakenBy (object_at os h) (takers h (takes_of t (handles_told w (status os t w)))) (object_at (objects_taken os t w) h)
    at_these hs told took apart ready =
        subst (λ ks. TakenBy (object_at os h) (takers h (takes_of t ks)) (object_at (objects_taken os t w) h)) (sym told)
        (subst (λ (xs : List Object). TakenBy (object_at os h) (takers h (takes_of t hs)) (object_at xs h)) (sym took) (each_taken t h hs os apart ready))

    alone : (i k : ℕ) → is_ready os t k ≡ true → (j : ℕ) → j < 1 → is_ready os t (get_or (k ∷ []) j 0) ≡ true
    alone i k ready zero below = ready
    alone i k ready (suc j) below = absurd (omega (arith, below))

    go : (b : Bool) → w.all ≡ b → cond b (not (is_sleep w) && list_all (is_ready os t) w.objects) (list_any (is_ready os t) w.objects) ≡ true → TakenBy (object_at os h) (takers h (takes_of t (handles_told w (status os t w)))) (object_at (objects_taken os t w) h)
    go true all fit' =
        at_these w.objects
        (ap (λ c. handles_told w c) (status_all all) ∙ told_all w (list_any (is_abandoned_at os) w.objects) all)
        (rw all refl)
        (λ i j before below. differ w.objects i j fair.1 before below)
        (list_all_at (is_ready os t) w.objects (whole (is_sleep w) fit'))
      where
        status_all : w.all ≡ true → status os t w ≡ status_at (list_any (is_abandoned_at os) w.objects) 0
        status_all all = rw all refl
    go false any fit' =
        let least_one = list_any_at (is_ready os t) w.objects fit' in
        at_these (slice_index w.objects (least os t w) ∷ [])
        (ap (λ c. handles_told w c) (status_any any) ∙ told_any w (is_abandoned_at os (slice_index w.objects (least os t w))) (least os t w) any least_one.0 fair.0)
        (rw any refl)
        (λ i j before below. absurd (omega (arith, before, below)))
        (alone 0 (slice_index w.objects (least os t w)) least_one.1)
      where
        status_any : w.all ≡ false → status os t w ≡ status_at (is_abandoned_at os (slice_index w.objects (least os t w))) (least os t w)
        status_any any = rw any refl

-- ---- grants

-- whatever pends by the one map pends so by the other
abbrev pub IsWithin : Pending → Pending → Type 0
IsWithin few many = (t : ℕ) (w : Wait) → get few t ≡ Some w → get many t ≡ Some w

pub grants_within : (threads : List ℕ) (s new : State) (gs : List Grant) (waits : Pending) → Grants threads s gs new → IsWithin s.waits waits → IsWithin new.waits waits
grants_within threads s new [] waits is within = subst (λ (x : State). IsWithin x.waits waits) (sym is) within
grants_within threads s new (g ∷ gs) waits has within =
    grants_within threads (wait_granted s g.thread has.1) new gs waits has.3 (λ t v e. within t v (get_removed s.waits g.thread t v e).1)

pub grants_taken : (threads : List ℕ) (s new : State) (gs : List Grant) (waits : Pending) (h : ℕ) → Grants threads s gs new → IsWithin s.waits waits → AreFair waits → TakenBy (object_at s.objects h) (takers h (grants_took waits gs)) (object_at new.objects h)
grants_taken threads s new [] waits h is within fair = ap (λ (x : State). object_at x.objects h) is
grants_taken threads s new (g ∷ gs) waits h has within fair =
    let pends = within g.thread has.1 has.2.pends in
    let rest = grants_taken threads (wait_granted s g.thread has.1) new gs waits h has.3 (λ t v e. within t v (get_removed s.waits g.thread t v e).1) fair in
    let first = wait_taken s.objects g.thread has.1 h (fair g.thread has.1 pends) has.2.fits in
    let told : grant_took (get waits g.thread) g ≡ takes_of g.thread (handles_told has.1 (status s.objects g.thread has.1)) =
    ap (λ o. grant_took o g) pends ∙ ap (λ c. takes_of g.thread (handles_told has.1 c)) has.2.status in
    subst (λ ts. TakenBy (object_at s.objects h) ts (object_at new.objects h))
    (sym (takers-append h (grant_took (get waits g.thread) g) (grants_took waits gs) ∙ ap (λ ks. takers h ks ++ takers h (grants_took waits gs)) told))
    (TakenBy-append (object_at s.objects h) (object_at (objects_taken s.objects g.thread has.1) h) (object_at new.objects h) (takers h (takes_of g.thread (handles_told has.1 (status s.objects g.thread has.1)))) (takers h (grants_took waits gs)) first rest)

pub grants_took-append : (waits : Pending) (gs hs : List Grant) → grants_took waits (gs ++ hs) ≡ grants_took waits gs ++ grants_took waits hs
grants_took-append waits [] hs = refl
grants_took-append waits (g ∷ gs) hs =
    ap (λ ks. grant_took (get waits g.thread) g ++ ks) (grants_took-append waits gs hs) ∙ sym (append_assoc (grant_took (get waits g.thread) g) (grants_took waits gs) (grants_took waits hs))

-- ---- what ends otherwise takes nothing

pub alerted_told : (waits : Pending) (ts : List ℕ) → grants_took waits (map (ending io_completion_code) ts) ≡ []
alerted_told waits [] = refl
alerted_told waits (t ∷ ts) = ap (λ ks. ks ++ grants_took waits (map (ending io_completion_code) ts)) (none (get waits t)) ∙ alerted_told waits ts
  where
    none : (o : Option Wait) → grant_took o (ending io_completion_code t) ≡ []
    none None = refl
    none (Some w) = refl

no_length : (hs : List ℕ) → (length hs == 0) ≡ true → hs ≡ []
no_length [] e = refl
no_length (h ∷ hs) e = let is : length (h ∷ hs) ≡ 0 = eqb-true (length (h ∷ hs)) 0 e in absurd (omega (arith, is))

pub late_told : (w : Wait) → handles_told w (late_status (is_sleep w)) ≡ []
late_told w = go (is_sleep w) refl
  where
    none : (all : Bool) (hs : List ℕ) → hs ≡ [] → cond all hs (only_at hs 0) ≡ []
    none true hs e = e
    none false hs e = ap (λ ks. only_at ks 0) e

    go : (b : Bool) → is_sleep w ≡ b → handles_told w (late_status b) ≡ []
    go true e = none w.all w.objects (no_length w.objects e)
    go false e = refl

pub timed_told : (old : State) (u : ℕ) (waits : Pending) (ts : List ℕ) → IsWithin old.waits waits → ((t : ℕ) → Contains ts t → IsLate old u t) → grants_took waits (map (λ t. ending (late_status (sleeps (get old.waits t))) t) ts) ≡ []
timed_told old u waits [] within late = refl
timed_told old u waits (t ∷ ts) within late =
    let own = late t (contains_first t ts t refl) in
    let here : grant_took (get waits t) (ending (late_status (sleeps (get old.waits t))) t) ≡ takes_of t (handles_told own.0 (late_status (is_sleep own.0))) =
    ap (λ o. grant_took o (ending (late_status (sleeps (get old.waits t))) t)) (within t own.0 own.1) ∙ ap (λ o. grant_took (Some own.0) (ending (late_status (sleeps o)) t)) own.1 in
    let rest = timed_told old u waits ts within (λ x m. late x (contains_later t ts x m)) in
    ap (λ ks. ks ++ grants_took waits (map (λ t. ending (late_status (sleeps (get old.waits t))) t) ts)) (here ∙ ap (λ ks. takes_of t ks) (late_told own.0)) ∙ rest
