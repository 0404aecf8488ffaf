-- Why a walk may stop: once the object that changed is signaled for nobody, no wait fits.
use Rattle.std.proofs.Common.{◌≡◌, ◌≢◌, ◌≤◌, ◌<◌, ◌+◌, ◌^◌, length, ℕ, zero, suc, Bool, true, false, cond, List, [], ◌∷◌, ◌++◌, length-append, refl, sym, ap, ◌∙◌, subst, arith, Option, Some, None, inl, inr}
use Rattle.std.specs.List.{find}
use Rattle.std.specs.Prelude.{slice_index, ◌==◌, slice_set}
use Rattle.std.specs.FinMap as map
use Rattle.std.proofs.lemmas.Bool.{cases_eq, false≢true}
use Rattle.std.proofs.lemmas.Bool.Decides.{nat_tests}
use Rattle.std.proofs.lemmas.List.{append-nil}
use Rattle.nt_waits.specs.declared.wait.Wait.{Wait}
use Rattle.nt_objects.specs.declared.object.Object.{Object}
use Rattle.nt_objects.specs.declared.object.Object.TheVariants.{Event, Semaphore, Mutex, Timer, Thread, Gone}
use Rattle.nt_objects.specs.Object.{signaled, taken, owned_by}
use Rattle.nt_objects.proofs.Taking.{unsignaled_taken}
use Rattle.nt_calls.specs.State.{State, object_at, with_object}
use Rattle.nt_machine.specs.Dispatcher.{Dispatcher, state}
use Rattle.nt_calls.specs.Serving.{is_ready, is_due, satisfied, least, take_at, take_each, objects_taken, wait_granted, IsServed, Serve, sequence}
use Rattle.nt_machine.specs.Visits.{IsVisited, Visits, FitOnlyIn, FitOnlyBy, closed}
use Rattle.nt_machine.proofs.Taking.{unready_taken, fits_kept}
use Rattle.nt_machine.proofs.Walks.{IsAt, Grants-before, all_served, get_same, get_other}

-- ---- the closed object stays closed when another thread takes what it takes

unsignaled_closed : (o : Object) (t u : ℕ) → signaled (closed o) u ≡ false → u ≢ t → signaled (closed (taken o t)) u ≡ false
unsignaled_closed (Event manual set) t u e other = refl
unsignaled_closed (Semaphore count maximum) t u e other = refl
unsignaled_closed (Mutex None depth abandoned) t u e other = grind (arith, nat_tests, other)
unsignaled_closed (Mutex (Some owner) depth abandoned) t u e other = e
unsignaled_closed (Timer manual set armed) t u e other = refl
unsignaled_closed (Thread ended) t u e other = refl
unsignaled_closed Gone t u e other = refl

closed_taken : (os : List Object) (t g h u k : ℕ) → u ≢ t → is_ready (with_object os h closed) u k ≡ false → is_ready (with_object (take_at os t g) h closed) u k ≡ false
closed_taken [] t g h u k other e = e
closed_taken (o ∷ os) t zero zero u zero other e = unsignaled_closed o t u e other
closed_taken (o ∷ os) t zero zero u (suc k) other e = e
closed_taken (o ∷ os) t zero (suc h) u zero other e = unsignaled_taken o t u e
closed_taken (o ∷ os) t zero (suc h) u (suc k) other e = e
closed_taken (o ∷ os) t (suc g) zero u zero other e = e
closed_taken (o ∷ os) t (suc g) zero u (suc k) other e = unready_taken os t g u k e
closed_taken (o ∷ os) t (suc g) (suc h) u zero other e = e
closed_taken (o ∷ os) t (suc g) (suc h) u (suc k) other e = closed_taken os t g h u k other e

closed_taken_each : (os : List Object) (t : ℕ) (hs : List ℕ) (h u k : ℕ) → u ≢ t → is_ready (with_object os h closed) u k ≡ false → is_ready (with_object (take_each os t hs) h closed) u k ≡ false
closed_taken_each os t [] h u k other e = e
closed_taken_each os t (g ∷ hs) h u k other e = closed_taken_each (take_at os t g) t hs h u k other (closed_taken os t g h u k other e)

closed_after : (os : List Object) (t : ℕ) (w : Wait) (h u k : ℕ) → u ≢ t → is_ready (with_object os h closed) u k ≡ false → is_ready (with_object (objects_taken os t w) h closed) u k ≡ false
closed_after os t w h u k other e = go w.all
  where
    go : (all : Bool) → is_ready (with_object (cond all (take_each os t w.objects) (take_at os t (slice_index w.objects (least os t w)))) h closed) u k ≡ false
    go true = closed_taken_each os t w.objects h u k other e
    go false = closed_taken os t (slice_index w.objects (least os t w)) h u k other e

by_granted : (h : ℕ) (s : State) (t : ℕ) (w : Wait) → FitOnlyBy h s → FitOnlyBy h (wait_granted s t w)
by_granted h s t w by u = elim (cases_eq u t) [
  | inl same ↦ rw (ap (λ v. map.get (map.remove s.waits t) v) same ∙ get_same s.waits t) refl
  | inr other ↦ rw (get_other s.waits t u other) (go other (map.get s.waits u) (by u))
]
  where
    go : u ≢ t → (o : Option Wait) → satisfied (with_object s.objects h closed) u o ≡ false → satisfied (with_object (objects_taken s.objects t w) h closed) u o ≡ false
    go other None e = refl
    go other (Some v) e = fits_kept (with_object s.objects h closed) (with_object (objects_taken s.objects t w) h closed) u v (λ k. closed_after s.objects t w h u k other) e

pub by_visited : (h : ℕ) (old new : Dispatcher) (t : ℕ) → IsVisited old new t → FitOnlyBy h (state old) → FitOnlyBy h (state new)
by_visited h old new t (inl g) by = subst (λ (s : State). FitOnlyBy h s) (sym g.becomes) (by_granted h (state old) t g.wait by)
by_visited h old new t (inr p) by = subst (λ (s : State). FitOnlyBy h s) (sym p.stays) by

-- ---- before any visit

signaled_owner : (o : Object) (t : ℕ) → owned_by o t ≡ true → signaled o t ≡ true
signaled_owner (Event manual set) t owns = absurd (false≢true owns)
signaled_owner (Semaphore count maximum) t owns = absurd (false≢true owns)
signaled_owner (Mutex None depth abandoned) t owns = refl
signaled_owner (Mutex (Some owner) depth abandoned) t owns = owns
signaled_owner (Timer manual set armed) t owns = absurd (false≢true owns)
signaled_owner (Thread ended) t owns = absurd (false≢true owns)
signaled_owner Gone t owns = absurd (false≢true owns)

unsignaled_replaced : (was o : Object) (u : ℕ) → (owned_by o u ≡ true → owned_by was u ≡ true) → signaled was u ≡ false → signaled (closed o) u ≡ false
unsignaled_replaced was (Event manual set) u owner e = refl
unsignaled_replaced was (Semaphore count maximum) u owner e = refl
unsignaled_replaced was (Mutex None depth abandoned) u owner e = refl
unsignaled_replaced was (Mutex (Some holder) depth abandoned) u owner e = go (holder == u) refl
  where
    go : (b : Bool) → (holder == u) ≡ b → (holder == u) ≡ false
    go true is = absurd (false≢true (sym e ∙ signaled_owner was u (owner is)))
    go false is = is
unsignaled_replaced was (Timer manual set armed) u owner e = refl
unsignaled_replaced was (Thread ended) u owner e = refl
unsignaled_replaced was Gone u owner e = refl

closed_replaced : (os : List Object) (h : ℕ) (o : Object) (u k : ℕ) → (owned_by o u ≡ true → owned_by (object_at os h) u ≡ true) → is_ready os u k ≡ false → is_ready (with_object (slice_set os h o) h closed) u k ≡ false
closed_replaced [] h o u k owner e = e
closed_replaced (was ∷ os) zero o u zero owner e = unsignaled_replaced was o u owner e
closed_replaced (was ∷ os) zero o u (suc k) owner e = e
closed_replaced (was ∷ os) (suc h) o u zero owner e = e
closed_replaced (was ∷ os) (suc h) o u (suc k) owner e = closed_replaced os h o u k owner e

-- where no wait fitted, one that fits after one object was exchanged needs that object
pub by_replaced : (s : State) (h : ℕ) (o : Object) → IsServed s → ((u : ℕ) → owned_by o u ≡ true → owned_by (object_at s.objects h) u ≡ true) → FitOnlyBy h (record s { objects = slice_set s.objects h o })
by_replaced s h o served owner u = go (map.get s.waits u) (served u)
  where
    go : (p : Option Wait) → satisfied s.objects u p ≡ false → satisfied (with_object (slice_set s.objects h o) h closed) u p ≡ false
    go None e = refl
    go (Some w) e = fits_kept s.objects (with_object (slice_set s.objects h o) h closed) u w (λ k. closed_replaced s.objects h o u k (owner u)) e

-- ---- the end of the walk

unsignaled_open : (o : Object) (u t : ℕ) → signaled o u ≡ false → signaled (closed o) t ≡ false → signaled o t ≡ false
unsignaled_open (Event manual set) u t e closed_is = e
unsignaled_open (Semaphore count maximum) u t e closed_is = e
unsignaled_open (Mutex None depth abandoned) u t e closed_is = absurd (false≢true (sym e))
unsignaled_open (Mutex (Some owner) depth abandoned) u t e closed_is = closed_is
unsignaled_open (Timer manual set armed) u t e closed_is = e
unsignaled_open (Thread ended) u t e closed_is = e
unsignaled_open Gone u t e closed_is = refl

unready_open : (os : List Object) (h u t k : ℕ) → is_ready os u h ≡ false → is_ready (with_object os h closed) t k ≡ false → is_ready os t k ≡ false
unready_open [] h u t k e closed_is = closed_is
unready_open (o ∷ os) zero u t zero e closed_is = unsignaled_open o u t e closed_is
unready_open (o ∷ os) zero u t (suc k) e closed_is = closed_is
unready_open (o ∷ os) (suc h) u t zero e closed_is = closed_is
unready_open (o ∷ os) (suc h) u t (suc k) e closed_is = unready_open os h u t k e closed_is

-- where the object is not signaled for one thread, it is for none but its owner, and no wait fits
pub by_none : (h : ℕ) (s : State) (u : ℕ) → FitOnlyBy h s → is_ready s.objects u h ≡ false → IsServed s
by_none h s u by unready t = go (map.get s.waits t) (by t)
  where
    go : (p : Option Wait) → satisfied (with_object s.objects h closed) t p ≡ false → satisfied s.objects t p ≡ false
    go None e = refl
    go (Some w) e = fits_kept (with_object s.objects h closed) s.objects t w (λ k. unready_open s.objects h u t k unready) e

none_found : {X : Type 0} (p : X → Bool) (xs : List X) → ((x : X) → p x ≡ false) → find p xs ≡ None
none_found p [] none = refl
none_found p (x ∷ xs) none = rw (none x) (none_found p xs none)

-- the threads after those that were visited need no visit where no wait fits
Visits-before : (xs ys : List ℕ) (old new : Dispatcher) → Visits xs old new → IsServed (state new) → Visits (xs ++ ys) old new
Visits-before xs ys old new a served = record {
  ended = a.ended;
  grants = a.grants;
  granted = Grants-before xs ys (state old) (state new) a.ended a.granted;
  over = none_found (is_due (state new)) (xs ++ ys) served;
  queues = a.queues;
  most = let longer = length-append xs ys in omega (arith, a.most, longer);
  least = a.least;
  marked = a.marked;
}

pub at_stop : (h : ℕ) (old now : Dispatcher) (at : Option ℕ) → IsAt h old now at → IsServed (state now) → Visits ((state old).queues h) old now
at_stop h old now at a served = subst (λ (q : List ℕ). Visits q old now) (sym a.split) (Visits-before a.passed a.rest old now a.visits served)

pub one_served : (old new : Dispatcher) (h : ℕ) → old.grants ≡ [] → FitOnlyIn (sequence (state old) (h ∷ [])) (state old) → Visits ((state old).queues h) old new → Serve (sequence (state old) (h ∷ [])) (state old) new.grants (state new)
one_served old new h first local visits =
    all_served (sequence (state old) (h ∷ [])) old new first local (subst (λ (q : List ℕ). Visits q old new) (sym (append-nil ((state old).queues h))) visits)

-- the waits on one object are those in its queue
one_queue : (d : Dispatcher) (h : ℕ) → length (sequence (state d) (h ∷ [])) ≡ length ((state d).queues h)
one_queue d h = ap (λ q. length q) (append-nil ((state d).queues h))

pub one_countable : (d : Dispatcher) (h : ℕ) → d.table.looked ≡ 0 → length (sequence (state d) (h ∷ [])) < 2 ^ 64 → d.table.looked + length ((state d).queues h) < 2 ^ 64
one_countable d h none few = let same = one_queue d h in omega (arith, none, same, few)

pub one_most : (old new : Dispatcher) (h : ℕ) → old.table.looked ≡ 0 → Visits ((state old).queues h) old new → new.table.looked ≤ length (sequence (state old) (h ∷ []))
one_most old new h none visits = let most = visits.most in let same = one_queue old h in omega (arith, most, none, same)

pub one_least : (old new : Dispatcher) (h : ℕ) → old.grants ≡ [] → old.table.looked ≡ 0 → Visits ((state old).queues h) old new → length new.grants ≤ new.table.looked
one_least old new h first none visits =
    let same : length new.grants ≡ length visits.ended = ap (λ gs. length gs) (visits.grants ∙ ap (λ gs. gs ++ visits.ended) first) in
    let least = visits.least in
    omega (arith, same, least, none)
