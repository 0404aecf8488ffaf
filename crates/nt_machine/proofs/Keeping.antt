-- What taking objects keeps.
use Rattle.std.proofs.Common.{◌≡◌, ◌≢◌, ℕ, zero, suc, ◌<◌, Bool, true, false, cond, not, ◌&&◌, List, [], ◌∷◌, length, get_or, refl, sym, ap, ◌∙◌, subst, arith, Some, None, eqb, inl, inr, ◌⊎◌}
use Rattle.std.specs.List.{list_all, list_any, IsDistinct, position_or_len}
use Rattle.std.specs.Prelude.{nat_eq, slice_index}
use Rattle.std.proofs.lemmas.Bool.{eqb-true, false≢true}
use Rattle.std.proofs.lemmas.Bool.Decides.{nat_tests}
use Rattle.nt_waits.specs.declared.wait.Wait.{Wait}
use Rattle.nt_objects.specs.declared.object.Object.{Object}
use Rattle.nt_objects.specs.declared.object.Object.TheVariants.{Event, Semaphore, Mutex, Timer, Thread, Gone}
use Rattle.nt_objects.specs.Object.{signaled, taken, has_room, owned_by, has_ended, is_thread, is_gone, due_of, setter_of, IsLawfulObject}
use Rattle.nt_calls.specs.State.{object_at}
use Rattle.nt_calls.specs.Refusals.{is_at_limit}
use Rattle.nt_calls.specs.Serving.{is_ready, fits, least, take_at, take_each, objects_taken, CanTake}
use Rattle.nt_calls.proofs.Tries.{differ, ready_other, object_taken_other}
use Rattle.nt_calls.proofs.Ready.{no_pass, first_pass_at}
use Rattle.std.specs.Prelude.{pos, ◌-ℤ◌, ◌<ℤ◌, ◌≤ℤ◌}
use Rattle.std.specs.Int.Signed.{lt_z_yes}
use Rattle.std.proofs.lemmas.Int.{ints}
use Rattle.std.proofs.Common.{T}
use Rattle.std.proofs.lemmas.List.{length-set}
use Rattle.std.proofs.Math.Nat.{lt_of_not-le}
use Rattle.nt_calls.specs.Serving.{is_sleep}
use Rattle.std.proofs.Common.{Option}
use Rattle.nt_machine.specs.Lawful.{TimersAgree}

-- ---- from one object that is taken to all that a wait takes

-- what taking one signaled object keeps, taking several keeps
each_kept : (P : List Object → Type 0) (t : ℕ) → ((os : List Object) (h : ℕ) → is_ready os t h ≡ true → has_room (object_at os h) ≡ true → P os → P (take_at os t h)) → (hs : List ℕ) (os : List Object) → ((i j : ℕ) → i < j → j < length hs → get_or hs i 0 ≢ get_or hs j 0) → ((j : ℕ) → j < length hs → is_ready os t (get_or hs j 0) ≡ true) → ((j : ℕ) → j < length hs → has_room (object_at os (get_or hs j 0)) ≡ true) → P os → P (take_each os t hs)
each_kept P t kept [] os apart ready room has = has
each_kept P t kept (h ∷ hs) os apart ready room has =
    let other : (j : ℕ) → j < length hs → get_or hs j 0 ≢ h = λ j below e. apart 0 (suc j) (omega arith) (omega (arith, below)) (sym e) in
    each_kept P t kept hs (take_at os t h)
    (λ i j before below. apart (suc i) (suc j) (omega (arith, before)) (omega (arith, below)))
    (λ j below. ready_other os t h (get_or hs j 0) (other j below) ∙ ready (suc j) (omega (arith, below)))
    (λ j below. ap has_room (object_taken_other os t h (get_or hs j 0) (other j below)) ∙ room (suc j) (omega (arith, below)))
    (kept os h (ready 0 (omega arith)) (room 0 (omega arith)) has)

pub list_all_at : (p : ℕ → Bool) (xs : List ℕ) → list_all p xs ≡ true → (j : ℕ) → j < length xs → p (get_or xs j 0) ≡ true
list_all_at p [] e j below = absurd (omega (arith, below))
list_all_at p (x ∷ xs) e zero below = both (p x) (list_all p xs) e
  where
    both : (a b : Bool) → (a && b) ≡ true → a ≡ true
    both true b e = refl
    both false b e = e
list_all_at p (x ∷ xs) e (suc j) below = list_all_at p xs (both (p x) (list_all p xs) e) j (omega (arith, below))
  where
    both : (a b : Bool) → (a && b) ≡ true → b ≡ true
    both true b e = e
    both false b e = let h : false ≡ true = e in (cc)

pub list_any_at : (p : ℕ → Bool) (xs : List ℕ) → list_any p xs ≡ true → (position_or_len p xs < length xs) × (p (get_or xs (position_or_len p xs) 0) ≡ true)
list_any_at p xs e =
    let lt : position_or_len p xs < length xs = lt_of_not-le (λ le. false≢true (sym (no_pass p xs le) ∙ e)) in
    (lt, (first_pass_at p xs lt).1 0)

-- what taking one signaled object keeps, the taking of a wait that fits keeps
pub taking_keeps : (P : List Object → Type 0) (t : ℕ) → ((os : List Object) (h : ℕ) → is_ready os t h ≡ true → has_room (object_at os h) ≡ true → P os → P (take_at os t h)) → (os : List Object) (w : Wait) → IsDistinct nat_eq w.objects → CanTake os t w.objects → fits os t w ≡ true → P os → P (objects_taken os t w)
taking_keeps P t kept os w apart room fit has = go w.all fit
  where
    whole : (b : Bool) → (not b && list_all (is_ready os t) w.objects) ≡ true → list_all (is_ready os t) w.objects ≡ true
    whole true e = let h : false ≡ true = e in (cc)
    whole false e = e

    go : (all : Bool) → cond all (not (is_sleep w) && list_all (is_ready os t) w.objects) (list_any (is_ready os t) w.objects) ≡ true → P (cond all (take_each os t w.objects) (take_at os t (slice_index w.objects (least os t w))))
    go true e =
        let ready = list_all_at (is_ready os t) w.objects (whole (is_sleep w) e) in
        each_kept P t kept w.objects os (λ i j. differ w.objects i j apart) ready (λ j below. room j below (ready j below)) has
    go false e =
        let first = list_any_at (is_ready os t) w.objects e in
        kept os (slice_index w.objects (least os t w)) first.1 (room (least os t w) first.0 first.1) has

-- ---- one object

-- an object is as before, or it is the one that was taken
pub object_at-take_at : (os : List Object) (t h k : ℕ) → (object_at (take_at os t h) k ≡ object_at os k) ⊎ ((k ≡ h) × (object_at (take_at os t h) k ≡ taken (object_at os h) t))
object_at-take_at [] t h k = inl refl
object_at-take_at (o ∷ os) t zero zero = inr (refl, refl)
object_at-take_at (o ∷ os) t zero (suc k) = inl refl
object_at-take_at (o ∷ os) t (suc h) zero = inl refl
object_at-take_at (o ∷ os) t (suc h) (suc k) = elim (object_at-take_at os t h k) [
  | inl same ↦ inl same
  | inr here ↦ inr (ap suc here.0, here.1)
]

lawful_taken : (o : Object) (t : ℕ) → signaled o t ≡ true → has_room o ≡ true → IsLawfulObject o → IsLawfulObject (taken o t)
lawful_taken (Event manual set) t ready room lawful = tt
lawful_taken (Semaphore count maximum) t ready room lawful =
    let above : pos 0 <ℤ count = lt_z_yes (subst (λ b. T b) (sym ready) tt) in
    let low : pos 0 ≤ℤ (count -ℤ pos 1) = omega (arith, ints, above) in
    let high : (count -ℤ pos 1) ≤ℤ maximum = omega (arith, ints, lawful.1) in
    (low, high)
lawful_taken (Mutex None depth abandoned) t ready room lawful = (omega arith, grind (arith, nat_tests, room), refl)
lawful_taken (Mutex (Some owner) depth abandoned) t ready room lawful = (omega arith, grind (arith, nat_tests, room), refl)
lawful_taken (Timer manual set armed) t ready room lawful = tt
lawful_taken (Thread ended) t ready room lawful = tt
lawful_taken Gone t ready room lawful = tt

-- who did not take it does not own it
unowned_taken : (o : Object) (t u : ℕ) → signaled o t ≡ true → u ≢ t → owned_by (taken o t) u ≡ false
unowned_taken (Event manual set) t u ready other = refl
unowned_taken (Semaphore count maximum) t u ready other = refl
unowned_taken (Mutex None depth abandoned) t u ready other = eqb_other t u (λ e. other (sym e))
  where
    eqb_other : (a b : ℕ) → a ≢ b → eqb a b ≡ false
    eqb_other a b e = grind (arith, nat_tests, e)
unowned_taken (Mutex (Some owner) depth abandoned) t u ready other =
    let owns : owner ≡ t = eqb-true owner t ready in
    eqb_other owner u (λ e. other (sym e ∙ owns))
  where
    eqb_other : (a b : ℕ) → a ≢ b → eqb a b ≡ false
    eqb_other a b e = grind (arith, nat_tests, e)
unowned_taken (Timer manual set armed) t u ready other = refl
unowned_taken (Thread ended) t u ready other = refl
unowned_taken Gone t u ready other = refl

ended_taken : (o : Object) (t : ℕ) → has_ended (taken o t) ≡ has_ended o
ended_taken (Event manual set) t = refl
ended_taken (Semaphore count maximum) t = refl
ended_taken (Mutex None depth abandoned) t = refl
ended_taken (Mutex (Some owner) depth abandoned) t = refl
ended_taken (Timer manual set armed) t = refl
ended_taken (Thread ended) t = refl
ended_taken Gone t = refl

thread_taken : (o : Object) (t : ℕ) → is_thread (taken o t) ≡ is_thread o
thread_taken (Event manual set) t = refl
thread_taken (Semaphore count maximum) t = refl
thread_taken (Mutex None depth abandoned) t = refl
thread_taken (Mutex (Some owner) depth abandoned) t = refl
thread_taken (Timer manual set armed) t = refl
thread_taken (Thread ended) t = refl
thread_taken Gone t = refl

gone_taken : (o : Object) (t : ℕ) → is_gone (taken o t) ≡ is_gone o
gone_taken (Event manual set) t = refl
gone_taken (Semaphore count maximum) t = refl
gone_taken (Mutex None depth abandoned) t = refl
gone_taken (Mutex (Some owner) depth abandoned) t = refl
gone_taken (Timer manual set armed) t = refl
gone_taken (Thread ended) t = refl
gone_taken Gone t = refl

pub due_taken : (o : Object) (t : ℕ) → due_of (taken o t) ≡ due_of o
due_taken (Event manual set) t = refl
due_taken (Semaphore count maximum) t = refl
due_taken (Mutex None depth abandoned) t = refl
due_taken (Mutex (Some owner) depth abandoned) t = refl
due_taken (Timer manual set (Some armed)) t = refl
due_taken (Timer manual set None) t = refl
due_taken (Thread ended) t = refl
due_taken Gone t = refl

pub setter_taken : (o : Object) (t : ℕ) → setter_of (taken o t) ≡ setter_of o
setter_taken (Event manual set) t = refl
setter_taken (Semaphore count maximum) t = refl
setter_taken (Mutex None depth abandoned) t = refl
setter_taken (Mutex (Some owner) depth abandoned) t = refl
setter_taken (Timer manual set (Some armed)) t = refl
setter_taken (Timer manual set None) t = refl
setter_taken (Thread ended) t = refl
setter_taken Gone t = refl

-- ---- the objects after a wait took them

-- a reading of objects that taking does not change
pub same_reading : {X : Type 0} (f : Object → X) (t : ℕ) → ((o : Object) → f (taken o t) ≡ f o) → (os : List Object) (h k : ℕ) → f (object_at (take_at os t h) k) ≡ f (object_at os k)
same_reading f t same os h k = elim (object_at-take_at os t h k) [
  | inl as_before ↦ ap f as_before
  | inr here ↦ ap f here.1 ∙ (same (object_at os h) ∙ ap (λ i. f (object_at os i)) (sym here.0))
]

-- what a wait that fits takes of objects
pub record TakesWell (old new : List Object) (t : ℕ) : Type 0 where
  pub length : length new ≡ length old
  pub lawful : ((k : ℕ) → IsLawfulObject (object_at old k)) → (k : ℕ) → IsLawfulObject (object_at new k)
  pub unlimited : (u : ℕ) → u ≢ t → (h : ℕ) → is_at_limit old u h ≡ false → is_at_limit new u h ≡ false
  pub ended : (k : ℕ) → has_ended (object_at new k) ≡ has_ended (object_at old k)
  pub threads : (k : ℕ) → is_thread (object_at new k) ≡ is_thread (object_at old k)
  pub gone : (k : ℕ) → is_gone (object_at new k) ≡ is_gone (object_at old k)
  pub due : (k : ℕ) → due_of (object_at new k) ≡ due_of (object_at old k)
  pub setter : (k : ℕ) → setter_of (object_at new k) ≡ setter_of (object_at old k)

takes_well : (old os : List Object) (t h : ℕ) → is_ready os t h ≡ true → has_room (object_at os h) ≡ true → TakesWell old os t → TakesWell old (take_at os t h) t
takes_well old os t h ready room so_far = record {
  length = length-set os h (taken (object_at os h) t) ∙ so_far.length;
  lawful = λ lawful k. kept k (so_far.lawful lawful);
  unlimited = λ u other k below. limit u k other (so_far.unlimited u other k below);
  ended = λ k. same_reading has_ended t (λ o. ended_taken o t) os h k ∙ so_far.ended k;
  threads = λ k. same_reading is_thread t (λ o. thread_taken o t) os h k ∙ so_far.threads k;
  gone = λ k. same_reading is_gone t (λ o. gone_taken o t) os h k ∙ so_far.gone k;
  due = λ k. same_reading due_of t (λ o. due_taken o t) os h k ∙ so_far.due k;
  setter = λ k. same_reading setter_of t (λ o. setter_taken o t) os h k ∙ so_far.setter k;
}
  where
    kept : (k : ℕ) → ((j : ℕ) → IsLawfulObject (object_at os j)) → IsLawfulObject (object_at (take_at os t h) k)
    kept k lawful = elim (object_at-take_at os t h k) [
      | inl as_before ↦ subst IsLawfulObject (sym as_before) (lawful k)
      | inr here ↦ subst IsLawfulObject (sym here.1) (lawful_taken (object_at os h) t ready room (lawful h))
    ]

    limit : (u k : ℕ) → u ≢ t → is_at_limit os u k ≡ false → is_at_limit (take_at os t h) u k ≡ false
    limit u k other below = elim (object_at-take_at os t h k) [
      | inl as_before ↦ ap (λ o. owned_by o u && not (has_room o)) as_before ∙ below
      | inr here ↦ ap (λ o. owned_by o u && not (has_room o)) here.1 ∙ rw (unowned_taken (object_at os h) t u ready other) refl
    ]

pub objects_taken_well : (os : List Object) (t : ℕ) (w : Wait) → IsDistinct nat_eq w.objects → CanTake os t w.objects → fits os t w ≡ true → TakesWell os (objects_taken os t w) t
objects_taken_well os t w apart room fit =
    taking_keeps (λ new. TakesWell os new t) t (λ new h ready has. takes_well os new t h ready has) os w apart room fit
    (record {
      length = refl;
      lawful = λ lawful. lawful;
      unlimited = λ u other h below. below;
      ended = λ k. refl;
      threads = λ k. refl;
      gone = λ k. refl;
      due = λ k. refl;
      setter = λ k. refl;
    })

-- a thread's own object, or one that is gone, stays so
pub own_kept : (old new : Object) → is_thread new ≡ is_thread old → is_gone new ≡ is_gone old → (is_thread old ≡ true) ⊎ (is_gone old ≡ true) → (is_thread new ≡ true) ⊎ (is_gone new ≡ true)
own_kept old new thread gone (inl is) = inl (thread ∙ is)
own_kept old new thread gone (inr is) = inr (gone ∙ is)

-- an object beyond those is no thread that runs, if it was none
pub idle_kept : (old new : Object) → is_thread new ≡ is_thread old → has_ended new ≡ has_ended old → (is_thread old && not (has_ended old)) ≡ false → (is_thread new && not (has_ended new)) ≡ false
idle_kept old new thread ended is = ap (λ b. b && not (has_ended new)) thread ∙ (ap (λ b. is_thread old && not b) ended ∙ is)

-- what is no thread is none that runs
pub no_thread_idle : (o : Object) → is_thread o ≡ false → (is_thread o && not (has_ended o)) ≡ false
no_thread_idle o is = ap (λ b. b && not (has_ended o)) is

-- ---- timers

-- objects that are other ones in the same state leave timers, their alarms and their places in agreement
pub timers_kept : (n : ℕ) (old new : List Object) (alarms places : List (Option ℕ)) → TimersAgree n old alarms places → length new ≡ length old → ((k : ℕ) → due_of (object_at new k) ≡ due_of (object_at old k)) → ((k : ℕ) → setter_of (object_at new k) ≡ setter_of (object_at old k)) → ((k : ℕ) → has_ended (object_at new k) ≡ has_ended (object_at old k)) → TimersAgree n new alarms places
timers_kept n old new alarms places agree len due setter ended = record {
  count = agree.count ∙ sym len;
  alarm = λ h. agree.alarm h ∙ sym (due h);
  placed = λ h t is. agree.placed h t (sym (setter h) ∙ is);
  known = λ h t at. subst (λ (k : ℕ). h < k) (sym len) (agree.known h t at);
  runs = λ h t is. let own = agree.runs h t (sym (setter h) ∙ is) in (own.0, ended t ∙ own.1);
}

pub taken_timers : (n : ℕ) (old new : List Object) (alarms places : List (Option ℕ)) (t : ℕ) → TimersAgree n old alarms places → TakesWell old new t → TimersAgree n new alarms places
taken_timers n old new alarms places t agree well = timers_kept n old new alarms places agree well.length well.due well.setter well.ended
