-- Objects and waits, renamed.
use Rattle.std.proofs.Common.{◌≡◌, ◌<◌, ℕ, ◌+◌, ◌-◌, ℤ, zero, suc, Bool, true, false, not, ◌&&◌, ◌||◌, List, [], ◌∷◌, length, map, refl, sym, ap, ◌∙◌, subst, arith, Option, Some, None}
use Rattle.std.specs.Prelude.{slice_index, nat_le, ◌==◌, if◌then◌else◌, option_map}
use Rattle.std.specs.List.{list_any, list_all, position_or_len}
use Rattle.nt_objects.specs.declared.object.Object.{Object}
use Rattle.nt_objects.specs.declared.object.Object.TheVariants.{Event, Semaphore, Mutex, Timer, Thread, Gone}
use Rattle.nt_objects.specs.declared.object.Armed.{Armed}
use Rattle.nt_objects.specs.declared.object.Routine.{Routine}
use Rattle.nt_objects.specs.Object.{signaled, taken, is_abandoned, with_set, released, unlocked, abandoned_by, armed_with, unset_by, set_by, setting_of, due_of, owned_by}
use Rattle.nt_waits.specs.declared.wait.Wait.{Wait}
use Rattle.nt_calls.specs.State.{object_at, with_object}
use Rattle.nt_calls.specs.Serving.{is_ready, is_sleep, fits, least, is_abandoned_at, status, status_at, take_at, take_each, objects_taken}
use Rattle.nt_calls.specs.Change.{signal}
use Rattle.nt_apart.specs.Fewer.{IsRenaming, AreMoved, renamed_object, renamed_armed, renamed_routine, renamed_wait, is_own}
use Rattle.nt_apart.proofs.Renaming.{same_test, any_renamed, all_renamed, place_renamed, moved_set}

-- ---- one object

pub signaled_renamed : (n : ℕ) (r : ℕ → ℕ) → IsRenaming n r → (o : Object) (t : ℕ) → signaled (renamed_object r o) (r t) ≡ signaled o t
signaled_renamed n r ren (Event manual set) t = refl
signaled_renamed n r ren (Semaphore count maximum) t = refl
signaled_renamed n r ren (Mutex None depth abandoned) t = refl
signaled_renamed n r ren (Mutex (Some owner) depth abandoned) t = same_test n r ren owner t
signaled_renamed n r ren (Timer manual set armed) t = refl
signaled_renamed n r ren (Thread ended) t = refl
signaled_renamed n r ren Gone t = refl

pub owned_renamed : (n : ℕ) (r : ℕ → ℕ) → IsRenaming n r → (o : Object) (t : ℕ) → owned_by (renamed_object r o) (r t) ≡ owned_by o t
owned_renamed n r ren (Event manual set) t = refl
owned_renamed n r ren (Semaphore count maximum) t = refl
owned_renamed n r ren (Mutex None depth abandoned) t = refl
owned_renamed n r ren (Mutex (Some owner) depth abandoned) t = same_test n r ren owner t
owned_renamed n r ren (Timer manual set armed) t = refl
owned_renamed n r ren (Thread ended) t = refl
owned_renamed n r ren Gone t = refl

-- what does not tell of threads is the same of a renamed object
pub kept_by : {X : Type 0} (r : ℕ → ℕ) (f : Object → X)
    → ((owner : Option ℕ) (depth : ℕ) (abandoned : Bool) → f (Mutex (option_map r owner) depth abandoned) ≡ f (Mutex owner depth abandoned))
    → ((manual set : Bool) (armed : Option Armed) → f (Timer manual set (option_map (renamed_armed r) armed)) ≡ f (Timer manual set armed))
    → (o : Object) → f (renamed_object r o) ≡ f o
kept_by r f m t (Event manual set) = refl
kept_by r f m t (Semaphore count maximum) = refl
kept_by r f m t (Mutex owner depth abandoned) = m owner depth abandoned
kept_by r f m t (Timer manual set armed) = t manual set armed
kept_by r f m t (Thread ended) = refl
kept_by r f m t Gone = refl

pub due_renamed : (r : ℕ → ℕ) (o : Object) → due_of (renamed_object r o) ≡ due_of o
due_renamed r (Event manual set) = refl
due_renamed r (Semaphore count maximum) = refl
due_renamed r (Mutex owner depth abandoned) = refl
due_renamed r (Timer manual set None) = refl
due_renamed r (Timer manual set (Some armed)) = refl
due_renamed r (Thread ended) = refl
due_renamed r Gone = refl

pub setting_renamed : (r : ℕ → ℕ) (o : Object) → setting_of (renamed_object r o) ≡ option_map (renamed_armed r) (setting_of o)
setting_renamed r (Event manual set) = refl
setting_renamed r (Semaphore count maximum) = refl
setting_renamed r (Mutex owner depth abandoned) = refl
setting_renamed r (Timer manual set armed) = refl
setting_renamed r (Thread ended) = refl
setting_renamed r Gone = refl

-- a change of an object commutes with the renaming, and leaves a thread's own object what it is
pub record IsFair (r : ℕ → ℕ) (f g : Object → Object) : Type 0 where
  pub same : (o : Object) → g (renamed_object r o) ≡ renamed_object r (f o)
  pub own : (o : Object) → is_own o ≡ true → is_own (f o) ≡ true

pub taking : (n : ℕ) (r : ℕ → ℕ) → IsRenaming n r → (t : ℕ) → IsFair r (λ o. taken o t) (λ o. taken o (r t))
taking n r ren t = record { same = same; own = own }
  where
    same : (o : Object) → taken (renamed_object r o) (r t) ≡ renamed_object r (taken o t)
    same (Event manual set) = refl
    same (Semaphore count maximum) = refl
    same (Mutex None depth abandoned) = refl
    same (Mutex (Some owner) depth abandoned) = refl
    same (Timer manual set armed) = refl
    same (Thread ended) = refl
    same Gone = refl

    own : (o : Object) → is_own o ≡ true → is_own (taken o t) ≡ true
    own (Event manual set) is = cc
    own (Semaphore count maximum) is = cc
    own (Mutex owner depth abandoned) is = cc
    own (Timer manual set armed) is = cc
    own (Thread ended) is = refl
    own Gone is = refl

pub setting : (r : ℕ → ℕ) (b : Bool) → IsFair r (with_set b) (with_set b)
setting r b = record { same = same; own = own }
  where
    same : (o : Object) → with_set b (renamed_object r o) ≡ renamed_object r (with_set b o)
    same (Event manual set) = refl
    same (Semaphore count maximum) = refl
    same (Mutex owner depth abandoned) = refl
    same (Timer manual set armed) = refl
    same (Thread ended) = refl
    same Gone = refl

    own : (o : Object) → is_own o ≡ true → is_own (with_set b o) ≡ true
    own (Event manual set) is = is
    own (Semaphore count maximum) is = is
    own (Mutex owner depth abandoned) is = is
    own (Timer manual set armed) is = is
    own (Thread ended) is = refl
    own Gone is = refl

pub releasing : (r : ℕ → ℕ) (k : ℤ) → IsFair r (released k) (released k)
releasing r k = record { same = same; own = own }
  where
    same : (o : Object) → released k (renamed_object r o) ≡ renamed_object r (released k o)
    same (Event manual set) = refl
    same (Semaphore count maximum) = refl
    same (Mutex owner depth abandoned) = refl
    same (Timer manual set armed) = refl
    same (Thread ended) = refl
    same Gone = refl

    own : (o : Object) → is_own o ≡ true → is_own (released k o) ≡ true
    own (Event manual set) is = is
    own (Semaphore count maximum) is = is
    own (Mutex owner depth abandoned) is = is
    own (Timer manual set armed) is = is
    own (Thread ended) is = refl
    own Gone is = refl

unlocked_same : (r : ℕ → ℕ) (o : Object) → unlocked (renamed_object r o) ≡ renamed_object r (unlocked o)
unlocked_same r (Event manual set) = refl
unlocked_same r (Semaphore count maximum) = refl
unlocked_same r (Mutex owner depth abandoned) = go (nat_le depth 1)
  where
    go : (b : Bool) → (if b then Mutex None 0 false else Mutex (option_map r owner) (depth - 1) abandoned) ≡ renamed_object r (if b then Mutex None 0 false else Mutex owner (depth - 1) abandoned)
    go true = refl
    go false = refl
unlocked_same r (Timer manual set armed) = refl
unlocked_same r (Thread ended) = refl
unlocked_same r Gone = refl

unlocked_own : (o : Object) → is_own o ≡ true → is_own (unlocked o) ≡ true
unlocked_own (Event manual set) is = is
unlocked_own (Semaphore count maximum) is = is
unlocked_own (Mutex owner depth abandoned) is = cc
unlocked_own (Timer manual set armed) is = is
unlocked_own (Thread ended) is = refl
unlocked_own Gone is = refl

pub unlocking : (r : ℕ → ℕ) → IsFair r unlocked unlocked
unlocking r = record { same = unlocked_same r; own = unlocked_own }

pub signaling : (r : ℕ → ℕ) → IsFair r signal signal
signaling r = record { same = same; own = own }
  where
    same : (o : Object) → signal (renamed_object r o) ≡ renamed_object r (signal o)
    same (Event manual set) = refl
    same (Semaphore count maximum) = refl
    same (Mutex owner depth abandoned) = unlocked_same r (Mutex owner depth abandoned)
    same (Timer manual set armed) = refl
    same (Thread ended) = refl
    same Gone = refl

    own : (o : Object) → is_own o ≡ true → is_own (signal o) ≡ true
    own (Event manual set) is = is
    own (Semaphore count maximum) is = is
    own (Mutex owner depth abandoned) is = cc
    own (Timer manual set armed) is = is
    own (Thread ended) is = refl
    own Gone is = refl

armed_same : (r : ℕ → ℕ) (a b : Option Armed) → b ≡ option_map (renamed_armed r) a → (o : Object) → armed_with b (renamed_object r o) ≡ renamed_object r (armed_with a o)
armed_same r a b is (Event manual set) = refl
armed_same r a b is (Semaphore count maximum) = refl
armed_same r a b is (Mutex owner depth abandoned) = refl
armed_same r a b is (Timer manual set armed) = ap (λ (z : Option Armed). Timer manual set z) is
armed_same r a b is (Thread ended) = refl
armed_same r a b is Gone = refl

armed_own : (a : Option Armed) (o : Object) → is_own o ≡ true → is_own (armed_with a o) ≡ true
armed_own a (Event manual set) is = is
armed_own a (Semaphore count maximum) is = is
armed_own a (Mutex owner depth abandoned) is = is
armed_own a (Timer manual set armed) is = is
armed_own a (Thread ended) is = refl
armed_own a Gone is = refl

pub arming : (r : ℕ → ℕ) (a b : Option Armed) → b ≡ option_map (renamed_armed r) a → IsFair r (armed_with a) (armed_with b)
arming r a b is = record { same = armed_same r a b is; own = armed_own a }

-- one change after another
pub both : (r : ℕ → ℕ) (f g h k : Object → Object) → IsFair r f g → IsFair r h k → IsFair r (λ o. h (f o)) (λ o. k (g o))
both r f g h k one two = record {
  same = λ o. ap (λ (z : Object). k z) (one.same o) ∙ two.same (f o);
  own = λ o is. two.own (f o) (one.own o is);
}

abandoned_same : (n : ℕ) (r : ℕ → ℕ) → IsRenaming n r → (t : ℕ) (o : Object) → abandoned_by (r t) (renamed_object r o) ≡ renamed_object r (abandoned_by t o)
abandoned_same n r ren t (Event manual set) = refl
abandoned_same n r ren t (Semaphore count maximum) = refl
abandoned_same n r ren t (Mutex None depth abandoned) = refl
abandoned_same n r ren t (Mutex (Some owner) depth abandoned) =
    ap (λ (b : Bool). if b then Mutex None 0 true else Mutex (Some (r owner)) depth abandoned) (same_test n r ren owner t) ∙ go (owner == t)
  where
    go : (b : Bool) → (if b then Mutex None 0 true else Mutex (Some (r owner)) depth abandoned) ≡ renamed_object r (if b then Mutex None 0 true else Mutex (Some owner) depth abandoned)
    go true = refl
    go false = refl
abandoned_same n r ren t (Timer manual set armed) = refl
abandoned_same n r ren t (Thread ended) = refl
abandoned_same n r ren t Gone = refl

abandoned_own : (t : ℕ) (o : Object) → is_own o ≡ true → is_own (abandoned_by t o) ≡ true
abandoned_own t (Event manual set) is = is
abandoned_own t (Semaphore count maximum) is = is
abandoned_own t (Mutex owner depth abandoned) is = cc
abandoned_own t (Timer manual set armed) is = is
abandoned_own t (Thread ended) is = refl
abandoned_own t Gone is = refl

set_by_renamed : (n : ℕ) (r : ℕ → ℕ) → IsRenaming n r → (t : ℕ) (routine : Option Routine) → set_by (option_map (renamed_routine r) routine) (r t) ≡ set_by routine t
set_by_renamed n r ren t None = refl
set_by_renamed n r ren t (Some routine) = same_test n r ren routine.thread t

unset_same : (n : ℕ) (r : ℕ → ℕ) → IsRenaming n r → (t : ℕ) (o : Object) → unset_by (r t) (renamed_object r o) ≡ renamed_object r (unset_by t o)
unset_same n r ren t (Event manual set) = refl
unset_same n r ren t (Semaphore count maximum) = refl
unset_same n r ren t (Mutex owner depth abandoned) = refl
unset_same n r ren t (Timer manual set None) = refl
unset_same n r ren t (Timer manual set (Some armed)) =
    ap (λ (b : Bool). if b then Timer manual set None else Timer manual set (Some (renamed_armed r armed))) (set_by_renamed n r ren t armed.routine) ∙ go (set_by armed.routine t)
  where
    go : (b : Bool) → (if b then Timer manual set None else Timer manual set (Some (renamed_armed r armed))) ≡ renamed_object r (if b then Timer manual set None else Timer manual set (Some armed))
    go true = refl
    go false = refl
unset_same n r ren t (Thread ended) = refl
unset_same n r ren t Gone = refl

unset_own : (t : ℕ) (o : Object) → is_own o ≡ true → is_own (unset_by t o) ≡ true
unset_own t (Event manual set) is = is
unset_own t (Semaphore count maximum) is = is
unset_own t (Mutex owner depth abandoned) is = is
unset_own t (Timer manual set armed) is = cc
unset_own t (Thread ended) is = refl
unset_own t Gone is = refl

pub leaving : (n : ℕ) (r : ℕ → ℕ) → IsRenaming n r → (t : ℕ) → IsFair r (λ o. unset_by t (abandoned_by t o)) (λ o. unset_by (r t) (abandoned_by (r t) o))
leaving n r ren t =
    both r (abandoned_by t) (abandoned_by (r t)) (unset_by t) (unset_by (r t))
    (record { same = abandoned_same n r ren t; own = abandoned_own t })
    (record { same = unset_same n r ren t; own = unset_own t })

-- ---- all objects

-- the objects are renamed, and the first of them are the threads' own
pub record AreObjects (n : ℕ) (r : ℕ → ℕ) (xs ys : List Object) : Type 0 where
  pub renaming : IsRenaming n r
  pub own : (x : ℕ) → x < n → is_own (object_at xs x) ≡ true
  pub moved : AreMoved n r (renamed_object r) (Thread false) xs ys

own_changed : (xs : List Object) (h o : ℕ) (f : Object → Object) → ((x : Object) → is_own x ≡ true → is_own (f x) ≡ true) → is_own (object_at xs o) ≡ true → is_own (object_at (with_object xs h f) o) ≡ true
own_changed [] h o f keeps is = is
own_changed (x ∷ xs) zero zero f keeps is = keeps x is
own_changed (x ∷ xs) zero (suc o) f keeps is = is
own_changed (x ∷ xs) (suc h) zero f keeps is = is
own_changed (x ∷ xs) (suc h) (suc o) f keeps is = own_changed xs h o f keeps is

pub changed_objects : (n : ℕ) (r : ℕ → ℕ) (xs ys : List Object) (h : ℕ) (f g : Object → Object) → AreObjects n r xs ys → IsFair r f g → AreObjects n r (with_object xs h f) (with_object ys (r h) g)
changed_objects n r xs ys h f g are fair = record {
  renaming = are.renaming;
  own = λ x less. own_changed xs h x f fair.own (are.own x less);
  moved = moved_set n r (renamed_object r) (Thread false) xs ys are.renaming are.moved h (f (object_at xs h)) (g (object_at ys (r h))) refl
      (ap (λ (z : Object). g z) (are.moved.each h) ∙ fair.same (object_at xs h));
}

pub ready_renamed : (n : ℕ) (r : ℕ → ℕ) (xs ys : List Object) → AreObjects n r xs ys → (t h : ℕ) → is_ready ys (r t) (r h) ≡ is_ready xs t h
ready_renamed n r xs ys are t h = ap (λ (z : Object). signaled z (r t)) (are.moved.each h) ∙ signaled_renamed n r are.renaming (object_at xs h) t

length_renamed : (r : ℕ → ℕ) (xs : List ℕ) → length (map r xs) ≡ length xs
length_renamed r [] = refl
length_renamed r (x ∷ xs) = ap (λ (k : ℕ). suc k) (length_renamed r xs)

pub sleep_renamed : (r : ℕ → ℕ) (w : Wait) → is_sleep (renamed_wait r w) ≡ is_sleep w
sleep_renamed r w = ap (λ (k : ℕ). k == 0) (length_renamed r w.objects)

pub fits_renamed : (n : ℕ) (r : ℕ → ℕ) (xs ys : List Object) → AreObjects n r xs ys → (t : ℕ) (w : Wait) → fits ys (r t) (renamed_wait r w) ≡ fits xs t w
fits_renamed n r xs ys are t w =
    ap (λ (b : Bool). if w.all then not (is_sleep (renamed_wait r w)) && list_all (is_ready ys (r t)) (map r w.objects) else b) (any_renamed r (is_ready xs t) (is_ready ys (r t)) (ready_renamed n r xs ys are t) w.objects)
    ∙ (ap (λ (b : Bool). if w.all then not (is_sleep (renamed_wait r w)) && b else list_any (is_ready xs t) w.objects) (all_renamed r (is_ready xs t) (is_ready ys (r t)) (ready_renamed n r xs ys are t) w.objects)
    ∙ ap (λ (b : Bool). if w.all then not b && list_all (is_ready xs t) w.objects else list_any (is_ready xs t) w.objects) (sleep_renamed r w))

least_renamed : (n : ℕ) (r : ℕ → ℕ) (xs ys : List Object) → AreObjects n r xs ys → (t : ℕ) (w : Wait) → least ys (r t) (renamed_wait r w) ≡ least xs t w
least_renamed n r xs ys are t w = place_renamed r (is_ready xs t) (is_ready ys (r t)) (ready_renamed n r xs ys are t) w.objects

-- where some object is ready, there is one at the least index
at_least : (r : ℕ → ℕ) (p : ℕ → Bool) (hs : List ℕ) → list_any p hs ≡ true → slice_index (map r hs) (position_or_len p hs) ≡ r (slice_index hs (position_or_len p hs))
at_least r p [] some = cc
at_least r p (h ∷ hs) some = go (p h) refl (at_least r p hs)
  where
    go : (b : Bool) → p h ≡ b → (list_any p hs ≡ true → slice_index (map r hs) (position_or_len p hs) ≡ r (slice_index hs (position_or_len p hs)))
        → slice_index (r h ∷ map r hs) (if not b then 1 + position_or_len p hs else 0) ≡ r (slice_index (h ∷ hs) (if not b then 1 + position_or_len p hs else 0))
    go true is rest = refl
    go false is rest =
        let one : 1 + position_or_len p hs ≡ suc (position_or_len p hs) = omega arith in
        ap (λ (k : ℕ). slice_index (r h ∷ map r hs) k) one
        ∙ (rest (sym (ap (λ (b : Bool). b || list_any p hs) is) ∙ some)
        ∙ ap (λ (k : ℕ). r (slice_index (h ∷ hs) k)) (sym one))

-- the object that a wait for one takes
chosen_renamed : (n : ℕ) (r : ℕ → ℕ) (xs ys : List Object) → AreObjects n r xs ys → (t : ℕ) (w : Wait) → list_any (is_ready xs t) w.objects ≡ true → slice_index (map r w.objects) (least ys (r t) (renamed_wait r w)) ≡ r (slice_index w.objects (least xs t w))
chosen_renamed n r xs ys are t w some =
    ap (λ (k : ℕ). slice_index (map r w.objects) k) (least_renamed n r xs ys are t w) ∙ at_least r (is_ready xs t) w.objects some

abandoned_renamed : (n : ℕ) (r : ℕ → ℕ) (xs ys : List Object) → AreObjects n r xs ys → (h : ℕ) → is_abandoned_at ys (r h) ≡ is_abandoned_at xs h
abandoned_renamed n r xs ys are h =
    ap (λ (z : Object). is_abandoned z) (are.moved.each h) ∙ kept_by r is_abandoned (λ owner depth abandoned. refl) (λ manual set armed. refl) (object_at xs h)

pub status_renamed : (n : ℕ) (r : ℕ → ℕ) (xs ys : List Object) → AreObjects n r xs ys → (t : ℕ) (w : Wait) → fits xs t w ≡ true → status ys (r t) (renamed_wait r w) ≡ status xs t w
status_renamed n r xs ys are t w fit = go w.all refl
  where
    go : (b : Bool) → w.all ≡ b
        → (if b then status_at (list_any (is_abandoned_at ys) (map r w.objects)) 0 else status_at (is_abandoned_at ys (slice_index (map r w.objects) (least ys (r t) (renamed_wait r w)))) (least ys (r t) (renamed_wait r w)))
        ≡ (if b then status_at (list_any (is_abandoned_at xs) w.objects) 0 else status_at (is_abandoned_at xs (slice_index w.objects (least xs t w))) (least xs t w))
    go true is = ap (λ (b : Bool). status_at b 0) (any_renamed r (is_abandoned_at xs) (is_abandoned_at ys) (abandoned_renamed n r xs ys are) w.objects)
    go false is =
        let some : list_any (is_ready xs t) w.objects ≡ true = sym (ap (λ (b : Bool). if b then not (is_sleep w) && list_all (is_ready xs t) w.objects else list_any (is_ready xs t) w.objects) is) ∙ fit in
        ap (λ (h : ℕ). status_at (is_abandoned_at ys h) (least ys (r t) (renamed_wait r w))) (chosen_renamed n r xs ys are t w some)
        ∙ (ap (λ (b : Bool). status_at b (least ys (r t) (renamed_wait r w))) (abandoned_renamed n r xs ys are (slice_index w.objects (least xs t w)))
        ∙ ap (λ (k : ℕ). status_at (is_abandoned_at xs (slice_index w.objects (least xs t w))) k) (least_renamed n r xs ys are t w))

each_taken : (n : ℕ) (r : ℕ → ℕ) (hs : List ℕ) (xs ys : List Object) → AreObjects n r xs ys → (t : ℕ) → AreObjects n r (take_each xs t hs) (take_each ys (r t) (map r hs))
each_taken n r [] xs ys are t = are
each_taken n r (h ∷ hs) xs ys are t =
    each_taken n r hs (take_at xs t h) (take_at ys (r t) (r h)) (changed_objects n r xs ys h (λ o. taken o t) (λ o. taken o (r t)) are (taking n r are.renaming t)) t

pub taken_renamed : (n : ℕ) (r : ℕ → ℕ) (xs ys : List Object) → AreObjects n r xs ys → (t : ℕ) (w : Wait) → fits xs t w ≡ true → AreObjects n r (objects_taken xs t w) (objects_taken ys (r t) (renamed_wait r w))
taken_renamed n r xs ys are t w fit = go w.all refl
  where
    go : (b : Bool) → w.all ≡ b → AreObjects n r (if b then take_each xs t w.objects else take_at xs t (slice_index w.objects (least xs t w)))
        (if b then take_each ys (r t) (map r w.objects) else take_at ys (r t) (slice_index (map r w.objects) (least ys (r t) (renamed_wait r w))))
    go true is = each_taken n r w.objects xs ys are t
    go false is =
        let some : list_any (is_ready xs t) w.objects ≡ true = sym (ap (λ (b : Bool). if b then not (is_sleep w) && list_all (is_ready xs t) w.objects else list_any (is_ready xs t) w.objects) is) ∙ fit in
        subst (λ (h : ℕ). AreObjects n r (take_at xs t (slice_index w.objects (least xs t w))) (take_at ys (r t) h)) (sym (chosen_renamed n r xs ys are t w some))
        (changed_objects n r xs ys (slice_index w.objects (least xs t w)) (λ o. taken o t) (λ o. taken o (r t)) are (taking n r are.renaming t))
