-- What taking and granting keep.
use Rattle.std.proofs.Common.{◌≡◌, ℕ, zero, suc, Bool, true, false, cond, not, ◌&&◌, ◌||◌, List, [], ◌∷◌, refl, Option, Some, None, is_some}
use Rattle.std.specs.Prelude.{slice_index}
use Rattle.std.specs.List.{list_any, list_all}
use Rattle.std.specs.Ordering.{nat_cmp, eq_by_cmp}
use Rattle.std.specs.Cmp.{nat_cmp_total}
use Rattle.std.specs.FinMap as map
use Rattle.nt_waits.specs.declared.wait.Wait.{Wait}
use Rattle.nt_objects.specs.declared.object.Object.{Object}
use Rattle.nt_calls.specs.State.{State, Pending, pends}
use Rattle.nt_objects.proofs.Taking.{unsignaled_taken}
use Rattle.nt_calls.specs.Serving.{is_ready, is_sleep, fits, least, take_at, take_each, objects_taken, wait_granted, satisfied, is_due}

-- ---- the law of taking, for lists of objects

pub unready_taken : (objects : List Object) (t h u k : ℕ) → is_ready objects u k ≡ false → is_ready (take_at objects t h) u k ≡ false
unready_taken [] t h u k e = refl
unready_taken (o ∷ os) t zero u zero e = unsignaled_taken o t u e
unready_taken (o ∷ os) t zero u (suc k) e = e
unready_taken (o ∷ os) t (suc h) u zero e = e
unready_taken (o ∷ os) t (suc h) u (suc k) e = unready_taken os t h u k e

unready_taken_each : (objects : List Object) (t : ℕ) (hs : List ℕ) (u k : ℕ) → is_ready objects u k ≡ false → is_ready (take_each objects t hs) u k ≡ false
unready_taken_each objects t [] u k e = e
unready_taken_each objects t (h ∷ hs) u k e = unready_taken_each (take_at objects t h) t hs u k (unready_taken objects t h u k e)

pub unready_after : (objects : List Object) (t : ℕ) (w : Wait) (u k : ℕ) → is_ready objects u k ≡ false → is_ready (objects_taken objects t w) u k ≡ false
unready_after objects t w u k e = go w.all
  where
    go : (all : Bool) → is_ready (cond all (take_each objects t w.objects) (take_at objects t (slice_index w.objects (least objects t w)))) u k ≡ false
    go true = unready_taken_each objects t w.objects u k e
    go false = unready_taken objects t (slice_index w.objects (least objects t w)) u k e

-- ---- waits that do not fit

pub list_any_kept : {X : Type 0} (p q : X → Bool) → ((x : X) → p x ≡ false → q x ≡ false) → (xs : List X) → list_any p xs ≡ false → list_any q xs ≡ false
list_any_kept p q kept [] e = refl
list_any_kept p q kept (x ∷ xs) e = go (list_any_kept p q kept xs) (p x) refl
  where
    go : (list_any p xs ≡ false → list_any q xs ≡ false) → (b : Bool) → p x ≡ b → (q x || list_any q xs) ≡ false
    go rest true is = let h : true ≡ false = rw is at e in (cc)
    go rest false is = let h : list_any p xs ≡ false = rw is at e in rw (kept x is) (rest h)

pub list_all_kept : {X : Type 0} (p q : X → Bool) → ((x : X) → p x ≡ false → q x ≡ false) → (xs : List X) → list_all p xs ≡ false → list_all q xs ≡ false
list_all_kept p q kept [] e = e
list_all_kept p q kept (x ∷ xs) e = go (list_all_kept p q kept xs) (p x) refl
  where
    both_false : (b : Bool) → (b && false) ≡ false
    both_false true = refl
    both_false false = refl

    go : (list_all p xs ≡ false → list_all q xs ≡ false) → (b : Bool) → p x ≡ b → (q x && list_all q xs) ≡ false
    go rest true is = let h : list_all p xs ≡ false = rw is at e in rw (rest h) (both_false (q x))
    go rest false is = rw (kept x is) refl

-- where fewer objects are ready, no more waits fit
pub fits_kept : (old new : List Object) (u : ℕ) (w : Wait) → ((k : ℕ) → is_ready old u k ≡ false → is_ready new u k ≡ false) → fits old u w ≡ false → fits new u w ≡ false
fits_kept old new u w kept e = go w.all e
  where
    sleeps : (b : Bool) → (not b && list_all (is_ready old u) w.objects) ≡ false → (not b && list_all (is_ready new u) w.objects) ≡ false
    sleeps true e = refl
    sleeps false e = list_all_kept (is_ready old u) (is_ready new u) kept w.objects e

    go : (all : Bool) → cond all (not (is_sleep w) && list_all (is_ready old u) w.objects) (list_any (is_ready old u) w.objects) ≡ false → cond all (not (is_sleep w) && list_all (is_ready new u) w.objects) (list_any (is_ready new u) w.objects) ≡ false
    go true e = sleeps (is_sleep w) e
    go false e = list_any_kept (is_ready old u) (is_ready new u) kept w.objects e

-- ---- grants

pub get_granted : (m : Pending) (t u : ℕ) → map.get (map.remove m t) u ≡ cond (eq_by_cmp nat_cmp u t) None (map.get m u)
get_granted m t u = map.get-remove nat_cmp_total m t u

-- who waits for nothing that fits does not after another's grant
pub undue_granted : (s : State) (t : ℕ) (w : Wait) (u : ℕ) → is_due s u ≡ false → is_due (wait_granted s t w) u ≡ false
undue_granted s t w u e =
    rw (get_granted s.waits t u) (go (eq_by_cmp nat_cmp u t) (map.get s.waits u) e)
  where
    go : (b : Bool) (o : Option Wait) → satisfied s.objects u o ≡ false → satisfied (objects_taken s.objects t w) u (cond b None o) ≡ false
    go true o e = refl
    go false None e = refl
    go false (Some v) e = fits_kept s.objects (objects_taken s.objects t w) u v (λ k. unready_after s.objects t w u k) e

-- who does not pend does not after a grant
pub idle_granted : (s : State) (t : ℕ) (w : Wait) (u : ℕ) → pends s u ≡ false → pends (wait_granted s t w) u ≡ false
idle_granted s t w u e = rw (get_granted s.waits t u) (go (eq_by_cmp nat_cmp u t))
  where
    go : (b : Bool) → is_some (cond b None (map.get s.waits u)) ≡ false
    go true = refl
    go false = e

-- who does not pend is not due
pub undue_idle : (s : State) (u : ℕ) → pends s u ≡ false → is_due s u ≡ false
undue_idle s u e = go (map.get s.waits u) e
  where
    go : (o : Option Wait) → is_some o ≡ false → satisfied s.objects u o ≡ false
    go None e = refl
    go (Some w) e = let h : true ≡ false = e in (cc)
