-- What was tried, from what each way of waiting does.
use Rattle.std.proofs.Common.{◌≡◌, ◌≢◌, ℕ, zero, suc, ◌++◌, ◌<◌, true, false, List, [], ◌∷◌, length, get_or, refl, sym, ap, ◌∙◌, Some}
use Rattle.std.specs.List.{list_any, IsDistinct}
use Rattle.std.specs.Prelude.{nat_eq}
use Rattle.std.proofs.lemmas.Bool.{eq-eqb, false≢true}
use Rattle.std.proofs.lemmas.Map.Keys.{apart_from_distinct}
use Rattle.nt_waits.specs.declared.wait.Wait.{Wait}
use Rattle.nt_objects.specs.declared.object.Object.{Object}
use Rattle.nt_objects.specs.Object.{signaled}
use Rattle.nt_calls.specs.State.{object_at}
use Rattle.nt_calls.specs.Serving.{is_ready, is_abandoned_at, least, status, status_at, take_at, take_each, IsTried}

pub tried_any : (old new : List Object) (t : ℕ) (w : Wait) (ended : ℕ) → w.all ≡ false → list_any (is_ready old t) w.objects ≡ true → ended ≡ status_at (is_abandoned_at old (get_or w.objects (least old t w) 0)) (least old t w) → new ≡ take_at old t (get_or w.objects (least old t w) 0) → IsTried old new t w (Some ended)
tried_any old new t w ended any ready status taken = (rw any ready, status ∙ rw any refl, taken ∙ rw any refl)

-- ---- taking one after another

pub take_each_more : (objects : List Object) (t : ℕ) (hs : List ℕ) (h : ℕ) → take_each objects t (hs ++ h ∷ []) ≡ take_at (take_each objects t hs) t h
take_each_more objects t [] h = refl
take_each_more objects t (k ∷ hs) h = take_each_more (take_at objects t k) t hs h

object_other : (objects : List Object) (t h k : ℕ) → k ≢ h → object_at (take_at objects t h) k ≡ object_at objects k
object_other [] t h k differs = refl
object_other (o ∷ os) t zero zero differs = absurd (differs refl)
object_other (o ∷ os) t zero (suc k) differs = refl
object_other (o ∷ os) t (suc h) zero differs = refl
object_other (o ∷ os) t (suc h) (suc k) differs = object_other os t h k (λ e. differs (ap suc e))

pub ready_other : (objects : List Object) (t h k : ℕ) → k ≢ h → is_ready (take_at objects t h) t k ≡ is_ready objects t k
ready_other objects t h k differs = ap (λ o. signaled o t) (object_other objects t h k differs)

pub object_taken_other : (objects : List Object) (t h k : ℕ) → k ≢ h → object_at (take_at objects t h) k ≡ object_at objects k
object_taken_other objects t h k differs = object_other objects t h k differs

-- distinct numbers differ at any two places
pub differ : (numbers : List ℕ) (i j : ℕ) → IsDistinct nat_eq numbers → i < j → j < length numbers → get_or numbers i 0 ≢ get_or numbers j 0
differ numbers i j distinct before within same = false≢true (sym (apart_from_distinct nat_eq numbers i j 0 distinct before within) ∙ eq-eqb _ _ same)
