-- How many objects there are: only creations change it.
use Rattle.std.proofs.Common.{◌≡◌, ℕ, Bool, true, false, cond, List, [], ◌∷◌, length, refl, ap, ◌∙◌}
use Rattle.std.proofs.lemmas.List.{length-set}
use Rattle.std.specs.Prelude.{slice_index}
use Rattle.nt_waits.specs.declared.wait.Wait.{Wait}
use Rattle.nt_objects.specs.declared.object.Object.{Object}
use Rattle.nt_objects.specs.Object.{taken, with_set, armed_with, setting_of, rearmed}
use Rattle.nt_calls.specs.declared.call.Grant.{Grant}
use Rattle.nt_calls.specs.State.{State, object_at}
use Rattle.nt_calls.specs.Serving.{least, take_at, take_each, objects_taken, wait_granted, Grants}
use Rattle.nt_calls.specs.Change.{expired_as, expired, all_expired}
use Rattle.std.specs.Prelude.{Option, Some, None}
use Rattle.nt_objects.specs.declared.object.Armed.{Armed}

length_taken_each : (t : ℕ) (hs : List ℕ) (os : List Object) → length (take_each os t hs) ≡ length os
length_taken_each t [] os = refl
length_taken_each t (h ∷ hs) os = length_taken_each t hs (take_at os t h) ∙ length-set os h (taken (object_at os h) t)

pub length_taken : (os : List Object) (t : ℕ) (w : Wait) → length (objects_taken os t w) ≡ length os
length_taken os t w = go w.all
  where
    go : (all : Bool) → length (cond all (take_each os t w.objects) (take_at os t (slice_index w.objects (least os t w)))) ≡ length os
    go true = length_taken_each t w.objects os
    go false = length-set os (slice_index w.objects (least os t w)) (taken (object_at os (slice_index w.objects (least os t w))) t)

pub Grants_length : (threads : List ℕ) (s new : State) (gs : List Grant) → Grants threads s gs new → length new.objects ≡ length s.objects
Grants_length threads s new [] is = ap (λ (x : State). length x.objects) is
Grants_length threads s new (g ∷ gs) has = Grants_length threads (wait_granted s g.thread has.1) new gs has.3 ∙ length_taken s.objects g.thread has.1

-- ---- ticks

length_expired_as : (s : State) (v timer : ℕ) (setting : Option Armed) → length (expired_as s v timer setting).objects ≡ length s.objects
length_expired_as s v timer None = refl
length_expired_as s v timer (Some armed) = length-set s.objects timer (armed_with (rearmed v armed) (with_set true (object_at s.objects timer)))

pub length_expired : (s : State) (v : ℕ) (timers : List ℕ) → length (all_expired v s timers).objects ≡ length s.objects
length_expired s v [] = refl
length_expired s v (timer ∷ timers) = length_expired (expired v s timer) v timers ∙ length_expired_as s v timer (setting_of (object_at s.objects timer))
