-- One object was exchanged for another that satisfies more waits, where it stands; what the serving after it is told, and tells.
use Rattle.std.proofs.Common.{◌≡◌, ◌≢◌, ◌<◌, ◌≤◌, ℕ, Bool, true, false, [], ◌∷◌, length, set, refl, sym, ap, ◌∙◌, subst, List}
use Rattle.std.proofs.Common.{arith}
use Rattle.std.specs.Prelude.{not, ℤ, pos, ◌<ℤ◌}
use Rattle.std.proofs.lemmas.Int.{ints}
use Rattle.std.proofs.lemmas.Bool.{false≢true}
use Rattle.nt_objects.specs.declared.object.Object.{Object}
use Rattle.nt_objects.specs.Object.{is_event, is_semaphore, owned_by, signaled, with_set, released, overflows, unlocked}
use Rattle.nt_objects.proofs.Lawful.{lawful_released, lawful_unlocked}
use Rattle.nt_calls.specs.State.{object_at, with_object}
use Rattle.nt_machine.specs.Dispatcher.{Dispatcher, state}
use Rattle.nt_calls.specs.Change.{at}
use Rattle.nt_calls.specs.Serving.{sequence, Serve}
use Rattle.nt_machine.specs.Visits.{FitOnlyBy, FitOnlyIn}
use Rattle.nt_machine.specs.Lawful.{IsMachineSound, MayReplace, IsUnmarked}
use Rattle.nt_machine.specs.Accepts.{IsFresh, IsServedAfter}
use Rattle.nt_machine.proofs.Changing.{sound_replaced}
use Rattle.nt_machine.proofs.Stopping.{by_replaced}
use Rattle.nt_machine.proofs.Replacing.{replaced_fit, replaced_served, set_differs, raised_same, raised_idle, released_may_replace, unlocked_may_replace}

-- between the change and the serving: the object at h is o, and an owner's list may differ
abbrev pub IsExchanged : Dispatcher → ℕ → Object → Dispatcher → Type 0
IsExchanged old h o mid = mid ≡ record old { objects = set old.objects h o; owned = mid.owned }

-- the lists are as before where the object has no owner, now or before
pub exchanged_alone : (old mid : Dispatcher) (h : ℕ) (o : Object) → mid ≡ record old { objects = set old.objects h o } → IsExchanged old h o mid
exchanged_alone old mid h o is = is ∙ (λ i. record old { objects = set old.objects h o; owned = ap (λ (x : Dispatcher). x.owned) (sym is) i })

-- the object was changed in the list that the dispatcher keeps
pub exchanged_in : (v old : Dispatcher) (h : ℕ) (change : Object → Object) (items : List Object) (owned : List (List ℕ)) → v ≡ old → items ≡ set v.objects h (change (object_at v.objects h)) → IsExchanged old h (change (object_at old.objects h)) (record v { objects = items; owned = owned })
exchanged_in v old h change items owned same is =
    ap (λ (os : List Object). record v { objects = os; owned = owned }) is
    ∙ ap (λ (x : Dispatcher). record x { objects = set x.objects h (change (object_at x.objects h)); owned = owned }) same

-- and the lists of the owners are as they were
pub exchanged_whole : (v old : Dispatcher) (h : ℕ) (change : Object → Object) (items : List Object) (owned : List (List ℕ)) → v ≡ old → items ≡ set v.objects h (change (object_at v.objects h)) → owned ≡ v.owned → record v { objects = items; owned = owned } ≡ record old { objects = set old.objects h (change (object_at old.objects h)) }
exchanged_whole v old h change items owned same is lists =
    (λ i. record v { objects = is i; owned = lists i })
    ∙ ap (λ (x : Dispatcher). record x { objects = set x.objects h (change (object_at x.objects h)) }) same

pub exchanged_sound : (old mid : Dispatcher) (h : ℕ) (o : Object) → IsFresh old → MayReplace (object_at old.objects h) o → IsExchanged old h o mid → IsMachineSound mid
exchanged_sound old mid h o fresh may is = subst IsMachineSound (sym is) (sound_replaced old h o mid.owned fresh.steady.sound may)

pub exchanged_fit : (old mid : Dispatcher) (h : ℕ) (o : Object) → IsFresh old → IsExchanged old h o mid → FitOnlyIn (sequence (state mid) (h ∷ [])) (state mid)
exchanged_fit old mid h o fresh is = subst (λ (x : Dispatcher). FitOnlyIn (sequence (state x) (h ∷ [])) (state x)) (sym is) (replaced_fit old h o fresh.steady)

pub exchanged_needed : (old mid : Dispatcher) (h : ℕ) (o : Object) → IsFresh old → MayReplace (object_at old.objects h) o → IsExchanged old h o mid → FitOnlyBy h (state mid)
exchanged_needed old mid h o fresh may is = subst (λ (x : Dispatcher). FitOnlyBy h (state x)) (sym is) (by_replaced (state old) h o fresh.steady.settled.served may.owner)

pub exchanged_served : (old mid new : Dispatcher) (h : ℕ) (o : Object) → IsFresh old → h < length old.objects → o ≢ object_at old.objects h → IsExchanged old h o mid → Serve (sequence (state mid) (h ∷ [])) (state mid) new.grants (state new) → IsMachineSound new → new.table.looked ≤ length (sequence (state mid) (h ∷ [])) → length new.grants ≤ new.table.looked → new.marked ≡ mid.marked → IsServedAfter old (at (state old) h (λ _. o)) new
exchanged_served old mid new h o fresh known differs is serve sound most least marked =
    replaced_served old new h o known differs
    (subst (λ (x : Dispatcher). Serve (sequence (state x) (h ∷ [])) (state x) new.grants (state new)) is serve)
    sound
    (subst (λ (x : Dispatcher). new.table.looked ≤ length (sequence (state x) (h ∷ []))) is most)
    least
    (subst IsUnmarked (sym (marked ∙ ap (λ (x : Dispatcher). x.marked) is)) fresh.steady.unmarked)

-- ---- events: what setting one answered

is_false : (b : Bool) → not b ≡ true → b ≡ false
is_false false e = refl
is_false true e = absurd (false≢true e)

is_true : (b : Bool) → not b ≡ false → b ≡ true
is_true true e = refl
is_true false e = absurd (false≢true (sym e))

-- it was not set before
pub raised_differs : (o : Object) (changes : Bool) → is_event o ≡ true → ((t : ℕ) → changes ≡ not (signaled o t)) → changes ≡ true → with_set true o ≢ o
raised_differs o changes is answer was = set_differs o 0 is (is_false (signaled o 0) (sym (answer 0) ∙ was))

-- it was, and nothing changed
pub raised_already : (old mid : Dispatcher) (h : ℕ) (changes : Bool) → is_event (object_at old.objects h) ≡ true → ((t : ℕ) → changes ≡ not (signaled (object_at old.objects h) t)) → changes ≡ false → mid ≡ record old { objects = with_object old.objects h (with_set true) } → IsFresh old → IsServedAfter old (at (state old) h (with_set true)) mid
raised_already old mid h changes is answer idle becomes fresh =
    let was : signaled (object_at old.objects h) 0 ≡ true = is_true (signaled (object_at old.objects h) 0) (sym (answer 0) ∙ idle) in
    let same : mid ≡ old = becomes ∙ (λ i. record old { objects = raised_same old.objects 0 h is was i }) in
    subst (λ (x : Dispatcher). IsServedAfter old (at (state old) h (with_set true)) x) (sym same) (raised_idle old 0 h fresh is was)

-- ---- semaphores and mutexes: what they become may stand in their place

pub may_count_more : (d : Dispatcher) (h : ℕ) (n : ℤ) → IsFresh d → is_semaphore (object_at d.objects h) ≡ true → pos 0 <ℤ n → overflows n (object_at d.objects h) ≡ false → MayReplace (object_at d.objects h) (released n (object_at d.objects h))
may_count_more d h n fresh is positive within =
    released_may_replace n (object_at d.objects h) is (lawful_released n (object_at d.objects h) (omega (arith, ints, positive)) within (fresh.steady.sound.objects h))

pub may_unlock : (d : Dispatcher) (h t : ℕ) → IsFresh d → owned_by (object_at d.objects h) t ≡ true → MayReplace (object_at d.objects h) (unlocked (object_at d.objects h))
may_unlock d h t fresh owns =
    let lawful = fresh.steady.sound.objects h in
    unlocked_may_replace (object_at d.objects h) t owns lawful (lawful_unlocked (object_at d.objects h) lawful)
