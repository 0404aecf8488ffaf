-- One object number more, of an object that is gone, leaves a dispatcher lawful.
use Rattle.std.proofs.Common.{◌≡◌, ◌≢◌, ℕ, zero, suc, ◌+◌, ◌<◌, ◌≤◌, Bool, true, false, not, ◌&&◌, ◌||◌, List, [], ◌∷◌, ◌++◌, length, length-append, refl, sym, ap, ◌∙◌, subst, arith, Option, Some, None, inl, inr}
use Rattle.std.specs.Prelude.{nat_lt, nat_le, Result, Ok, Err, IfOk, IfErr, OnOk, OnErr, if◌then◌else◌}
use Rattle.std.proofs.lemmas.Bool.{cases_eq}
use Rattle.std.proofs.lemmas.Bool.Decides.{nat_tests}
use Rattle.nt_status.proofs.Lists.{contains_none}
use Rattle.nt_status.specs.declared.refusal.Refusal.{Refusal}
use Rattle.nt_status.specs.declared.refusal.Refusal.TheVariants.{HandleLimit, Memory}
use Rattle.nt_objects.specs.declared.object.Object.{Object}
use Rattle.nt_objects.specs.declared.object.Object.TheVariants.{Gone}
use Rattle.nt_objects.specs.Object.{is_gone, has_ended}
use Rattle.nt_apc.specs.Queues.{KeepsPlaces, place_of, is_queued}
use Rattle.nt_calls.specs.State.{State, object_at}
use Rattle.nt_calls.specs.Living.{is_opened, is_awaited, runs, is_kept, lives, LivesWhileKept}
use Rattle.nt_machine.specs.Dispatcher.{Dispatcher, state, with_object_added}
use Rattle.nt_machine.specs.Lawful.{IsMachineSound, IsSteady, HandlesAgree, MarksAgreeBut}
use Rattle.nt_machine.specs.Accepts.{IsFresh}
use Rattle.nt_core.specs.Renewals.{AddsVacant, is_vacant}
use Rattle.nt_machine.proofs.Changing.{object_at-append, sound_longer, served_unchanged, due_kept}
use Rattle.nt_machine.proofs.Replacing.{created_only, due_created}
use Rattle.nt_machine.proofs.Marking.{mark_created}
use Rattle.nt_machine.proofs.Remaining.{and_not}
use Rattle.nt_core.proofs.Renewing.{never_forgotten, not_queued}

-- ---- the objects

other_number : (os : List Object) (o : Object) (k : ℕ) → k ≢ length os → object_at (os ++ o ∷ []) k ≡ object_at os k
other_number [] o zero differs = absurd (differs refl)
other_number [] o (suc k) differs = refl
other_number (x ∷ os) o zero differs = refl
other_number (x ∷ os) o (suc k) differs = other_number os o k (λ same. differs (ap suc same))

last_number : (os : List Object) (o : Object) → object_at (os ++ o ∷ []) (length os) ≡ o
last_number [] o = refl
last_number (x ∷ os) o = last_number os o

below_one_more : (k n m : ℕ) → m ≡ n + 1 → k ≢ n → nat_lt k m ≡ nat_lt k n
below_one_more k n m more differs = go (nat_lt k n) refl
  where
    go : (b : Bool) → nat_lt k n ≡ b → nat_lt k m ≡ nat_lt k n
    go true e =
        let below : k < n = grind (arith, nat_tests, e) in
        let less : k < m = omega (arith, below, more) in
        let is : nat_lt k m ≡ true = grind (arith, nat_tests, less) in
        is ∙ sym e
    go false e =
        let above : n ≤ k = grind (arith, nat_tests, e) in
        let most : m ≤ k = omega (arith, above, more, differs) in
        let is : nat_lt k m ≡ false = grind (arith, nat_tests, most) in
        is ∙ sym e

-- each thread has an object, gone or not
threads_first : (d : Dispatcher) → IsMachineSound d → d.threads ≤ length d.objects
threads_first d sound = go (nat_lt (length d.objects) d.threads) refl
  where
    go : (b : Bool) → nat_lt (length d.objects) d.threads ≡ b → d.threads ≤ length d.objects
    go true e =
        let below : length d.objects < d.threads = grind (arith, nat_tests, e) in
        let own = (sound.own (length d.objects) below).0 in
        absurd (omega (arith, own))
    go false e = grind (arith, nat_tests, e)

-- ---- what keeps objects

runs_same : (d : Dispatcher) (owned : List (List ℕ)) → IsMachineSound d → (k : ℕ) → runs (state (with_object_added d Gone owned)) k ≡ runs (state d) k
runs_same d owned sound k = elim (cases_eq k (length d.objects)) [
  | inl same ↦
      let first = threads_first d sound in
      let beyond : d.threads ≤ k = omega (arith, first, same) in
      let none : nat_lt k d.threads ≡ false = grind (arith, nat_tests, beyond) in
      ap (λ b. b && not (has_ended (object_at (d.objects ++ Gone ∷ []) k))) none ∙ sym (ap (λ b. b && not (has_ended (object_at d.objects k))) none)
  | inr differs ↦ ap (λ y. nat_lt k d.threads && not (has_ended y)) (other_number d.objects Gone k differs)
]

kept_same : (d : Dispatcher) (owned : List (List ℕ)) → IsMachineSound d → (k : ℕ) → is_kept (state (with_object_added d Gone owned)) k ≡ is_kept (state d) k
kept_same d owned sound k = ap (λ b. is_opened (state d) k || (is_awaited (state d) k || b)) (runs_same d owned sound k)

pub living_vacant : (d : Dispatcher) (owned : List (List ℕ)) → IsMachineSound d → LivesWhileKept (state d) → LivesWhileKept (state (with_object_added d Gone owned))
living_vacant d owned sound living k = elim (cases_eq k (length d.objects)) [
  | inl same ↦ gone_here same ∙ sym (kept_same d owned sound k ∙ (sym (living k) ∙ not_there same))
  | inr differs ↦
      ap (λ b. b && not (is_gone (object_at (d.objects ++ Gone ∷ []) k))) (below_one_more k (length d.objects) (length (d.objects ++ Gone ∷ [])) (length-append d.objects (Gone ∷ [])) differs)
      ∙ (ap (λ y. nat_lt k (length d.objects) && not (is_gone y)) (other_number d.objects Gone k differs)
      ∙ (living k ∙ sym (kept_same d owned sound k)))
]
  where
    gone_here : k ≡ length d.objects → lives (state (with_object_added d Gone owned)) k ≡ false
    gone_here same =
        ap (λ (i : ℕ). nat_lt k (length (d.objects ++ Gone ∷ [])) && not (is_gone (object_at (d.objects ++ Gone ∷ []) i))) same
        ∙ (ap (λ y. nat_lt k (length (d.objects ++ Gone ∷ [])) && not (is_gone y)) (last_number d.objects Gone)
        ∙ and_not (nat_lt k (length (d.objects ++ Gone ∷ []))))

    not_there : k ≡ length d.objects → lives (state d) k ≡ false
    not_there same =
        let none : nat_lt k (length d.objects) ≡ false = grind (arith, nat_tests, same) in
        ap (λ b. b && not (is_gone (object_at d.objects k))) none

pub steady_vacant : (d : Dispatcher) (owned : List (List ℕ)) → IsSteady d → LivesWhileKept (state d) → length d.objects < length d.handles → IsSteady (with_object_added d Gone owned)
steady_vacant d owned steady living room = record {
  sound = sound_longer d Gone owned d.handles sound tt refl refl agree marks;
  settled = record {
    served = served_unchanged d (d.objects ++ Gone ∷ []) sound steady.settled.served (created_only d.objects Gone);
    alerted = steady.settled.alerted;
    passed = due_kept (state d) (state new) d.now (λ k. due_created d.objects Gone k refl) refl steady.settled.passed;
  };
  unmarked = record { changed = λ place at. steady.unmarked.changed place (sym (mark_created d.marked.changed place) ∙ at); alerted = steady.unmarked.alerted };
}
  where
    new : Dispatcher
    new = with_object_added d Gone owned

    sound : IsMachineSound d
    sound = steady.sound

    longer : length (d.objects ++ Gone ∷ []) ≡ length d.objects + 1
    longer = length-append d.objects (Gone ∷ [])

    agree : HandlesAgree (length (d.objects ++ Gone ∷ [])) d.handles
    agree = record {
      few = sound.handles.few;
      enough = omega (arith, longer, room);
      named = λ h opened is. let below = sound.handles.named h opened is in omega (arith, below, longer);
    }

    marks : MarksAgreeBut [] new
    marks = record {
      living = λ h opened is. ap is_gone (object_at-append d.objects (Gone ∷ []) opened.object (sound.handles.named h opened is)) ∙ sound.marks.living h opened is;
      count = let places = length-append d.leaving (false ∷ []) in let before = sound.marks.count in omega (arith, longer, places, before);
      marked = λ k is. absurd (never_forgotten (state new) k (living_vacant d owned sound living) is);
      known = λ k m. absurd (contains_none k m);
    }

-- ---- what is answered

-- memory is refused and nothing changed, or there is one number more
pub added_vacant : (old : State) (mid new : Dispatcher) (result : Result ℕ Refusal) → state mid ≡ old → IsFresh mid → length mid.objects < length mid.handles → IfOk result (λ number. number ≡ length mid.objects) → OnOk result (new ≡ with_object_added mid Gone new.owned) → IfErr result (λ cause. cause ≡ Memory) → OnErr result (new ≡ mid) → AddsVacant old result new.grants (state new)
added_vacant old mid new result same fresh room number becomes memory stays = subst (λ (s : State). AddsVacant s result new.grants (state new)) same (go result number becomes memory stays)
  where
    less : nat_lt (length mid.objects) (length mid.handles) ≡ true
    less = grind (arith, nat_tests, room)

    go : (r : Result ℕ Refusal) → IfOk r (λ n. n ≡ length mid.objects) → OnOk r (new ≡ with_object_added mid Gone new.owned) → IfErr r (λ cause. cause ≡ Memory) → OnErr r (new ≡ mid) → AddsVacant (state mid) r new.grants (state new)
    go (Ok n) is ok none err = (less, is, ap (λ (d : Dispatcher). d.grants) ok ∙ fresh.no_grants, ap (λ (d : Dispatcher). state d) ok)
    go (Err cause) is ok memory err = (memory ∙ sym (ap (λ b. if b then Memory else HandleLimit) less), ap (λ (d : Dispatcher). d.grants) err ∙ fresh.no_grants, ap (λ (d : Dispatcher). state d) err)

-- what holds of both holds of what it becomes
pub either_vacant : (P : Dispatcher → Type 0) (mid new : Dispatcher) (result : Result ℕ Refusal) → OnOk result (new ≡ with_object_added mid Gone new.owned) → OnErr result (new ≡ mid) → P (with_object_added mid Gone new.owned) → P mid → P new
either_vacant P mid new (Ok n) ok err longer before = subst P (sym ok) longer
either_vacant P mid new (Err cause) ok err longer before = subst P (sym err) before

-- ---- the number that there is more

-- no timer has that number yet
pub unplaced : (d : Dispatcher) → IsMachineSound d → place_of d.apcs.places (length d.objects) ≡ None
unplaced d sound = go (place_of d.apcs.places (length d.objects)) refl
  where
    go : (place : Option ℕ) → place_of d.apcs.places (length d.objects) ≡ place → place_of d.apcs.places (length d.objects) ≡ None
    go None at = at
    go (Some t) at = let known = sound.timers.known (length d.objects) t at in absurd (omega (arith, known))

last_vacant : (d : Dispatcher) (owned : List (List ℕ)) → IsMachineSound d → KeepsPlaces d.apcs → is_vacant (state (with_object_added d Gone owned)) (length d.objects) ≡ true
last_vacant d owned sound keeps =
    let first = threads_first d sound in
    let longer = length-append d.objects (Gone ∷ []) in
    let beyond : nat_le d.threads (length d.objects) ≡ true = grind (arith, nat_tests, first) in
    let there : nat_lt (length d.objects) (length (d.objects ++ Gone ∷ [])) ≡ true = grind (arith, nat_tests, longer) in
    let quiet = not_queued d.apcs (length d.objects) keeps (unplaced d sound) in
    ap (λ b. b && (nat_lt (length d.objects) (length (d.objects ++ Gone ∷ [])) && (is_gone (object_at (d.objects ++ Gone ∷ []) (length d.objects)) && not (is_queued d.apcs.queues (length d.objects))))) beyond
    ∙ (ap (λ b. b && (is_gone (object_at (d.objects ++ Gone ∷ []) (length d.objects)) && not (is_queued d.apcs.queues (length d.objects)))) there
    ∙ (ap (λ x. is_gone x && not (is_queued d.apcs.queues (length d.objects))) (last_number d.objects Gone)
    ∙ ap not quiet))

-- the number that there is more is vacant: no timer had it, so no APC of one is queued
pub vacant_added : (mid new : Dispatcher) (result : Result ℕ Refusal) → IsMachineSound mid → KeepsPlaces mid.apcs → IfOk result (λ n. n ≡ length mid.objects) → OnOk result (new ≡ with_object_added mid Gone new.owned) → IfOk result (λ n. is_vacant (state new) n ≡ true)
vacant_added mid new (Err cause) sound keeps number ok = tt
vacant_added mid new (Ok n) sound keeps number ok =
    subst (λ (k : ℕ). is_vacant (state new) k ≡ true) (sym number)
    (subst (λ (d : Dispatcher). is_vacant (state d) (length mid.objects) ≡ true) (sym ok) (last_vacant mid new.owned sound keeps))
