-- A thread that ends: its timers are stopped and marked.
use Rattle.std.proofs.Common.{◌≡◌, ◌≢◌, ◌<◌, ℕ, true, List, [], ◌∷◌, ◌++◌, length, set, refl, sym, ap, ◌∙◌, subst, Option, Some, None, inl, inr, ◌⊎◌, Bool, false}
use Rattle.std.specs.Prelude.{Contains, ◌↔◌}
use Rattle.std.proofs.lemmas.Bool.{cases_eq}
use Rattle.std.proofs.lemmas.List.{length-set, get_or-set_other}
use Rattle.std.proofs.lemmas.List.Elements.{Contains-push_cases, Contains-append_left, Contains-append_right}
use Rattle.nt_status.proofs.Lists.{contains_first, contains_or_not}
use Rattle.nt_objects.specs.declared.object.Object.{Object}
use Rattle.nt_objects.specs.declared.object.Object.TheVariants.{Event, Semaphore, Mutex, Timer, Thread, Gone}
use Rattle.nt_objects.specs.Object.{is_timer, setter_of, due_of, armed_with}
use Rattle.nt_marks.specs.Marks.{is_marked, AddsMarks}
use Rattle.nt_apc.specs.Queues.{place_of}
use Rattle.nt_calls.specs.State.{object_at}
use Rattle.nt_machine.specs.Dispatcher.{Dispatcher}
use Rattle.nt_machine.specs.Lawful.{IsMachineSound}
use Rattle.nt_machine.specs.Accepts.{IsSetBy, IsSetAmong, AreStopped}
use Rattle.nt_machine.proofs.Changing.{object_at-set_same, object_at-set_other}
use Rattle.nt_machine.proofs.Timing.{known_timer, retimed_sound}
use Rattle.nt_machine.proofs.Places.{adds_as, set_mark, set_kept}

-- ---- timers that a thread armed with a routine

pub setter_timer : (o : Object) (t : ℕ) → setter_of o ≡ Some t → is_timer o ≡ true
setter_timer (Event manual was) t sets = let h : None ≡ Some t = sets in (cc)
setter_timer (Semaphore count maximum) t sets = let h : None ≡ Some t = sets in (cc)
setter_timer (Mutex owner depth abandoned) t sets = let h : None ≡ Some t = sets in (cc)
setter_timer (Timer manual was armed) t sets = refl
setter_timer (Thread ended) t sets = let h : None ≡ Some t = sets in (cc)
setter_timer Gone t sets = let h : None ≡ Some t = sets in (cc)

pub set_timer_known : (os : List Object) (t h : ℕ) → IsSetBy os t h → h < length os
set_timer_known os t h sets = known_timer os h (setter_timer (object_at os h) t sets)

-- whether the thread armed the timer with a routine
pub setter_or_not : (o : Object) (t : ℕ) → (setter_of o ≡ Some t) ⊎ (setter_of o ≡ Some t → ⊥)
setter_or_not o t = go (setter_of o)
  where
    inside : (k : ℕ) → Some k ≡ Some t → k ≡ t
    inside k e = (cc)

    go : (setter : Option ℕ) → (setter ≡ Some t) ⊎ (setter ≡ Some t → ⊥)
    go None = inr (λ e. let h : None ≡ Some t = e in (cc))
    go (Some k) = elim (cases_eq k t) [
      | inl same ↦ inl (ap Some same)
      | inr differs ↦ inr (λ e. differs (inside k e))
    ]

pub due_stopped : (o : Object) → due_of (armed_with None o) ≡ None
due_stopped (Event manual was) = refl
due_stopped (Semaphore count maximum) = refl
due_stopped (Mutex owner depth abandoned) = refl
due_stopped (Timer manual was armed) = refl
due_stopped (Thread ended) = refl
due_stopped Gone = refl

-- ---- timers are stopped

stopped_stays : (o : Object) → is_timer (armed_with None o) ≡ is_timer o
stopped_stays (Event manual was) = refl
stopped_stays (Semaphore count maximum) = refl
stopped_stays (Mutex owner depth abandoned) = refl
stopped_stays (Timer manual was armed) = refl
stopped_stays (Thread ended) = refl
stopped_stays Gone = refl

pub stopped_unset : (o : Object) (t : ℕ) {P : Type 0} → setter_of (armed_with None o) ≡ Some t → P
stopped_unset (Event manual was) t sets = let h : None ≡ Some t = sets in (cc)
stopped_unset (Semaphore count maximum) t sets = let h : None ≡ Some t = sets in (cc)
stopped_unset (Mutex owner depth abandoned) t sets = let h : None ≡ Some t = sets in (cc)
stopped_unset (Timer manual was armed) t sets = let h : None ≡ Some t = sets in (cc)
stopped_unset (Thread ended) t sets = let h : None ≡ Some t = sets in (cc)
stopped_unset Gone t sets = let h : None ≡ Some t = sets in (cc)

-- the dispatcher once the timer at h is stopped
abbrev pub stopped_at : Dispatcher → ℕ → Dispatcher
stopped_at d h = record d { objects = set d.objects h (armed_with None (object_at d.objects h)); alarms = set d.alarms h (due_of (armed_with None (object_at d.objects h))) }

pub stopped_sound : (d : Dispatcher) (h : ℕ) → IsMachineSound d → is_timer (object_at d.objects h) ≡ true → IsMachineSound (stopped_at d h)
stopped_sound d h sound is =
    retimed_sound d h (armed_with None (object_at d.objects h)) d.apcs sound is (stopped_stays (object_at d.objects h) ∙ is) refl
    (λ t sets. stopped_unset (object_at d.objects h) t sets) (λ m differs. refl)

-- those that are stopped for a property are stopped for another that says the same
pub stopped_as : (P Q : ℕ → Type 0) (old new : List Object) → ((k : ℕ) → P k ↔ Q k) → AreStopped P old new → AreStopped Q old new
stopped_as P Q old new same stops = record {
  count = stops.count;
  stopped = λ k has. stops.stopped k ((same k).1 has);
  others = λ k none. stops.others k (λ has. none ((same k).0 has));
}

-- ---- the timers of a list, one after another

-- of these timers those that the thread armed with a routine are stopped and marked, and what was sound is sound still
pub record StoppedSoFar (t : ℕ) (timers : List ℕ) (old now : List Object) (old_alarms alarms : List (Option ℕ)) (old_marks marks : List Bool) : Type 0 where
  pub stopped : AreStopped (IsSetAmong timers old t) old now
  pub marked : AddsMarks (IsSetAmong timers old t) old_marks marks
  pub clocks : length alarms ≡ length now
  pub sound : (d : Dispatcher) → IsMachineSound (record d { objects = old; alarms = old_alarms }) → IsMachineSound (record d { objects = now; alarms = alarms })

-- a timer that is the thread's now was so before, and is none of those that are stopped
set_before : (t : ℕ) (timers : List ℕ) (old now : List Object) (h : ℕ) → AreStopped (IsSetAmong timers old t) old now → IsSetBy now t h → IsSetBy old t h × (Contains timers h → ⊥)
set_before t timers old now h stops sets = (was, never was)
  where
    was : IsSetBy old t h
    was = elim (setter_or_not (object_at old h) t) [
      | inl is ↦ is
      | inr none ↦ ap setter_of (sym (stops.others h (λ has. none has.1))) ∙ sets
    ]

    never : IsSetBy old t h → Contains timers h → ⊥
    never is member = stopped_unset (object_at old h) t (ap setter_of (sym (stops.stopped h (member, is))) ∙ sets)

-- the next timer is the thread's: it is stopped and marked
pub stopped_next : (t : ℕ) (timers : List ℕ) (h : ℕ) (old now : List Object) (old_alarms alarms : List (Option ℕ)) (old_marks marks : List Bool) → IsSetBy now t h → h < length marks → StoppedSoFar t timers old now old_alarms alarms old_marks marks → StoppedSoFar t (timers ++ h ∷ []) old (set now h (armed_with None (object_at now h))) old_alarms (set alarms h None) old_marks (set marks h true)
stopped_next t timers h old now old_alarms alarms old_marks marks sets place far = record {
  stopped = record {
    count = length-set now h (armed_with None (object_at now h)) ∙ far.stopped.count;
    stopped = λ k has. stop k has (cases_eq k h);
    others = λ k none. object_at-set_other now h k (armed_with None (object_at now h)) (λ same. none (last k same)) ∙ far.stopped.others k (λ has. none (first k has));
  };
  marked = record {
    count = length-set marks h true ∙ far.marked.count;
    exactly = λ k. (λ mark. to k mark (cases_eq k h), λ has. from k has);
  };
  clocks = length-set alarms h None ∙ (far.clocks ∙ sym (length-set now h (armed_with None (object_at now h))));
  sound = λ d sound.
      subst (λ (due : Option ℕ). IsMachineSound (record d { objects = set now h (armed_with None (object_at now h)); alarms = set alarms h due })) (due_stopped (object_at now h))
      (stopped_sound (record d { objects = now; alarms = alarms }) h (far.sound d sound) (setter_timer (object_at now h) t sets));
}
  where
    before : IsSetBy old t h × (Contains timers h → ⊥)
    before = set_before t timers old now h far.stopped sets

    same_here : object_at now h ≡ object_at old h
    same_here = far.stopped.others h (λ has. before.1 has.0)

    first : (k : ℕ) → IsSetAmong timers old t k → IsSetAmong (timers ++ h ∷ []) old t k
    first k has = (Contains-append_left timers (h ∷ []) k has.0, has.1)

    last : (k : ℕ) → k ≡ h → IsSetAmong (timers ++ h ∷ []) old t k
    last k same = (Contains-append_right timers (h ∷ []) k (contains_first h [] k (sym same)), subst (λ (n : ℕ). IsSetBy old t n) (sym same) before.0)

    stop : (k : ℕ) → IsSetAmong (timers ++ h ∷ []) old t k → (k ≡ h) ⊎ (k ≢ h) → object_at (set now h (armed_with None (object_at now h))) k ≡ armed_with None (object_at old k)
    stop k has (inl same) =
        ap (λ (n : ℕ). object_at (set now h (armed_with None (object_at now h))) n) same
        ∙ (object_at-set_same now h (armed_with None (object_at now h)) (set_timer_known now t h sets)
        ∙ (ap (armed_with None) same_here ∙ ap (λ (n : ℕ). armed_with None (object_at old n)) (sym same)))
    stop k has (inr differs) = object_at-set_other now h k (armed_with None (object_at now h)) differs ∙ earlier (Contains-push_cases timers h k has.0)
      where
        earlier : Contains timers k ⊎ (h ≡ k) → object_at now k ≡ armed_with None (object_at old k)
        earlier (inl member) = far.stopped.stopped k (member, has.1)
        earlier (inr same) = absurd (differs (sym same))

    to : (k : ℕ) → is_marked (set marks h true) k ≡ true → (k ≡ h) ⊎ (k ≢ h) → (is_marked old_marks k ≡ true) ⊎ IsSetAmong (timers ++ h ∷ []) old t k
    to k mark (inl same) = inr (last k same)
    to k mark (inr differs) = elim ((far.marked.exactly k).0 (sym (get_or-set_other marks h k true false differs) ∙ mark)) [
      | inl was ↦ inl was
      | inr has ↦ inr (first k has)
    ]

    from : (k : ℕ) → (is_marked old_marks k ≡ true) ⊎ IsSetAmong (timers ++ h ∷ []) old t k → is_marked (set marks h true) k ≡ true
    from k (inl was) = set_kept marks h k ((far.marked.exactly k).1 (inl was))
    from k (inr has) = elim (Contains-push_cases timers h k has.0) [
      | inl member ↦ set_kept marks h k ((far.marked.exactly k).1 (inr (member, has.1)))
      | inr same ↦ subst (λ (n : ℕ). is_marked (set marks h true) n ≡ true) same (set_mark marks h place)
    ]

-- the next timer is not the thread's
pub stopped_not : (t : ℕ) (timers : List ℕ) (h : ℕ) (old now : List Object) (old_alarms alarms : List (Option ℕ)) (old_marks marks : List Bool) → (IsSetBy now t h → ⊥) → StoppedSoFar t timers old now old_alarms alarms old_marks marks → StoppedSoFar t (timers ++ h ∷ []) old now old_alarms alarms old_marks marks
stopped_not t timers h old now old_alarms alarms old_marks marks none far = record {
  stopped = stopped_as (IsSetAmong timers old t) (IsSetAmong (timers ++ h ∷ []) old t) old now same far.stopped;
  marked = adds_as (IsSetAmong timers old t) (IsSetAmong (timers ++ h ∷ []) old t) old_marks marks same far.marked;
  clocks = far.clocks;
  sound = far.sound;
}
  where
    among : (k : ℕ) → IsSetBy old t k → Contains timers k ⊎ (h ≡ k) → IsSetAmong timers old t k
    among k sets (inl member) = (member, sets)
    among k sets (inr last) = elim (contains_or_not timers k) [
      | inl member ↦ (member, sets)
      | inr never ↦ absurd (none (subst (λ (n : ℕ). IsSetBy now t n) (sym last) (ap setter_of (far.stopped.others k (λ has. never has.0)) ∙ sets)))
    ]

    same : (k : ℕ) → IsSetAmong timers old t k ↔ IsSetAmong (timers ++ h ∷ []) old t k
    same k = (λ has. (Contains-append_left timers (h ∷ []) k has.0, has.1), λ has. among k has.1 (Contains-push_cases timers h k has.0))

-- all that the thread armed with a routine have a place in its queue
pub set_among : (d : Dispatcher) (t : ℕ) (timers : List ℕ) → IsMachineSound d → ((m : ℕ) → Contains timers m ↔ (place_of d.apcs.places m ≡ Some t)) → (k : ℕ) → IsSetAmong timers d.objects t k ↔ IsSetBy d.objects t k
set_among d t timers sound placed k = (λ has. has.1, λ sets. ((placed k).1 (sound.timers.placed k t sets), sets))
