-- What changes where objects are changed, and what then stays true.
use Rattle.std.proofs.Common.{◌≡◌, ◌≢◌, ◌<◌, ℕ, zero, suc, Bool, true, false, not, ◌&&◌, List, [], ◌∷◌, ◌++◌, length, length-append, get_or, set, refl, sym, ap, ◌∙◌, subst, arith, Option, Some, None, inl, inr, ◌⊎◌, Contains}
use Rattle.std.specs.List.{list_any, list_all, flat_map}
use Rattle.std.specs.FinMap as fin
use Rattle.std.proofs.lemmas.Bool.{cases_eq, false≢true}
use Rattle.std.proofs.lemmas.List.{get_or-set_other, length-set}
use Rattle.nt_waits.specs.declared.wait.Wait.{Wait}
use Rattle.nt_objects.specs.declared.object.Object.{Object}
use Rattle.nt_objects.specs.declared.object.Object.TheVariants.{Event, Semaphore, Mutex, Timer, Thread, Gone}
use Rattle.nt_objects.specs.Object.{signaled, is_event, is_thread, is_gone, has_ended, has_room, owned_by, due_of, setter_of, IsLawfulObject, full_access}
use Rattle.nt_calls.specs.Rising.{AreRising}
use Rattle.nt_calls.specs.State.{State, object_at}
use Rattle.nt_machine.specs.Dispatcher.{Dispatcher, state, with_created, with_object_added}
use Rattle.nt_calls.specs.Refusals.{is_at_limit, is_full}
use Rattle.nt_calls.specs.Serving.{is_ready, fits, satisfied, is_due, IsChanged, sequence, IsServed}
use Rattle.nt_machine.specs.Visits.{FitOnlyIn}
use Rattle.nt_calls.specs.Steps.{NothingDue}
use Rattle.nt_tables.specs.declared.handles.Opened.{Opened}
use Rattle.nt_machine.specs.Lawful.{IsMachineSound, HandlesAgree, MarksAgreeBut, MayReplace}
use Rattle.nt_machine.proofs.Taking.{fits_kept}
use Rattle.nt_machine.proofs.Handling.{handles_along, handles_created}
use Rattle.nt_machine.proofs.Keeping.{timers_kept, own_kept, idle_kept, no_thread_idle}
use Rattle.nt_machine.proofs.Marking.{marks_same, marks_created}
use Rattle.nt_alarms.specs.Alarms.{alarm_at}
use Rattle.std.proofs.lemmas.Bool.Decides.{nat_tests}
use Rattle.std.proofs.lemmas.List.Elements.{Contains-append_left, Contains-append_right}
use Rattle.nt_status.proofs.Lists.{contains_none, contains_first, contains_cases}
use Rattle.nt_machine.proofs.Standings.{standings_kept}

-- ---- one object among the others

pub object_at-set_same : (os : List Object) (h : ℕ) (o : Object) → h < length os → object_at (set os h o) h ≡ o
object_at-set_same [] h o known = absurd (omega (arith, known))
object_at-set_same (x ∷ os) zero o known = refl
object_at-set_same (x ∷ os) (suc h) o known = object_at-set_same os h o (omega (arith, known))

pub object_at-set_other : (os : List Object) (h k : ℕ) (o : Object) → k ≢ h → object_at (set os h o) k ≡ object_at os k
object_at-set_other os h k o differs = get_or-set_other os h k o (Thread false) differs

pub object_at-append : (os more : List Object) (h : ℕ) → h < length os → object_at (os ++ more) h ≡ object_at os h
object_at-append [] more h known = absurd (omega (arith, known))
object_at-append (x ∷ os) more zero known = refl
object_at-append (x ∷ os) more (suc h) known = object_at-append os more h (omega (arith, known))

pub set_as_before : (os : List Object) (h : ℕ) (o : Object) → o ≡ object_at os h → set os h o ≡ os
set_as_before [] h o is = refl
set_as_before (x ∷ os) zero o is = ap (λ y. y ∷ os) is
set_as_before (x ∷ os) (suc h) o is = ap (λ ys. x ∷ ys) (set_as_before os h o is)

-- an object that is no running thread is there
pub known_object : (os : List Object) (h : ℕ) → object_at os h ≢ Thread false → h < length os
known_object [] h differs = absurd (differs refl)
known_object (x ∷ os) zero differs = omega arith
known_object (x ∷ os) (suc h) differs = let rest = known_object os h differs in omega (arith, rest)

event_is_no_thread : (o : Object) → is_event o ≡ true → o ≢ Thread false
event_is_no_thread o is e = false≢true (sym (ap is_event e) ∙ is)

pub known_event : (os : List Object) (h : ℕ) → is_event (object_at os h) ≡ true → h < length os
known_event os h is = known_object os h (event_is_no_thread (object_at os h) is)

-- ---- which objects a change alters

pub none_changed : (os : List Object) → AreRising (IsChanged os os) []
none_changed os = record { rising = tt; exactly = λ x. (λ m. absurd (contains_none x m), λ changed. absurd (changed.1 refl)) }

pub same_changed : (os new : List Object) → new ≡ os → AreRising (IsChanged os new) []
same_changed os new is = subst (λ (xs : List Object). AreRising (IsChanged os xs) []) (sym is) (none_changed os)

pub one_changed : (os : List Object) (h : ℕ) (o : Object) → h < length os → o ≢ object_at os h → AreRising (IsChanged os (set os h o)) (h ∷ [])
one_changed os h o known differs = record {
  rising = (λ y m. absurd (contains_none y m), tt);
  exactly = λ x. (λ m. there x m, λ changed. here x changed);
}
  where
    there : (x : ℕ) → Contains (h ∷ []) x → IsChanged os (set os h o) x
    there x m = elim (contains_cases h [] x m) [
      | inl is ↦
          let changed : IsChanged os (set os h o) h = (known, λ e. differs (sym (object_at-set_same os h o known) ∙ e)) in
          subst (λ (k : ℕ). IsChanged os (set os h o) k) is changed
      | inr none ↦ absurd (contains_none x none)
    ]

    here : (x : ℕ) → IsChanged os (set os h o) x → Contains (h ∷ []) x
    here x changed = elim (cases_eq x h) [
      | inl same ↦ contains_first h [] x (sym same)
      | inr other ↦ absurd (changed.1 (object_at-set_other os h x o other))
    ]

pub none_created : (os : List Object) (o : Object) → AreRising (IsChanged os (os ++ o ∷ [])) []
none_created os o = record {
  rising = tt;
  exactly = λ x. (λ m. absurd (contains_none x m), λ changed. absurd (changed.1 (object_at-append os (o ∷ []) x changed.0)));
}

-- ---- only waits that name a changed object can fit after a change

-- each object that was there and is outside of this list is as it was
abbrev pub ChangedOnlyAt : List ℕ → List Object → List Object → Type 0
ChangedOnlyAt changed old new = (h : ℕ) → h < length old → (object_at new h ≡ object_at old h) ⊎ Contains changed h

-- one of these handles is changed
abbrev NamesOne : List ℕ → List ℕ → Type 0
NamesOne changed hs = (j : ℕ) × (j < length hs) × Contains changed (get_or hs j 0)

-- the same objects are ready at these handles
abbrev ReadyAlike : List Object → List Object → ℕ → List ℕ → Type 0
ReadyAlike old new t hs = (list_any (is_ready new t) hs ≡ list_any (is_ready old t) hs) × (list_all (is_ready new t) hs ≡ list_all (is_ready old t) hs)

same_or_one : (changed : List ℕ) (old new : List Object) (t : ℕ) → ChangedOnlyAt changed old new → (hs : List ℕ) → ((j : ℕ) → j < length hs → get_or hs j 0 < length old) → ReadyAlike old new t hs ⊎ NamesOne changed hs
same_or_one changed old new t only [] known = inl (refl, refl)
same_or_one changed old new t only (h ∷ hs) known =
    go (only h (known 0 (omega arith))) (same_or_one changed old new t only hs (λ j below. known (suc j) (omega (arith, below))))
  where
    go : (object_at new h ≡ object_at old h) ⊎ Contains changed h → ReadyAlike old new t hs ⊎ NamesOne changed hs → ReadyAlike old new t (h ∷ hs) ⊎ NamesOne changed (h ∷ hs)
    go (inr here) rest = inr (zero, omega arith, here)
    go (inl same) (inr one) = inr (suc one.0, omega (arith, one.1), one.2)
    go (inl same) (inl rest) =
        let ready : is_ready new t h ≡ is_ready old t h = ap (λ o. signaled o t) same in
        inl (rw (ready, rest.0) refl, rw (ready, rest.1) refl)

fits_same : (old new : List Object) (t : ℕ) (w : Wait) → ReadyAlike old new t w.objects → fits new t w ≡ fits old t w
fits_same old new t w alike = rw (alike.0, alike.1) refl

in_sequence : (s : State) (changed : List ℕ) (h t : ℕ) → Contains changed h → Contains (s.queues h) t → Contains (sequence s changed) t
in_sequence s [] h t named member = absurd (contains_none h named)
in_sequence s (k ∷ ks) h t named member = elim (contains_cases k ks h named) [
  | inl here ↦ Contains-append_left (s.queues k) (flat_map s.queues ks) t (subst (λ (i : ℕ). Contains (s.queues i) t) (sym here) member)
  | inr later ↦ Contains-append_right (s.queues k) (flat_map s.queues ks) t (in_sequence s ks h t later member)
]

-- before the change no wait fitted: so one that fits now names a changed object, and stands in the sequence
pub fit_only_in : (changed : List ℕ) (old : Dispatcher) (objects : List Object) → IsMachineSound old → IsServed (state old) → ChangedOnlyAt changed old.objects objects → FitOnlyIn (sequence (state old) changed) (state (record old { objects = objects }))
fit_only_in changed old objects sound served only t due = go (fin.get old.table.pending t) refl due
  where
    go : (o : Option Wait) → fin.get old.table.pending t ≡ o → satisfied objects t o ≡ true → Contains (sequence (state old) changed) t
    go None e fit = let h : false ≡ true = fit in (cc)
    go (Some w) e fit = elim (same_or_one changed old.objects objects t only w.objects (λ j below. ((sound.waits t w e).named (get_or w.objects j 0) (j, below, refl)).0)) [
      | inl alike ↦
          let before : fits old.objects t w ≡ false = sym (ap (λ o. satisfied old.objects t o) e) ∙ served t in
          let h : true ≡ false = sym fit ∙ (fits_same old.objects objects t w alike ∙ before) in
          (cc)
      | inr one ↦ in_sequence (state old) changed (get_or w.objects one.0 0) t one.2 (sound.blocks.listed t (get_or w.objects one.0 0) w e (one.0, one.1, refl))
    ]

-- where no object changes that waits name, no wait fits
pub served_unchanged : (old : Dispatcher) (objects : List Object) → IsMachineSound old → IsServed (state old) → ChangedOnlyAt [] old.objects objects → IsServed (state (record old { objects = objects }))
served_unchanged old objects sound served only t = go (is_due (state (record old { objects = objects })) t) refl
  where
    go : (b : Bool) → is_due (state (record old { objects = objects })) t ≡ b → b ≡ false
    go true is = absurd (contains_none t (fit_only_in [] old objects sound served only t is))
    go false is = refl

-- where fewer objects are signaled, no wait fits
pub served_fewer : (s : State) (objects : List Object) → IsServed s → ((u k : ℕ) → is_ready s.objects u k ≡ false → is_ready objects u k ≡ false) → IsServed (record s { objects = objects })
served_fewer s objects served fewer t = go (fin.get s.waits t) (served t)
  where
    go : (o : Option Wait) → satisfied s.objects t o ≡ false → satisfied objects t o ≡ false
    go None e = refl
    go (Some w) e = fits_kept s.objects objects t w (fewer t) e

pub changed_at_one : (os : List Object) (h : ℕ) (o : Object) → ChangedOnlyAt (h ∷ []) os (set os h o)
changed_at_one os h o k known = elim (cases_eq k h) [
  | inl same ↦ inr (contains_first h [] k (sym same))
  | inr differs ↦ inl (object_at-set_other os h k o differs)
]

-- ---- soundness after one object is exchanged, or one is added

pub reading_set : {X : Type 0} (f : Object → X) (os : List Object) (h : ℕ) (o : Object) → f o ≡ f (object_at os h) → (k : ℕ) → f (object_at (set os h o) k) ≡ f (object_at os k)
reading_set f [] h o same k = refl
reading_set f (x ∷ os) zero o same zero = same
reading_set f (x ∷ os) zero o same (suc k) = refl
reading_set f (x ∷ os) (suc h) o same zero = refl
reading_set f (x ∷ os) (suc h) o same (suc k) = reading_set f os h o same k

pub property_set : (P : Object → Type 0) (os : List Object) (h : ℕ) (o : Object) → P o → ((k : ℕ) → P (object_at os k)) → (k : ℕ) → P (object_at (set os h o) k)
property_set P [] h o here all k = all k
property_set P (x ∷ os) zero o here all zero = here
property_set P (x ∷ os) zero o here all (suc k) = all (suc k)
property_set P (x ∷ os) (suc h) o here all zero = all zero
property_set P (x ∷ os) (suc h) o here all (suc k) = property_set P os h o here (λ j. all (suc j)) k

pub limit_set : (os : List Object) (h : ℕ) (o : Object) (u : ℕ) → ((owned_by (object_at os h) u && not (has_room (object_at os h))) ≡ false → (owned_by o u && not (has_room o)) ≡ false) → (k : ℕ) → is_at_limit os u k ≡ false → is_at_limit (set os h o) u k ≡ false
limit_set [] h o u kept k below = below
limit_set (x ∷ os) zero o u kept zero below = kept below
limit_set (x ∷ os) zero o u kept (suc k) below = below
limit_set (x ∷ os) (suc h) o u kept zero below = below
limit_set (x ∷ os) (suc h) o u kept (suc k) below = limit_set os h o u kept k below

pub sound_replaced : (d : Dispatcher) (h : ℕ) (o : Object) (owned : List (List ℕ)) → IsMachineSound d → MayReplace (object_at d.objects h) o → IsMachineSound (record d { objects = set d.objects h o; owned = owned })
sound_replaced d h o owned sound may = record {
  few = sound.few;
  waits = λ t w pends.
      let own = sound.waits t w pends in
      record {
        known = own.known;
        runs = reading_set has_ended d.objects h o may.ended t ∙ own.runs;
        few = own.few;
        apart = own.apart;
        named = λ k names. (subst (λ (n : ℕ). k < n) (sym (length-set d.objects h o)) (own.named k names).0, limit_set d.objects h o t (may.unlimited t) k (own.named k names).1);
        living = λ k names. reading_set is_gone d.objects h o may.gone k ∙ own.living k names;
      };
  blocks = sound.blocks;
  hands = sound.hands;
  standings = standings_kept d.threads d.objects (set d.objects h o) d.table.pending d.standings (λ t below. reading_set has_ended d.objects h o may.ended t) sound.standings;
  inboxes = sound.inboxes;
  objects = property_set IsLawfulObject d.objects h o may.lawful sound.objects;
  own = λ t below. (subst (λ (n : ℕ). t < n) (sym (length-set d.objects h o)) (sound.own t below).0, own_kept _ _ (reading_set is_thread d.objects h o may.thread t) (reading_set is_gone d.objects h o may.gone t) (sound.own t below).1);
  none_else = λ k beyond known. idle_kept _ _ (reading_set is_thread d.objects h o may.thread k) (reading_set has_ended d.objects h o may.ended k) (sound.none_else k beyond (subst (λ (n : ℕ). k < n) (length-set d.objects h o) known));
  timers = timers_kept d.threads d.objects (set d.objects h o) d.alarms d.apcs.places sound.timers (length-set d.objects h o) (reading_set due_of d.objects h o may.due) (reading_set setter_of d.objects h o may.setter) (reading_set has_ended d.objects h o may.ended);
  handles = handles_along d.handles (length-set d.objects h o) sound.handles;
  marks = marks_same d (record d { objects = set d.objects h o; owned = owned }) refl refl refl (λ k. refl) (length-set d.objects h o) (reading_set is_gone d.objects h o may.gone) (reading_set has_ended d.objects h o may.ended) sound.marks;
  places = record { changed = sound.places.changed ∙ sym (length-set d.objects h o); alerted = sound.places.alerted };
  room = sound.room;
}

-- a reading that the new object shares with objects that are not there
pub reading_created : {X : Type 0} (f : Object → X) (os : List Object) (o : Object) → f o ≡ f (Thread false) → (k : ℕ) → f (object_at (os ++ o ∷ []) k) ≡ f (object_at os k)
reading_created f [] o same zero = same
reading_created f [] o same (suc k) = refl
reading_created f (x ∷ os) o same zero = refl
reading_created f (x ∷ os) o same (suc k) = reading_created f os o same k

alarm_created : (alarms : List (Option ℕ)) (h : ℕ) → alarm_at (alarms ++ None ∷ []) h ≡ alarm_at alarms h
alarm_created [] zero = refl
alarm_created [] (suc h) = refl
alarm_created (a ∷ alarms) zero = refl
alarm_created (a ∷ alarms) (suc h) = alarm_created alarms h

pub unset_undue : (o : Object) → due_of o ≡ None → setter_of o ≡ None
unset_undue (Event manual was) due = refl
unset_undue (Semaphore count maximum) due = refl
unset_undue (Mutex owner depth abandoned) due = refl
unset_undue (Timer manual was None) due = refl
unset_undue (Timer manual was (Some armed)) due = let h : Some armed.due ≡ None = due in (cc)
unset_undue (Thread ended) due = refl
unset_undue Gone due = refl

-- one object number more leaves all readings of objects that were there
pub sound_longer : (d : Dispatcher) (o : Object) (owned : List (List ℕ)) (handles : List (Option Opened)) → IsMachineSound d → IsLawfulObject o → is_thread o ≡ false → due_of o ≡ None → HandlesAgree (length (d.objects ++ o ∷ [])) handles → MarksAgreeBut [] (record (with_object_added d o owned) { handles = handles }) → IsMachineSound (record (with_object_added d o owned) { handles = handles })
sound_longer d o owned handles sound lawful no_thread due agree marked = record {
  few = sound.few;
  waits = λ t w pends.
      let own = sound.waits t w pends in
      let here = sound.own t own.known in
      record {
        known = own.known;
        runs = ap has_ended (object_at-append d.objects (o ∷ []) t here.0) ∙ own.runs;
        few = own.few;
        apart = own.apart;
        named = λ k names.
            let before = own.named k names in (
              let longer = length-append d.objects (o ∷ []) in omega (arith, longer, before.0),
              ap (λ x. owned_by x t && not (has_room x)) (object_at-append d.objects (o ∷ []) k before.0) ∙ before.1,
            );
        living = λ k names. ap is_gone (object_at-append d.objects (o ∷ []) k (own.named k names).0) ∙ own.living k names;
      };
  blocks = sound.blocks;
  hands = sound.hands;
  standings = standings_kept d.threads d.objects (d.objects ++ o ∷ []) d.table.pending d.standings (λ t below. ap has_ended (object_at-append d.objects (o ∷ []) t (sound.own t below).0)) sound.standings;
  inboxes = sound.inboxes;
  objects = all d.objects sound.objects;
  none_else = λ h beyond known. unlike d.objects h known (sound.none_else h beyond);
  timers = record {
    count = let objects = length-append d.objects (o ∷ []) in let alarms = length-append d.alarms (None ∷ []) in let before = sound.timers.count in omega (arith, objects, alarms, before);
    alarm = λ h. alarm_created d.alarms h ∙ (sound.timers.alarm h ∙ sym (reading_created due_of d.objects o due h));
    placed = λ h t is. sound.timers.placed h t (sym (reading_created setter_of d.objects o (unset_undue o due) h) ∙ is);
    known = λ h t at. let longer = length-append d.objects (o ∷ []) in let before = sound.timers.known h t at in omega (arith, longer, before);
    runs = λ h t is.
        let own = sound.timers.runs h t (sym (reading_created setter_of d.objects o (unset_undue o due) h) ∙ is) in
        (own.0, ap has_ended (object_at-append d.objects (o ∷ []) t (sound.own t own.0).0) ∙ own.1);
  };
  handles = agree;
  marks = marked;
  places = record {
    changed = let objects = length-append d.objects (o ∷ []) in let marks = length-append d.marked.changed (false ∷ []) in let before = sound.places.changed in omega (arith, objects, marks, before);
    alerted = sound.places.alerted;
  };
  own = λ t below.
      let before = sound.own t below in (
        let longer = length-append d.objects (o ∷ []) in omega (arith, longer, before.0),
        subst (λ (x : Object). (is_thread x ≡ true) ⊎ (is_gone x ≡ true)) (sym (object_at-append d.objects (o ∷ []) t before.0)) before.1,
      );
  room = sound.room;
}
  where
    unlike : (os : List Object) (h : ℕ) → h < length (os ++ o ∷ []) → (h < length os → (is_thread (object_at os h) && not (has_ended (object_at os h))) ≡ false) → (is_thread (object_at (os ++ o ∷ []) h) && not (has_ended (object_at (os ++ o ∷ []) h))) ≡ false
    unlike [] zero known none = no_thread_idle o no_thread
    unlike [] (suc h) known none = absurd (omega (arith, known))
    unlike (x ∷ os) zero known none = none (omega arith)
    unlike (x ∷ os) (suc h) known none = unlike os h (omega (arith, known)) (λ below. none (omega (arith, below)))

    all : (os : List Object) → ((k : ℕ) → IsLawfulObject (object_at os k)) → (k : ℕ) → IsLawfulObject (object_at (os ++ o ∷ []) k)
    all [] has zero = lawful
    all [] has (suc k) = tt
    all (x ∷ os) has zero = has zero
    all (x ∷ os) has (suc k) = all os (λ j. has (suc j)) k

-- one object more, and its handle
pub sound_created : (d : Dispatcher) (o : Object) (owned : List (List ℕ)) → IsMachineSound d → is_full d.handles ≡ false → IsLawfulObject o → is_thread o ≡ false → is_gone o ≡ false → due_of o ≡ None → IsMachineSound (with_created d o owned)
sound_created d o owned sound room lawful no_thread alive due =
    sound_longer d o owned (d.handles ++ Some (record { object = length d.objects; access = full_access o }) ∷ []) sound lawful no_thread due
    (handles_created (length (d.objects ++ o ∷ [])) d.handles (length d.objects) (full_access o) (grind (arith, nat_tests, room)) sound.handles (length-append d.objects (o ∷ [])))
    (marks_created d o owned sound.handles alive sound.marks)

-- ---- what is due

-- nothing new is due where no timer is armed anew
pub due_kept : (s new : State) (m : ℕ) → ((h : ℕ) → (due_of (object_at new.objects h) ≡ due_of (object_at s.objects h)) ⊎ (due_of (object_at new.objects h) ≡ None)) → new.waits ≡ s.waits → NothingDue s m → NothingDue new m
due_kept s new m same waits none v (inl timer) = elim (same timer.0) [
  | inl as_before ↦ none v (inl (timer.0, sym as_before ∙ timer.1))
  | inr unarmed ↦ let h : None ≡ Some v = sym unarmed ∙ timer.1 in absurd_none h
]
  where
    absurd_none : {P : Type 0} → None ≡ Some v → P
    absurd_none h = (cc)
due_kept s new m same waits none v (inr late) = none v (inr (late.0, late.1, ap (λ p. fin.get p late.0) (sym waits) ∙ late.2, late.3))

pub due_replaced : (s : State) (h : ℕ) (o : Object) (m : ℕ) → due_of o ≡ due_of (object_at s.objects h) → NothingDue s m → NothingDue (record s { objects = set s.objects h o }) m
due_replaced s h o m same none = due_kept s (record s { objects = set s.objects h o }) m (λ k. inl (reading_set due_of s.objects h o same k)) refl none
