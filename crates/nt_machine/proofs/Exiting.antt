-- What the end of a thread changes.
use Rattle.std.proofs.Common.{◌≡◌, ◌≢◌, ◌<◌, ◌==◌, ◌&&◌, not, ℕ, zero, suc, Bool, true, false, cond, List, [], ◌∷◌, length, set, refl, sym, ap, ◌∙◌, subst, arith, Option, Some, None, inl, inr, ◌⊎◌, map}
use Rattle.std.specs.Prelude.{option_map}
use Rattle.std.proofs.lemmas.Bool.{cases_eq, false≢true}
use Rattle.std.proofs.lemmas.List.{length-map}
use Rattle.nt_objects.specs.declared.object.Object.{Object}
use Rattle.nt_objects.specs.declared.object.Object.TheVariants.{Event, Semaphore, Mutex, Timer, Thread, Gone}
use Rattle.nt_objects.specs.declared.object.Routine.{Routine}
use Rattle.nt_objects.specs.Object.{is_thread, is_gone, has_ended, has_room, owned_by, due_of, setter_of, armed_with, abandoned_by, unset_by, set_by, IsLawfulObject}
use Rattle.nt_apc.specs.Queues.{has_apc, cleared}
use Rattle.nt_apc.specs.declared.apc.Queued.{Queued}
use Rattle.nt_calls.specs.State.{State, object_at}
use Rattle.nt_machine.specs.Dispatcher.{Dispatcher, state}
use Rattle.nt_calls.specs.Serving.{IsChanged}
use Rattle.nt_calls.specs.Change.{exited}
use Rattle.nt_calls.specs.Steps.{NothingDue}
use Rattle.nt_machine.specs.Lawful.{IsMachineSound, MayReplace}
use Rattle.nt_machine.specs.Accepts.{IsSetBy, AreStopped}
use Rattle.nt_machine.proofs.Handling.{handles_along}
use Rattle.nt_machine.proofs.Changing.{object_at-set_same, object_at-set_other, due_kept}
use Rattle.nt_machine.proofs.Accepting.{IsCalm}
use Rattle.nt_machine.proofs.Keeping.{timers_kept, own_kept, idle_kept}
use Rattle.nt_machine.proofs.Lives.{not_gone}
use Rattle.nt_machine.proofs.Marking.{marks_same}
use Rattle.nt_machine.proofs.Replacing.{known_mutex}
use Rattle.nt_machine.proofs.Timing.{and_kept}
use Rattle.nt_machine.proofs.Listing.{same_yes, same_no}
use Rattle.nt_machine.proofs.Leaving.{stopped_unset, set_timer_known, setter_or_not, due_stopped}
use Rattle.nt_machine.proofs.Standings.{standings_kept}

-- what is left of an object once thread t has ended
abbrev pub left : ℕ → Object → Object
left t o = unset_by t (abandoned_by t o)

-- ---- objects that are all changed in one way

pub mapped_at : (f : Object → Object) → f (Thread false) ≡ Thread false → (os : List Object) (h : ℕ) → object_at (map f os) h ≡ f (object_at os h)
mapped_at f still [] h = sym still
mapped_at f still (o ∷ os) zero = refl
mapped_at f still (o ∷ os) (suc h) = mapped_at f still os h

pub mapped_twice : (f g : Object → Object) (os : List Object) → map f (map g os) ≡ map (λ o. f (g o)) os
mapped_twice f g [] = refl
mapped_twice f g (o ∷ os) = ap (λ xs. f (g o) ∷ xs) (mapped_twice f g os)

-- lists with the same objects are the same
same_objects : (xs ys : List Object) → length xs ≡ length ys → ((h : ℕ) → object_at xs h ≡ object_at ys h) → xs ≡ ys
same_objects [] [] len all = refl
same_objects [] (y ∷ ys) len all = absurd (omega (arith, len))
same_objects (x ∷ xs) [] len all = absurd (omega (arith, len))
same_objects (x ∷ xs) (y ∷ ys) len all = ap (λ o. o ∷ xs) (all 0) ∙ ap (λ os. y ∷ os) (same_objects xs ys (omega (arith, len)) (λ h. all (suc h)))

-- what holds of all objects still does, where each may take the place of the one before it
sound_mapped : (d : Dispatcher) (f : Object → Object) (owned : List (List ℕ)) → f (Thread false) ≡ Thread false → ((o : Object) → IsLawfulObject o → MayReplace o (f o)) → IsMachineSound d → IsMachineSound (record d { objects = map f d.objects; owned = owned })
sound_mapped d f owned still may sound = record {
  few = sound.few;
  waits = λ t w pends.
      let own = sound.waits t w pends in
      record {
        known = own.known;
        runs = reading has_ended (λ o r. r.ended) t ∙ own.runs;
        few = own.few;
        apart = own.apart;
        named = λ k names. (
          subst (λ (n : ℕ). k < n) (sym len) (own.named k names).0,
          ap (λ o. owned_by o t && not (has_room o)) (here k) ∙ (may (object_at d.objects k) (sound.objects k)).unlimited t (own.named k names).1,
        );
        living = λ k names. reading is_gone (λ o r. r.gone) k ∙ own.living k names;
      };
  blocks = sound.blocks;
  hands = sound.hands;
  standings = standings_kept d.threads d.objects (map f d.objects) d.table.pending d.standings (λ t below. reading has_ended (λ o r. r.ended) t) sound.standings;
  inboxes = sound.inboxes;
  objects = λ h. subst IsLawfulObject (sym (here h)) (may (object_at d.objects h) (sound.objects h)).lawful;
  own = λ t below. (subst (λ (n : ℕ). t < n) (sym len) (sound.own t below).0, own_kept _ _ (reading is_thread (λ o r. r.thread) t) (reading is_gone (λ o r. r.gone) t) (sound.own t below).1);
  none_else = λ k beyond known. idle_kept _ _ (reading is_thread (λ o r. r.thread) k) (reading has_ended (λ o r. r.ended) k) (sound.none_else k beyond (subst (λ (n : ℕ). k < n) len known));
  timers = timers_kept d.threads d.objects (map f d.objects) d.alarms d.apcs.places sound.timers len (reading due_of (λ o r. r.due)) (reading setter_of (λ o r. r.setter)) (reading has_ended (λ o r. r.ended));
  handles = handles_along d.handles len sound.handles;
  marks = marks_same d (record d { objects = map f d.objects; owned = owned }) refl refl refl (λ k. refl) len (reading is_gone (λ o r. r.gone)) (reading has_ended (λ o r. r.ended)) sound.marks;
  places = record { changed = sound.places.changed ∙ sym len; alerted = sound.places.alerted };
  room = sound.room;
}
  where
    len : length (map f d.objects) ≡ length d.objects
    len = length-map d.objects f

    here : (h : ℕ) → object_at (map f d.objects) h ≡ f (object_at d.objects h)
    here h = mapped_at f still d.objects h

    reading : {X : Type 0} (read : Object → X) → ((o : Object) → MayReplace o (f o) → read (f o) ≡ read o) → (h : ℕ) → read (object_at (map f d.objects) h) ≡ read (object_at d.objects h)
    reading read same h = ap read (here h) ∙ same (object_at d.objects h) (may (object_at d.objects h) (sound.objects h))

-- ---- mutexes

same_replace : (o : Object) → IsLawfulObject o → MayReplace o o
same_replace o lawful = record { lawful = lawful; gone = refl; thread = refl; ended = refl; due = refl; setter = refl; owner = λ u owns. owns; unlimited = λ u below. below }

abandoned_may_replace : (t : ℕ) (o : Object) → IsLawfulObject o → MayReplace o (abandoned_by t o)
abandoned_may_replace t (Event manual was) lawful = same_replace (Event manual was) lawful
abandoned_may_replace t (Semaphore count maximum) lawful = same_replace (Semaphore count maximum) lawful
abandoned_may_replace t (Mutex None depth abandoned) lawful = same_replace (Mutex None depth abandoned) lawful
abandoned_may_replace t (Mutex (Some owner) depth abandoned) lawful = go (owner == t)
  where
    go : (b : Bool) → MayReplace (Mutex (Some owner) depth abandoned) (cond b (Mutex None 0 true) (Mutex (Some owner) depth abandoned))
    go true = record { lawful = refl; gone = refl; thread = refl; ended = refl; due = refl; setter = refl; owner = λ u owns. absurd (false≢true owns); unlimited = λ u below. refl }
    go false = same_replace (Mutex (Some owner) depth abandoned) lawful
abandoned_may_replace t (Timer manual was armed) lawful = same_replace (Timer manual was armed) lawful
abandoned_may_replace t (Thread ended) lawful = same_replace (Thread ended) lawful
abandoned_may_replace t Gone lawful = same_replace Gone lawful

pub abandoned_sound : (d : Dispatcher) (t : ℕ) (owned : List (List ℕ)) → IsMachineSound d → IsMachineSound (record d { objects = map (abandoned_by t) d.objects; owned = owned })
abandoned_sound d t owned sound = sound_mapped d (abandoned_by t) owned refl (abandoned_may_replace t) sound

-- what an abandoned mutex was is read as before
pub abandoned_setter : (t : ℕ) (o : Object) → IsLawfulObject o → setter_of (abandoned_by t o) ≡ setter_of o
abandoned_setter t o lawful = (abandoned_may_replace t o lawful).setter

-- ---- timers

-- the timer of a routine of this thread stops, and any other object stays
unset_one : (t : ℕ) (o : Object) → setter_of o ≡ Some t → unset_by t o ≡ armed_with None o
unset_one t (Event manual was) sets = refl
unset_one t (Semaphore count maximum) sets = refl
unset_one t (Mutex owner depth abandoned) sets = refl
unset_one t (Timer manual was None) sets = refl
unset_one t (Timer manual was (Some armed)) sets = go armed.routine sets
  where
    yes : (k : ℕ) → Some k ≡ Some t → (k == t) ≡ true
    yes k e = let same : k ≡ t = (cc) in same_yes k t same

    go : (routine : Option Routine) → option_map (λ r. r.thread) routine ≡ Some t → cond (set_by routine t) (Timer manual was None) (Timer manual was (Some armed)) ≡ Timer manual was None
    go None e = let h : None ≡ Some t = e in (cc)
    go (Some r) e = ap (λ b. cond b (Timer manual was None) (Timer manual was (Some armed))) (yes r.thread e)
unset_one t (Thread ended) sets = refl
unset_one t Gone sets = refl

unset_other : (t : ℕ) (o : Object) → (setter_of o ≡ Some t → ⊥) → unset_by t o ≡ o
unset_other t (Event manual was) none = refl
unset_other t (Semaphore count maximum) none = refl
unset_other t (Mutex owner depth abandoned) none = refl
unset_other t (Timer manual was None) none = refl
unset_other t (Timer manual was (Some armed)) none = go armed.routine none
  where
    go : (routine : Option Routine) → (option_map (λ r. r.thread) routine ≡ Some t → ⊥) → cond (set_by routine t) (Timer manual was None) (Timer manual was (Some armed)) ≡ Timer manual was (Some armed)
    go None none = refl
    go (Some r) none = ap (λ b. cond b (Timer manual was None) (Timer manual was (Some armed))) (same_no r.thread t (λ e. none (ap Some e)))
unset_other t (Thread ended) none = refl
unset_other t Gone none = refl

-- after that it is not set by the thread
pub unset_all : (t : ℕ) (o : Object) → setter_of (unset_by t o) ≡ Some t → ⊥
unset_all t o sets = go (setter_or_not o t)
  where
    go : (setter_of o ≡ Some t) ⊎ (setter_of o ≡ Some t → ⊥) → ⊥
    go (inl own) = stopped_unset o t (sym (ap setter_of (unset_one t o own)) ∙ sets)
    go (inr none) = none (sym (ap setter_of (unset_other t o none)) ∙ sets)

-- once the listed timers are stopped, all of the thread's are
pub stopped_objects : (old new : List Object) (t : ℕ) → AreStopped (IsSetBy old t) old new → new ≡ map (unset_by t) old
stopped_objects old new t stops = same_objects new (map (unset_by t) old) (stops.count ∙ sym (length-map old (unset_by t))) at
  where
    at : (h : ℕ) → object_at new h ≡ object_at (map (unset_by t) old) h
    at h = elim (setter_or_not (object_at old h) t) [
      | inl sets ↦ stops.stopped h sets ∙ (sym (unset_one t (object_at old h) sets) ∙ sym (mapped_at (unset_by t) refl old h))
      | inr none ↦ stops.others h none ∙ (sym (unset_other t (object_at old h) none) ∙ sym (mapped_at (unset_by t) refl old h))
    ]

-- ---- which objects are altered

-- the end of thread t alters its mutexes, the timers that it armed with a routine, and its own object
abbrev pub IsAltered : List Object → ℕ → ℕ → Type 0
IsAltered os t h = (owned_by (object_at os h) t ≡ true) ⊎ ((setter_of (object_at os h) ≡ Some t) ⊎ (t ≡ h))

-- the objects once thread t has ended
abbrev pub objects_left : List Object → ℕ → List Object
objects_left os t = set (map (left t) os) t (Thread true)

own_left : (os : List Object) (t : ℕ) → t < length os → object_at (objects_left os t) t ≡ Thread true
own_left os t known = let len = length-map os (left t) in object_at-set_same (map (left t) os) t (Thread true) (omega (arith, known, len))

other_left : (os : List Object) (t h : ℕ) → h ≢ t → object_at (objects_left os t) h ≡ left t (object_at os h)
other_left os t h differs = object_at-set_other (map (left t) os) t h (Thread true) differs ∙ mapped_at (left t) refl os h

unowned_left : (t : ℕ) (o : Object) → owned_by o t ≡ false → abandoned_by t o ≡ o
unowned_left t (Event manual was) none = refl
unowned_left t (Semaphore count maximum) none = refl
unowned_left t (Mutex None depth abandoned) none = refl
unowned_left t (Mutex (Some owner) depth abandoned) none = ap (λ b. cond b (Mutex None 0 true) (Mutex (Some owner) depth abandoned)) none
unowned_left t (Timer manual was armed) none = refl
unowned_left t (Thread ended) none = refl
unowned_left t Gone none = refl

same_left : (t : ℕ) (o : Object) → owned_by o t ≡ false → (setter_of o ≡ Some t → ⊥) → left t o ≡ o
same_left t o unowned unset = ap (unset_by t) (unowned_left t o unowned) ∙ unset_other t o unset

-- the end of its owner frees a mutex
pub freed_mutex : (t : ℕ) (o : Object) → owned_by o t ≡ true → abandoned_by t o ≡ Mutex None 0 true
freed_mutex t (Event manual was) owns = absurd (false≢true owns)
freed_mutex t (Semaphore count maximum) owns = absurd (false≢true owns)
freed_mutex t (Mutex None depth abandoned) owns = absurd (false≢true owns)
freed_mutex t (Mutex (Some owner) depth abandoned) owns = ap (λ b. cond b (Mutex None 0 true) (Mutex (Some owner) depth abandoned)) owns
freed_mutex t (Timer manual was armed) owns = absurd (false≢true owns)
freed_mutex t (Thread ended) owns = absurd (false≢true owns)
freed_mutex t Gone owns = absurd (false≢true owns)

freed_left : (t : ℕ) (o : Object) → owned_by o t ≡ true → left t o ≡ Mutex None 0 true
freed_left t o owns = ap (unset_by t) (freed_mutex t o owns)

-- the thread runs before its end
pub runs_before : (d : Dispatcher) (t : ℕ) → IsMachineSound d → t < d.threads → has_ended (object_at d.objects t) ≡ false → object_at d.objects t ≡ Thread false
runs_before d t sound known runs = elim (sound.own t known).1 [
  | inl thread ↦ go (object_at d.objects t) thread runs
  | inr gone ↦ absurd (false≢true (sym (not_gone (object_at d.objects t) runs) ∙ gone))
]
  where
    go : (o : Object) → is_thread o ≡ true → has_ended o ≡ false → o ≡ Thread false
    go (Event manual was) is runs = absurd (false≢true is)
    go (Semaphore count maximum) is runs = absurd (false≢true is)
    go (Mutex owner depth abandoned) is runs = absurd (false≢true is)
    go (Timer manual was armed) is runs = absurd (false≢true is)
    go (Thread ended) is runs = ap Thread runs
    go Gone is runs = absurd (false≢true is)

pub altered_or_same : (os : List Object) (t h : ℕ) → IsAltered os t h ⊎ (object_at (objects_left os t) h ≡ object_at os h)
altered_or_same os t h = go (cases_eq h t) (owned_by (object_at os h) t) refl (setter_or_not (object_at os h) t)
  where
    go : (h ≡ t) ⊎ (h ≢ t) → (b : Bool) → owned_by (object_at os h) t ≡ b → (setter_of (object_at os h) ≡ Some t) ⊎ (setter_of (object_at os h) ≡ Some t → ⊥) → IsAltered os t h ⊎ (object_at (objects_left os t) h ≡ object_at os h)
    go (inl same) b owned sets = inl (inr (inr (sym same)))
    go (inr differs) true owned sets = inl (inl owned)
    go (inr differs) false owned (inl sets) = inl (inr (inl sets))
    go (inr differs) false owned (inr unset) = inr (other_left os t h differs ∙ same_left t (object_at os h) owned unset)

pub altered_changed : (d : Dispatcher) (t h : ℕ) → IsMachineSound d → t < d.threads → has_ended (object_at d.objects t) ≡ false → IsAltered d.objects t h → IsChanged d.objects (objects_left d.objects t) h
altered_changed d t h sound known runs = go
  where
    running : object_at d.objects t ≡ Thread false
    running = runs_before d t sound known runs

    go : IsAltered d.objects t h → IsChanged d.objects (objects_left d.objects t) h
    go (inl owned) =
        let differs : h ≢ t = λ same. false≢true (sym (ap (λ o. owned_by o t) (ap (λ (k : ℕ). object_at d.objects k) same ∙ running)) ∙ owned) in
        let freed = other_left d.objects t h differs ∙ freed_left t (object_at d.objects h) owned in
        (known_mutex d.objects h t owned, λ e. false≢true (sym (ap (λ o. owned_by o t) freed) ∙ (ap (λ o. owned_by o t) e ∙ owned)))
    go (inr (inl sets)) =
        let differs : h ≢ t = λ same. no_setter (sym (ap setter_of (ap (λ (k : ℕ). object_at d.objects k) same ∙ running)) ∙ sets) in
        (set_timer_known d.objects t h sets, λ e. unset_all t (abandoned_by t (object_at d.objects h)) (sym (ap setter_of (other_left d.objects t h differs)) ∙ (ap setter_of e ∙ sets)))
      where
        no_setter : None ≡ Some t → ⊥
        no_setter e = (cc)
    go (inr (inr own)) =
        subst (λ (k : ℕ). IsChanged d.objects (objects_left d.objects t) k) own
        ((sound.own t known).0, λ e. false≢true (sym (ap has_ended running) ∙ (sym (ap has_ended e) ∙ ap has_ended (own_left d.objects t (sound.own t known).0))))

-- ---- what is awaited once the thread has ended

due_left : (os : List Object) (t h : ℕ) → ((k : ℕ) → IsLawfulObject (object_at os k)) → (due_of (object_at (objects_left os t) h) ≡ due_of (object_at os h)) ⊎ (due_of (object_at (objects_left os t) h) ≡ None)
due_left os t h lawful = go (cases_eq h t) (setter_or_not (abandoned_by t (object_at os h)) t)
  where
    at_end : (xs : List Object) → (object_at (set xs t (Thread true)) t ≡ Thread true) ⊎ (object_at (set xs t (Thread true)) t ≡ Thread false)
    at_end xs = here xs t
      where
        here : (xs : List Object) (k : ℕ) → (object_at (set xs k (Thread true)) k ≡ Thread true) ⊎ (object_at (set xs k (Thread true)) k ≡ Thread false)
        here [] k = inr refl
        here (x ∷ xs) zero = inl refl
        here (x ∷ xs) (suc k) = here xs k

    go : (h ≡ t) ⊎ (h ≢ t) → (setter_of (abandoned_by t (object_at os h)) ≡ Some t) ⊎ (setter_of (abandoned_by t (object_at os h)) ≡ Some t → ⊥) → (due_of (object_at (objects_left os t) h) ≡ due_of (object_at os h)) ⊎ (due_of (object_at (objects_left os t) h) ≡ None)
    go (inl same) sets = inr (elim (at_end (map (left t) os)) [
      | inl ended ↦ ap due_of (ap (λ (k : ℕ). object_at (objects_left os t) k) same ∙ ended)
      | inr runs ↦ ap due_of (ap (λ (k : ℕ). object_at (objects_left os t) k) same ∙ runs)
    ])
    go (inr differs) (inl sets) = inr (ap due_of (other_left os t h differs ∙ unset_one t (abandoned_by t (object_at os h)) sets) ∙ due_stopped (abandoned_by t (object_at os h)))
    go (inr differs) (inr unset) = inl (ap due_of (other_left os t h differs ∙ unset_other t (abandoned_by t (object_at os h)) unset) ∙ (abandoned_may_replace t (object_at os h) (lawful h)).due)

pub due_exited : (d : Dispatcher) (t m : ℕ) → IsMachineSound d → NothingDue (state d) m → NothingDue (exited (state d) t) m
due_exited d t m sound none = due_kept (state d) (exited (state d) t) m (λ h. due_left d.objects t h sound.objects) refl none

-- who has an APC had one before
has_cleared : (queues : List (List Queued)) (t u : ℕ) → has_apc (cleared queues t) u ≡ true → has_apc queues u ≡ true
has_cleared [] t u has = has
has_cleared (queue ∷ queues) zero zero has = absurd (false≢true has)
has_cleared (queue ∷ queues) zero (suc u) has = has
has_cleared (queue ∷ queues) (suc t) zero has = has
has_cleared (queue ∷ queues) (suc t) (suc u) has = has_cleared queues t u has

pub calm_exited : (s : State) (t : ℕ) → IsCalm s → IsCalm (exited s t)
calm_exited s t calm u alerted = calm u (alerted.0, alerted.1, and_kept (alerted.0).alertable (has_apc (cleared s.apcs t) u) (has_apc s.apcs u) (has_cleared s.apcs t u) alerted.2)
