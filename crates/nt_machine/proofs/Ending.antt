-- The parts of a thread's end put together.
use Rattle.std.proofs.Common.{Bool, Option, ◌≡◌, ◌≢◌, ◌<◌, ◌≤◌, ◌*◌, ◌^◌, ℕ, not, ◌&&◌, true, false, cond, List, [], ◌∷◌, length, length-append, set, refl, sym, ap, ◌∙◌, subst, arith, Some, None, inl, inr, ◌⊎◌, map}
use Rattle.std.specs.Prelude.{◌↔◌, if◌then◌else◌}
use Rattle.std.specs.List.{flat_map}
use Rattle.std.specs.FinMap as fin
use Rattle.std.proofs.lemmas.Bool.{cases_eq, false≢true}
use Rattle.std.proofs.lemmas.List.{length-set, length-map, get_or-set_other}
use Rattle.nt_waits.specs.declared.wait.Wait.{Wait}
use Rattle.nt_status.proofs.Lists.{few_below}
use Rattle.nt_marks.specs.Marks.{is_marked, NoneMarked, AddsMarks, marked_places}
use Rattle.nt_objects.specs.declared.object.Object.{Object}
use Rattle.nt_objects.specs.declared.object.Object.TheVariants.{Event, Semaphore, Mutex, Timer, Thread, Gone}
use Rattle.nt_objects.specs.Object.{is_thread, is_gone, has_ended, owned_by, due_of, setter_of, abandoned_by, unset_by, IsLawfulObject}
use Rattle.nt_apc.specs.Queues.{Apcs, place_of, is_at, given_up, cleared}
use Rattle.nt_apc.specs.declared.apc.Queued.{Queued}
use Rattle.nt_calls.specs.State.{State, object_at}
use Rattle.nt_machine.specs.Dispatcher.{Dispatcher, state}
use Rattle.nt_calls.specs.Rising.{AreRising}
use Rattle.nt_calls.specs.Serving.{IsChanged, sequence, Serve}
use Rattle.nt_calls.specs.Change.{exited}
use Rattle.nt_machine.specs.Visits.{FitOnlyIn}
use Rattle.nt_machine.specs.Lawful.{IsMachineSound, IsSteady, IsUnmarked}
use Rattle.nt_machine.specs.Accepts.{IsFresh, IsSetBy, IsStoppedAfter, IsExitedAfter, Accepts}
use Rattle.nt_calls.specs.declared.call.Call.{Call}
use Rattle.nt_calls.specs.declared.call.Reply.{Reply}
use Rattle.nt_machine.proofs.Handling.{handles_along}
use Rattle.nt_machine.proofs.Keeping.{own_kept}
use Rattle.nt_machine.proofs.Lives.{not_gone}
use Rattle.nt_machine.proofs.Marking.{marks_along, marks_ending}
use Rattle.nt_machine.proofs.Changing.{ChangedOnlyAt, object_at-set_same, object_at-set_other, reading_set, property_set, limit_set, fit_only_in}
use Rattle.nt_machine.proofs.Accepting.{accepted, settled_after}
use Rattle.nt_machine.proofs.Replacing.{queue_few}
use Rattle.nt_machine.proofs.Listing.{same_no}
use Rattle.nt_machine.proofs.Places.{sound_marked, places_rising, set_mark, set_kept}
use Rattle.nt_machine.proofs.Passing.{rising_once}
use Rattle.nt_machine.proofs.Exiting.{left, mapped_at, mapped_twice, stopped_objects, unset_all, abandoned_setter, abandoned_sound, IsAltered, objects_left, altered_or_same, altered_changed, runs_before, due_exited, calm_exited}
use Rattle.nt_machine.proofs.Standings.{standings_set, standing_ended}
use Rattle.nt_machine.specs.declared.standing.Standing.TheVariants.{Ended}

-- ---- the thread's own object, and its APCs

running_thread : (o : Object) → has_ended o ≡ false → (is_thread o ≡ true) ⊎ (is_gone o ≡ true) → is_thread o ≡ true
running_thread o runs (inl is) = is
running_thread o runs (inr gone) = absurd (false≢true (sym (not_gone o runs) ∙ gone))

thread_undue : (o : Object) → is_thread o ≡ true → due_of o ≡ None
thread_undue (Event manual was) is = refl
thread_undue (Semaphore count maximum) is = refl
thread_undue (Mutex owner depth abandoned) is = refl
thread_undue (Timer manual was armed) is = absurd (false≢true is)
thread_undue (Thread ended) is = refl
thread_undue Gone is = refl

thread_unset : (o : Object) → is_thread o ≡ true → setter_of o ≡ None
thread_unset (Event manual was) is = refl
thread_unset (Semaphore count maximum) is = refl
thread_unset (Mutex owner depth abandoned) is = refl
thread_unset (Timer manual was armed) is = absurd (false≢true is)
thread_unset (Thread ended) is = refl
thread_unset Gone is = refl

-- a place that is left after some are given up was there before
not_given_up : (b : Bool) (place : Option ℕ) (u : ℕ) → (if b then None else place) ≡ Some u → place ≡ Some u
not_given_up true place u at = let none : None ≡ Some u = at in (cc)
not_given_up false place u at = at

pub ended_sound : (d : Dispatcher) (t : ℕ) (apcs : Apcs) → IsMachineSound d → fin.get d.table.pending t ≡ None → t < d.threads → has_ended (object_at d.objects t) ≡ false → ((h : ℕ) → setter_of (object_at d.objects h) ≢ Some t) → length apcs.queues ≡ length d.apcs.queues → ((m : ℕ) → place_of apcs.places m ≡ given_up t (place_of d.apcs.places m)) → IsMachineSound (record d { objects = set d.objects t (Thread true); apcs = apcs; leaving = set d.leaving t true; standings = set d.standings t Ended })
ended_sound d t apcs sound idle known running unset len places = record {
  few = sound.few;
  waits = λ u w pends.
      let own = sound.waits u w pends in
      record {
        known = own.known;
        runs = runs_on u (λ same. waits_not w (sym idle ∙ (ap (λ (k : ℕ). fin.get d.table.pending k) (sym same) ∙ pends))) own.runs;
        few = own.few;
        apart = own.apart;
        named = λ k names. (subst (λ (n : ℕ). k < n) (sym count) (own.named k names).0, limit_set d.objects t (Thread true) u (λ below. refl) k (own.named k names).1);
        living = λ k names. gone k ∙ own.living k names;
      };
  blocks = sound.blocks;
  hands = sound.hands;
  standings = standings_set d.threads d.objects (set d.objects t (Thread true)) d.table.pending d.table.pending d.standings t Ended (standing_ended (set d.objects t (Thread true)) d.table.pending t (ap has_ended (object_at-set_same d.objects t (Thread true) (sound.own t known).0))) (λ u differs. ap has_ended (object_at-set_other d.objects t u (Thread true) differs)) (λ u differs. refl) sound.standings;
  inboxes = len ∙ sound.inboxes;
  objects = property_set IsLawfulObject d.objects t (Thread true) tt sound.objects;
  own = λ u below. (subst (λ (n : ℕ). u < n) (sym count) (sound.own u below).0, own_kept _ _ (threads u) (gone u) (sound.own u below).1);
  none_else = λ k beyond there. ap (λ (o : Object). is_thread o && not (has_ended o)) (object_at-set_other d.objects t k (Thread true) (λ same. absurd (let own = known in omega (arith, own, beyond, same)))) ∙ sound.none_else k beyond (subst (λ (n : ℕ). k < n) count there);
  timers = record {
    count = sound.timers.count ∙ sym count;
    alarm = λ h. sound.timers.alarm h ∙ sym (reading_set due_of d.objects t (Thread true) (sym (thread_undue (object_at d.objects t) own_thread)) h);
    placed = λ h u sets.
        let before = sym (setters h) ∙ sets in
        places h ∙ (ap (given_up t) (sound.timers.placed h u before) ∙ stays u (λ same. unset h (before ∙ ap Some same)));
    known = λ h u at. subst (λ (n : ℕ). h < n) (sym count) (sound.timers.known h u (not_given_up (is_at t (place_of d.apcs.places h)) (place_of d.apcs.places h) u (sym (places h) ∙ at)));
    runs = λ h u sets.
        let before = sym (setters h) ∙ sets in
        let own = sound.timers.runs h u before in
        (own.0, runs_on u (λ same. unset h (before ∙ ap Some same)) own.1);
  };
  handles = handles_along d.handles count sound.handles;
  marks = marks_along refl refl refl (λ o. refl) refl (marks_ending d t apcs (sound.own t known).0 (not_gone (object_at d.objects t) running) sound.marks);
  places = record { changed = sound.places.changed ∙ sym count; alerted = sound.places.alerted };
  room = sound.room;
}
  where
    own_thread : is_thread (object_at d.objects t) ≡ true
    own_thread = running_thread (object_at d.objects t) running (sound.own t known).1

    gone : (k : ℕ) → is_gone (object_at (set d.objects t (Thread true)) k) ≡ is_gone (object_at d.objects k)
    gone = reading_set is_gone d.objects t (Thread true) (sym (not_gone (object_at d.objects t) running))

    count : length (set d.objects t (Thread true)) ≡ length d.objects
    count = length-set d.objects t (Thread true)

    waits_not : (w : Wait) → None ≡ Some w → ⊥
    waits_not w e = (cc)

    runs_on : (u : ℕ) → u ≢ t → has_ended (object_at d.objects u) ≡ false → has_ended (object_at (set d.objects t (Thread true)) u) ≡ false
    runs_on u differs runs = ap has_ended (object_at-set_other d.objects t u (Thread true) differs) ∙ runs

    threads : (k : ℕ) → is_thread (object_at (set d.objects t (Thread true)) k) ≡ is_thread (object_at d.objects k)
    threads = reading_set is_thread d.objects t (Thread true) (sym own_thread)

    setters : (k : ℕ) → setter_of (object_at (set d.objects t (Thread true)) k) ≡ setter_of (object_at d.objects k)
    setters = reading_set setter_of d.objects t (Thread true) (sym (thread_unset (object_at d.objects t) own_thread))

    stays : (u : ℕ) → u ≢ t → given_up t (Some u) ≡ Some u
    stays u differs = ap (λ b. cond b None (Some u)) (same_no u t differs)

-- the dispatcher once the thread's own object says so, and its APCs are gone
abbrev pub with_ended : Dispatcher → ℕ → Apcs → Dispatcher
with_ended d t apcs = record d { objects = set d.objects t (Thread true); apcs = apcs; leaving = set d.leaving t true; standings = set d.standings t Ended; marked = record d.marked { changed = set d.marked.changed t true } }

pub own_ended : (old new : Dispatcher) (t : ℕ) (apcs : Apcs) → IsMachineSound old → fin.get old.table.pending t ≡ None → t < old.threads → has_ended (object_at old.objects t) ≡ false → ((h : ℕ) → setter_of (object_at old.objects h) ≢ Some t) → new ≡ with_ended old t apcs → apcs.queues ≡ cleared old.apcs.queues t → ((m : ℕ) → place_of apcs.places m ≡ given_up t (place_of old.apcs.places m)) → (state new ≡ record (state old) { objects = set old.objects t (Thread true); apcs = cleared old.apcs.queues t }) × IsMachineSound new × (new.grants ≡ old.grants) × (new.table ≡ old.table) × (new.marked ≡ record old.marked { changed = set old.marked.changed t true })
own_ended old new t apcs sound idle known running unset becomes queues places = (
  ap (λ (d : Dispatcher). state d) becomes ∙ ap (λ (qs : List (List Queued)). record (state old) { objects = set old.objects t (Thread true); apcs = qs }) queues,
  subst (λ (d : Dispatcher). IsMachineSound d) (sym becomes)
      (sound_marked (record old { objects = set old.objects t (Thread true); apcs = apcs; leaving = set old.leaving t true; standings = set old.standings t Ended }) (record old.marked { changed = set old.marked.changed t true })
      (ended_sound old t apcs sound idle known running unset (ap (λ qs. length qs) queues ∙ length-set old.apcs.queues t []) places)
      (record { changed = length-set old.marked.changed t true ∙ (sound.places.changed ∙ sym (length-set old.objects t (Thread true))); alerted = sound.places.alerted })),
  ap (λ (d : Dispatcher). d.grants) becomes,
  ap (λ (d : Dispatcher). d.table) becomes,
  ap (λ (d : Dispatcher). d.marked) becomes,
)

-- ---- the state

-- its mutexes are free, and marked
abbrev pub IsFreed : Dispatcher → ℕ → Dispatcher → Type 0
IsFreed old t mid = mid ≡ record old { objects = map (abandoned_by t) old.objects; owned = mid.owned; marked = record old.marked { changed = mid.marked.changed } }

pub exited_state : (old mid stopped new : Dispatcher) (t : ℕ) → IsFreed old t mid → IsStoppedAfter mid t stopped → state new ≡ record (state stopped) { objects = set stopped.objects t (Thread true); apcs = cleared stopped.apcs.queues t } → state new ≡ exited (state old) t
exited_state old mid stopped new t frees stops ends = ends ∙ ap (λ (s : State). record s { objects = set s.objects t (Thread true); apcs = cleared s.apcs t }) before
  where
    objects : stopped.objects ≡ map (left t) old.objects
    objects = stopped_objects mid.objects stopped.objects t stops.stopped ∙ (ap (λ (d : Dispatcher). map (unset_by t) d.objects) frees ∙ mapped_twice (unset_by t) (abandoned_by t) old.objects)

    before : state stopped ≡ record (state old) { objects = map (left t) old.objects }
    before =
        ap (λ (d : Dispatcher). state d) stops.rest
        ∙ (ap (λ (d : Dispatcher). state (record d { objects = stopped.objects; alarms = stopped.alarms })) frees
        ∙ ap (λ (os : List Object). record (state old) { objects = os }) objects)

-- its own object is as before
pub stopped_own : (old mid stopped : Dispatcher) (t : ℕ) → IsMachineSound old → t < old.threads → has_ended (object_at old.objects t) ≡ false → IsFreed old t mid → IsStoppedAfter mid t stopped → object_at stopped.objects t ≡ Thread false
stopped_own old mid stopped t sound known runs frees stops =
    ap (λ (os : List Object). object_at os t) (stopped_objects mid.objects stopped.objects t stops.stopped)
    ∙ (ap (λ (d : Dispatcher). object_at (map (unset_by t) d.objects) t) frees
    ∙ (mapped_at (unset_by t) refl (map (abandoned_by t) old.objects) t
    ∙ (ap (unset_by t) (mapped_at (abandoned_by t) refl old.objects t)
    ∙ ap (λ o. unset_by t (abandoned_by t o)) (runs_before old t sound known runs))))

-- once its timers are stopped the thread has armed none with a routine
pub none_set : (mid stopped : Dispatcher) (t : ℕ) → IsStoppedAfter mid t stopped → (h : ℕ) → setter_of (object_at stopped.objects h) ≢ Some t
none_set mid stopped t stops h sets =
    let objects = stopped_objects mid.objects stopped.objects t stops.stopped in
    unset_all t (object_at mid.objects h) (sym (ap setter_of (ap (λ (os : List Object). object_at os h) objects ∙ mapped_at (unset_by t) refl mid.objects h)) ∙ sets)

-- the mutexes of the thread were freed and marked in the lists that the dispatcher keeps
pub freed_in : (v old : Dispatcher) (t : ℕ) (items : List Object) (owned : List (List ℕ)) (changed : List Bool) → v ≡ old → items ≡ map (abandoned_by t) v.objects → record v { objects = items; owned = owned; marked = record v.marked { changed = changed } } ≡ record old { objects = map (abandoned_by t) old.objects; owned = owned; marked = record old.marked { changed = changed } }
freed_in v old t items owned changed same is =
    ap (λ (os : List Object). record v { objects = os; owned = owned; marked = record v.marked { changed = changed } }) is
    ∙ ap (λ (x : Dispatcher). record x { objects = map (abandoned_by t) x.objects; owned = owned; marked = record x.marked { changed = changed } }) same

pub freed_sound : (old mid : Dispatcher) (t : ℕ) → IsMachineSound old → length mid.marked.changed ≡ length old.marked.changed → IsFreed old t mid → IsMachineSound mid
freed_sound old mid t sound count frees =
    subst IsMachineSound (sym frees)
    (sound_marked (record old { objects = map (abandoned_by t) old.objects; owned = mid.owned }) (record old.marked { changed = mid.marked.changed }) (abandoned_sound old t mid.owned sound)
    (record { changed = count ∙ (sound.places.changed ∙ sym (length-map old.objects (abandoned_by t))); alerted = sound.places.alerted }))

-- ---- what is marked

setter_before : (old : Dispatcher) (t h : ℕ) → IsMachineSound old → setter_of (object_at (map (abandoned_by t) old.objects) h) ≡ setter_of (object_at old.objects h)
setter_before old t h sound = ap setter_of (mapped_at (abandoned_by t) refl old.objects h) ∙ abandoned_setter t (object_at old.objects h) (sound.objects h)

-- its mutexes, then its timers, and its own object were marked
pub record AreMarked (old : Dispatcher) (t : ℕ) (freed stopped ended : List Bool) : Type 0 where
  pub none : NoneMarked old.marked.changed
  pub mutexes : AddsMarks (λ m. owned_by (object_at old.objects m) t ≡ true) old.marked.changed freed
  pub timers : AddsMarks (IsSetBy (map (abandoned_by t) old.objects) t) freed stopped
  pub own : ended ≡ set stopped t true

-- what is marked is exactly what its end changes
pub marked_changed : (old : Dispatcher) (t : ℕ) (freed stopped ended : List Bool) → IsMachineSound old → t < old.threads → has_ended (object_at old.objects t) ≡ false → AreMarked old t freed stopped ended → (h : ℕ) → (is_marked ended h ≡ true) ↔ IsChanged old.objects (objects_left old.objects t) h
marked_changed old t freed stopped ended sound known runs marks h = (
  λ mark. altered_changed old t h sound known runs (to (cases_eq h t) (ap (λ (m : List Bool). is_marked m h) (sym marks.own) ∙ mark)),
  λ changed. ap (λ (m : List Bool). is_marked m h) marks.own ∙ from (altered_or_same old.objects t h) changed,
)
  where
    to : (h ≡ t) ⊎ (h ≢ t) → is_marked (set stopped t true) h ≡ true → IsAltered old.objects t h
    to (inl same) mark = inr (inr (sym same))
    to (inr differs) mark = elim ((marks.timers.exactly h).0 (sym (get_or-set_other stopped t h true false differs) ∙ mark)) [
      | inl before ↦ elim ((marks.mutexes.exactly h).0 before) [
        | inl first ↦ absurd (marks.none h first)
        | inr owned ↦ inl owned
      ]
      | inr sets ↦ inr (inl (sym (setter_before old t h sound) ∙ sets))
    ]

    place : t < length stopped
    place =
        let there = (sound.own t known).0 in
        let places = sound.places.changed in
        let a = marks.mutexes.count in
        let b = marks.timers.count in
        omega (arith, there, places, a, b)

    from : IsAltered old.objects t h ⊎ (object_at (objects_left old.objects t) h ≡ object_at old.objects h) → IsChanged old.objects (objects_left old.objects t) h → is_marked (set stopped t true) h ≡ true
    from (inl (inl owned)) changed = set_kept stopped t h ((marks.timers.exactly h).1 (inl ((marks.mutexes.exactly h).1 (inr owned))))
    from (inl (inr (inl sets))) changed = set_kept stopped t h ((marks.timers.exactly h).1 (inr (setter_before old t h sound ∙ sets)))
    from (inl (inr (inr own))) changed = subst (λ (k : ℕ). is_marked (set stopped t true) k ≡ true) own (set_mark stopped t place)
    from (inr same) changed = absurd (changed.1 same)

-- ---- waits are served

-- the marked places are those of the objects that changed
pub exited_places : (old mid : Dispatcher) (t : ℕ) → IsExitedAfter old t mid → AreRising (IsChanged old.objects (objects_left old.objects t)) (marked_places mid.marked.changed)
exited_places old mid t left =
    subst (λ (os : List Object). AreRising (IsChanged old.objects os) (marked_places mid.marked.changed)) (ap (λ (s : State). s.objects) left.becomes)
    (places_rising (IsChanged old.objects mid.objects) mid.marked.changed left.changed)

pub exited_fit : (old : Dispatcher) (t : ℕ) (numbers : List ℕ) → IsSteady old → t < old.threads → has_ended (object_at old.objects t) ≡ false → AreRising (IsChanged old.objects (objects_left old.objects t)) numbers → FitOnlyIn (sequence (exited (state old) t) numbers) (exited (state old) t)
exited_fit old t numbers steady known runs changed = fit_only_in numbers old (objects_left old.objects t) steady.sound steady.settled.served only
  where
    only : ChangedOnlyAt numbers old.objects (objects_left old.objects t)
    only h there = elim (altered_or_same old.objects t h) [
      | inl altered ↦ inr ((changed.exactly h).1 (altered_changed old t h steady.sound known runs altered))
      | inr same ↦ inl same
    ]

sequence_few : (s : State) (numbers : List ℕ) → ((h : ℕ) → length (s.queues h) ≤ 4096) → length (sequence s numbers) ≤ 4096 * length numbers
sequence_few s [] few = omega arith
sequence_few s (h ∷ numbers) few =
    let here = few h in
    let rest = sequence_few s numbers few in
    let both = length-append (s.queues h) (flat_map s.queues numbers) in
    omega (arith, here, rest, both)

pub exited_few : (old : Dispatcher) (t : ℕ) (numbers : List ℕ) → IsMachineSound old → AreRising (IsChanged old.objects (objects_left old.objects t)) numbers → length (sequence (exited (state old) t) numbers) < 2 ^ 64
exited_few old t numbers sound changed =
    let few = few_below (length old.objects) numbers (rising_once numbers changed.rising) (λ h m. ((changed.exactly h).0 m).0) in
    let most = sequence_few (exited (state old) t) numbers (λ h. queue_few old h sound) in
    let limit = sound.handles.few in
    omega (arith, few, most, limit)

pub exited_accepted : (old mid new : Dispatcher) (t : ℕ) (numbers : List ℕ) → IsFresh old → IsExitedAfter old t mid → AreRising (IsChanged old.objects (objects_left old.objects t)) numbers → Serve (sequence (state mid) numbers) (state mid) new.grants (state new) → IsMachineSound new → new.table.looked ≤ length (sequence (state mid) numbers) → length new.grants ≤ new.table.looked → IsUnmarked new.marked → Accepts old new t Call.Exit Reply.Done
exited_accepted old mid new t numbers fresh after changed serve sound most least unmarked =
    let served : Serve (sequence (state old) numbers) (exited (state old) t) new.grants (state new) = subst (λ (s : State). Serve (sequence s numbers) s new.grants (state new)) after.becomes serve in
    let steady : IsSteady new = record {
      sound = sound;
      settled = settled_after (sequence (state old) numbers) (exited (state old) t) (state new) new.grants served (calm_exited (state old) t fresh.steady.settled.alerted) (due_exited old t old.now fresh.steady.sound fresh.steady.settled.passed);
      unmarked = unmarked;
    } in
    accepted old new new t Call.Exit Reply.Done (record {
      numbers = numbers;
      changed = changed;
      serves = served;
      sound = sound;
      most = subst (λ (s : State). new.table.looked ≤ length (sequence s numbers)) after.becomes most;
      least = least;
      unmarked = unmarked;
    }) refl refl refl steady refl
