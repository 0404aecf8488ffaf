-- What one visit does, from what the code of it says.
use Rattle.std.proofs.Common.{◌≡◌, ◌≢◌, ℕ, ◌+◌, ◌<◌, ◌-◌, ◌^◌, Bool, true, false, List, [], ◌∷◌, ◌++◌, length, length-append, set, refl, sym, ap, ◌∙◌, subst, arith, Option, Some, None, is_some, Contains}
use Rattle.std.proofs.lemmas.List.{length-set}
use Rattle.std.proofs.lemmas.Bool.{false≢true}
use Rattle.std.specs.Ordering.{nat_cmp}
use Rattle.std.specs.Cmp.{nat_cmp_total}
use Rattle.std.specs.FinMap as map
use Rattle.nt_waits.specs.declared.wait.Wait.{Wait}
use Rattle.nt_waits.specs.Waits.{Waits, queue_of, others, Agrees, counted_once, only_among, only_of}
use Rattle.std.specs.Option.{option_map, IsSome}
use Rattle.std.proofs.lemmas.Option.{same_Some}
use Rattle.nt_objects.specs.declared.object.Object.{Object}
use Rattle.nt_calls.specs.declared.call.Grant.{Grant}
use Rattle.nt_calls.specs.State.{State, Pending, object_at}
use Rattle.nt_machine.specs.Dispatcher.{Dispatcher, state}
use Rattle.nt_calls.specs.Serving.{fits, satisfied, wait_granted, IsTried, CanTake}
use Rattle.nt_machine.specs.Visits.{IsVisited}
use Rattle.nt_machine.specs.Lawful.{IsSoundWait, IsMachineSound, MarksAgreeBut}
use Rattle.nt_objects.specs.Object.{has_room, signaled, owned_by, IsLawfulObject}
use Rattle.nt_objects.specs.declared.object.Object.TheVariants.{Event, Semaphore, Mutex, Timer, Thread, Gone}
use Rattle.std.proofs.lemmas.Bool.Decides.{nat_tests}
use Rattle.std.specs.Prelude.{slice_index}
use Rattle.std.proofs.Common.{not, ◌&&◌, inl, inr}
use Rattle.nt_status.proofs.Lists.{contains_none, contains_cases}
use Rattle.nt_machine.proofs.Handling.{handles_along}
use Rattle.nt_machine.proofs.Keeping.{TakesWell, objects_taken_well, taken_timers, own_kept, idle_kept}
use Rattle.nt_machine.proofs.Marking.{marks_along, marks_ended, named_member}
use Rattle.nt_machine.proofs.Walks.{get_removed, get_same, get_other}
use Rattle.nt_machine.proofs.Standings.{standings_set, standing_free}
use Rattle.nt_machine.specs.declared.standing.Standing.TheVariants.{Free}

pub counted : (n : ℕ) → n + 1 < 2 ^ 64 → counted_once n ≡ n + 1
counted n small = grind (arith, small)

pub len_removed : (m : Pending) (t : ℕ) (w : Wait) → map.get m t ≡ Some w → map.len (map.remove m t) + 1 ≡ map.len m
len_removed m t w e =
    let has : map.contains_key m t ≡ true = ap (λ (o : Option Wait). is_some o) e in
    let fewer : map.len (map.remove m t) ≡ map.len m - 1 = map.len-remove nat_cmp_total m t ∙ rw has refl in
    let some : map.len m ≢ 0 = λ none.
    let absent : Some w ≡ None = sym e ∙ (ap (λ n. map.get n t) (map.empty_of_len m none) ∙ map.get-empty nat_cmp t) in
    (cc) in
    omega arith

-- a pending wait leaves room for its grant
pub room_for : (d : Dispatcher) (t : ℕ) (w : Wait) → IsMachineSound d → Some w ≡ map.get d.table.pending t → length d.grants < d.threads
room_for d t w sound has = let one = len_removed d.table.pending t w (sym has) in omega (arith, one, sound.room)

-- ---- a sound wait can take what it fits

-- a lawful object that is signaled for t, and no mutex that t holds at the limit, can be taken
room_of : (o : Object) (t : ℕ) → IsLawfulObject o → (owned_by o t && not (has_room o)) ≡ false → signaled o t ≡ true → has_room o ≡ true
room_of (Event manual set) t lawful below ready = refl
room_of (Semaphore count maximum) t lawful below ready = refl
room_of (Mutex None depth abandoned) t lawful below ready = grind (arith, nat_tests, lawful)
room_of (Mutex (Some owner) depth abandoned) t lawful below ready = go (has_room (Mutex (Some owner) depth abandoned)) refl
  where
    go : (b : Bool) → has_room (Mutex (Some owner) depth abandoned) ≡ b → b ≡ true
    go true is = refl
    go false is = let h : true ≡ false = sym (rw (ready, is) refl) ∙ below in absurd (false≢true (sym h))
room_of (Timer manual set armed) t lawful below ready = refl
room_of (Thread ended) t lawful below ready = refl
room_of Gone t lawful below ready = refl

pub can_take : (objects : List Object) (t threads : ℕ) (w : Wait) → ((h : ℕ) → IsLawfulObject (object_at objects h)) → IsSoundWait threads objects t w → CanTake objects t w.objects
can_take objects t threads w lawful sound j below ready =
    let h = slice_index w.objects j in
    room_of (object_at objects h) t (lawful h) (sound.named h (j, below, refl)).1 ready

-- ---- the visited wait stays

pub looked_sound : (d : Dispatcher) (looked : ℕ) → IsMachineSound d → IsMachineSound (record d { table = record d.table { looked = looked } })
looked_sound d looked sound = record {
  few = sound.few;
  waits = sound.waits;
  blocks = sound.blocks;
  hands = sound.hands;
  standings = sound.standings;
  inboxes = sound.inboxes;
  objects = sound.objects;
  own = sound.own;
  none_else = sound.none_else;
  timers = sound.timers;
  handles = sound.handles;
  marks = marks_along refl refl refl (λ o. refl) refl sound.marks;
  places = sound.places;
  room = sound.room;
}

pub visit_passed : (old : Dispatcher) (t : ℕ) (w : Wait) (objects : List Object) (owned : List (List ℕ)) (table : Waits) → IsMachineSound old → old.table.looked + 1 < 2 ^ 64 → Some w ≡ map.get old.table.pending t → fits old.objects t w ≡ false → objects ≡ old.objects → owned ≡ old.owned → table ≡ record old.table { looked = counted_once old.table.looked } → IsVisited old (record old { objects = objects; owned = owned; table = table }) t × IsMachineSound (record old { objects = objects; owned = owned; table = table })
visit_passed old t w objects owned table sound small has unfit same lists looked =
    let is : record old { objects = objects; owned = owned; table = table } ≡ record old { table = record old.table { looked = old.table.looked + 1 } } =
    λ i. record old { objects = same i; owned = lists i; table = (looked ∙ ap (λ n. record old.table { looked = n }) (counted old.table.looked small)) i } in
    subst (λ (new : Dispatcher). IsVisited old new t × IsMachineSound new) (sym is) (
      inr (record {
        unfit = ap (λ o. satisfied old.objects t o) (sym has) ∙ unfit;
        stays = refl;
        grants = refl;
        looked = refl;
        marked = refl;
      }),
      looked_sound old (old.table.looked + 1) sound,
    )

-- ---- a wait for one handle alone

one_among : (hs : List ℕ) (b : Bool) (h : ℕ) (all : Bool) → only_among hs b ≡ Some (h, all) → ◌≡◌ {A = List ℕ × Bool} (hs, b) (h ∷ [], all)
one_among [] b h all e = (cc)
one_among (x ∷ []) b h all e = let same : ◌≡◌ {A = ℕ × Bool} (x, b) (h, all) = same_Some (x, b) (h, all) e in ap (λ (p : ℕ × Bool). (p.0 ∷ [], p.1)) same
one_among (x ∷ y ∷ hs) b h all e = (cc)

-- it is the thread's pending wait
pub only_wait : (o : Option Wait) (h : ℕ) (all : Bool) → option_map only_of o ≡ Some (Some (h, all)) → (w : Wait) × (Some w ≡ o) × ◌≡◌ {A = List ℕ × Bool} (w.objects, w.all) (h ∷ [], all)
only_wait None h all e = (cc)
only_wait (Some w) h all e = (w, refl, one_among w.objects w.all h all (same_Some (only_of w) (Some (h, all)) e))

-- ---- the visited wait ends

pub state_same : (s r : State) → s.threads ≡ r.threads → s.handles ≡ r.handles → s.objects ≡ r.objects → s.waits ≡ r.waits → ((h : ℕ) → s.queues h ≡ r.queues h) → s.apcs ≡ r.apcs → s.handing ≡ r.handing → s.now ≡ r.now → s ≡ r
state_same s r threads handles objects waits queues apcs handing now =
    λ i. record { threads = threads i; handles = handles i; objects = objects i; waits = waits i; queues = λ h. queues h i; apcs = apcs i; handing = handing i; now = now i }

pub same_wait : (v w : Wait) → Some v ≡ Some w → v ≡ w
same_wait v w e = (cc)

-- whoever stands in a queue has a wait
pub stands_waits : (d : Dispatcher) (t h : ℕ) → IsMachineSound d → Contains (queue_of d.table h) t → IsSome (map.get d.table.pending t)
stands_waits d t h sound stands = ap is_some (sound.blocks.named t h stands).1

-- where that wait names one handle alone, it is this one
pub only_this : (d : Dispatcher) (t h only : ℕ) (all : Bool) → IsMachineSound d → Contains (queue_of d.table h) t → option_map only_of (map.get d.table.pending t) ≡ Some (Some (only, all)) → option_map only_of (map.get d.table.pending t) ≡ Some (Some (h, all))
only_this d t h only all sound stands told =
    let named = sound.blocks.named t h stands in
    let w = only_wait (map.get d.table.pending t) only all told in
    let same : named.0 ≡ w.0 = same_wait named.0 w.0 (sym named.1 ∙ sym w.1) in
    let one : Contains (only ∷ []) h = named_member (only ∷ []) named.0 h (ap (λ (v : Wait). v.objects) same ∙ ap (λ (p : List ℕ × Bool). p.0) w.2) named.2 in
    elim (contains_cases only [] h one) [
      | inl here ↦ subst (λ (k : ℕ). option_map only_of (map.get d.table.pending t) ≡ Some (Some (k, all))) here told
      | inr none ↦ absurd (contains_none h none)
    ]

-- after it what it named may lack its mark
pub visit_unmarked : (old : Dispatcher) (t code : ℕ) (w : Wait) (objects : List Object) (owned : List (List ℕ)) (table : Waits) (grants : List Grant) → IsMachineSound old → Some w ≡ map.get old.table.pending t → IsTried old.objects objects t w (Some code) → ((h : ℕ) → queue_of table h ≡ others t (queue_of old.table h)) → MarksAgreeBut w.objects (record old { objects = objects; owned = owned; table = table; handing = set old.handing t false; standings = set old.standings t Free; grants = grants })
visit_unmarked old t code w objects owned table grants sound has tried queues =
    let own = sound.waits t w (sym has) in
    let well = subst (λ (os : List Object). TakesWell old.objects os t) (sym tried.2) (objects_taken_well old.objects t w own.apart (can_take old.objects t old.threads w sound.objects own) tried.0) in
    marks_ended old (record old { objects = objects; owned = owned; table = table; handing = set old.handing t false; standings = set old.standings t Free; grants = grants }) t w sound (sym has) refl refl refl queues well.length well.gone well.ended

pub visit_granted : (old : Dispatcher) (t code : ℕ) (w : Wait) (objects : List Object) (owned : List (List ℕ)) (table : Waits) (grants : List Grant) (leaving : List Bool) → IsMachineSound old → Some w ≡ map.get old.table.pending t → IsTried old.objects objects t w (Some code) → table.pending ≡ map.remove old.table.pending t → ((h : ℕ) → queue_of table h ≡ others t (queue_of old.table h)) → table.looked ≡ old.table.looked + 1 → Agrees table.pending table.queues → grants ≡ old.grants ++ record { thread = t; status = code } ∷ [] → MarksAgreeBut [] (record old { objects = objects; owned = owned; table = table; handing = set old.handing t false; standings = set old.standings t Free; grants = grants; leaving = leaving }) → IsVisited old (record old { objects = objects; owned = owned; table = table; handing = set old.handing t false; standings = set old.standings t Free; grants = grants; leaving = leaving }) t × IsMachineSound (record old { objects = objects; owned = owned; table = table; handing = set old.handing t false; standings = set old.standings t Free; grants = grants; leaving = leaving })
visit_granted old t code w objects owned table grants leaving sound has tried waits queues looked agrees pushed marks =
    let new : Dispatcher = record old { objects = objects; owned = owned; table = table; handing = set old.handing t false; standings = set old.standings t Free; grants = grants; leaving = leaving } in
    let own = sound.waits t w (sym has) in
    let well = subst (λ (os : List Object). TakesWell old.objects os t) (sym tried.2) (objects_taken_well old.objects t w own.apart (can_take old.objects t old.threads w sound.objects own) tried.0) in
    let longer : length grants ≡ length old.grants + 1 = ap (λ gs. length gs) pushed ∙ length-append old.grants (record { thread = t; status = code } ∷ []) in
    let fewer = len_removed old.table.pending t w (sym has) in
    let same : map.len table.pending ≡ map.len (map.remove old.table.pending t) = ap (λ m. map.len m) waits in (
      inl (record {
        wait = w;
        due = record { pends = sym has; fits = tried.0; status = refl };
        becomes = state_same (state new) (wait_granted (state old) t w) refl refl tried.2 waits queues refl refl refl;
        grants = pushed ∙ ap (λ (s : ℕ). old.grants ++ record { thread = t; status = s } ∷ []) tried.1;
        looked = looked;
        marked = refl;
      }),
      record {
        few = sound.few;
        waits = λ u v pends.
            let before = get_removed old.table.pending t u v (ap (λ m. map.get m u) (sym waits) ∙ pends) in
            let other = sound.waits u v before.1 in
            record {
              known = other.known;
              runs = well.ended u ∙ other.runs;
              few = other.few;
              apart = other.apart;
              named = λ h names. (subst (λ (n : ℕ). h < n) (sym well.length) (other.named h names).0, well.unlimited u before.0 h (other.named h names).1);
              living = λ h names. well.gone h ∙ other.living h names;
            };
        blocks = agrees;
        hands = length-set old.handing t false ∙ sound.hands;
        standings = standings_set old.threads old.objects objects old.table.pending table.pending old.standings t Free (standing_free objects table.pending t (well.ended t ∙ own.runs) (ap (λ m. map.get m t) waits ∙ get_same old.table.pending t)) (λ u differs. well.ended u) (λ u differs. ap (λ m. map.get m u) waits ∙ get_other old.table.pending t u differs) sound.standings;
        inboxes = sound.inboxes;
        objects = well.lawful sound.objects;
        own = λ u below. (subst (λ (n : ℕ). u < n) (sym well.length) (sound.own u below).0, own_kept _ _ (well.threads u) (well.gone u) (sound.own u below).1);
        none_else = λ h beyond known. idle_kept _ _ (well.threads h) (well.ended h) (sound.none_else h beyond (subst (λ (n : ℕ). h < n) well.length known));
        timers = taken_timers old.threads old.objects objects old.alarms old.apcs.places t sound.timers well;
        handles = handles_along old.handles well.length sound.handles;
        marks = marks;
        places = record { changed = sound.places.changed ∙ sym well.length; alerted = sound.places.alerted };
        room = omega (arith, sound.room, longer, fewer, same);
      },
    )
