-- A wait that begins.
use Rattle.std.proofs.Common.{◌≡◌, ◌≢◌, ℕ, zero, suc, ◌+◌, ◌≤◌, ◌<◌, ◌-◌, Bool, true, false, ◌&&◌, ◌||◌, List, [], ◌∷◌, ◌++◌, length, length-append, set, refl, sym, ap, ◌∙◌, subst, arith, Option, Some, None, is_some, inl, inr, ◌⊎◌, T, map, ◌==◌}
use Rattle.std.specs.Prelude.{nat_lt, slice_index, if◌then◌else◌}
use Rattle.std.specs.List.{list_any}
use Rattle.std.specs.Ordering.{nat_cmp, eq_by_cmp, is_lt, MatchOrdering}
use Rattle.std.specs.declared.cmp.Ordering.{Ordering}
use Rattle.std.specs.declared.cmp.Ordering.TheVariants.{Less, Equal, Greater}
use Rattle.std.specs.Cmp.{nat_cmp_total, ranks, unsigned_tied}
use Rattle.std.specs.FinMap as fin
use Rattle.std.specs.FinMap.Entries.{is_sorted, below_all}
use Rattle.std.proofs.lemmas.Bool.{false≢true, eqb-true, eq-eqb}
use Rattle.std.proofs.lemmas.Bool.Decides.{nat_tests}
use Rattle.nt_waits.specs.declared.wait.Wait.{Wait}
use Rattle.nt_waits.specs.Waits.{Waits, queue_of, Agrees, Names}
use Rattle.nt_calls.specs.declared.call.Reply.{Reply}
use Rattle.nt_calls.specs.State.{State, Pending, wait_names, pending_too}
use Rattle.nt_machine.specs.Dispatcher.{Dispatcher, state}
use Rattle.nt_machine.specs.Lawful.{IsSoundWait, IsMachineSound, IsUnmarked}
use Rattle.std.proofs.lemmas.List.{length-set}
use Rattle.nt_status.specs.declared.limits.TheConstants.{INFINITE}
use Rattle.nt_apc.specs.Queues.{has_apc}
use Rattle.nt_objects.specs.declared.object.Object.{Object}
use Rattle.nt_objects.specs.Object.{due_of, units}
use Rattle.nt_calls.specs.State.{object_at, deadline_after}
use Rattle.nt_calls.specs.Serving.{fits, is_ready, satisfied, is_due, IsTried}
use Rattle.nt_calls.specs.Steps.{begun, IsAwaited}
use Rattle.nt_machine.specs.Lawful.{IsSettled, IsSteady}
use Rattle.nt_machine.proofs.Handling.{handles_along}
use Rattle.nt_machine.proofs.Taking.{unready_after}
use Rattle.nt_machine.proofs.Keeping.{TakesWell, objects_taken_well, taken_timers, own_kept, idle_kept}
use Rattle.nt_machine.proofs.Marking.{marks_along, marks_same, marks_begun}
use Rattle.nt_machine.proofs.Changing.{served_fewer, due_kept}
use Rattle.nt_machine.proofs.Accepting.{due_taken_by}
use Rattle.nt_machine.proofs.Visiting.{state_same, can_take}
use Rattle.nt_machine.proofs.Walks.{tied, apart}
use Rattle.nt_machine.proofs.Standings.{standings_kept, standings_set, standing_waits}
use Rattle.nt_machine.specs.declared.standing.Standing.TheVariants.{Waiting}

-- ---- the map of waits with one more

get_new : (m : Pending) (t : ℕ) (w : Wait) → fin.get (fin.insert m t w) t ≡ Some w
get_new m t w = fin.get-insert nat_cmp_total m t w t ∙ rw (tied t t refl) refl

get_old : (m : Pending) (t q : ℕ) (w : Wait) → q ≢ t → fin.get (fin.insert m t w) q ≡ fin.get m q
get_old m t q w differs = fin.get-insert nat_cmp_total m t w q ∙ rw (apart q t differs) refl

pub get_inserted : (m : Pending) (t q : ℕ) (w v : Wait) → fin.get (fin.insert m t w) q ≡ Some v → ((q ≡ t) × (w ≡ v)) ⊎ (fin.get m q ≡ Some v)
get_inserted m t q w v e = go (eq_by_cmp nat_cmp q t) refl
  where
    go : (b : Bool) → eq_by_cmp nat_cmp q t ≡ b → ((q ≡ t) × (w ≡ v)) ⊎ (fin.get m q ≡ Some v)
    go true is =
        let h : Some w ≡ Some v = sym (fin.get-insert nat_cmp_total m t w q ∙ rw is refl) ∙ e in
        let same : w ≡ v = (cc) in
        inl (eqb-true q t (sym (unsigned_tied q t) ∙ is), same)
    go false is = inr (sym (fin.get-insert nat_cmp_total m t w q ∙ rw is refl) ∙ e)

pub len_inserted : (m : Pending) (t : ℕ) (w : Wait) → fin.get m t ≡ None → fin.len (fin.insert m t w) ≡ fin.len m + 1
len_inserted m t w e =
    let absent : fin.contains_key m t ≡ false = ap (λ (o : Option Wait). is_some o) e in
    fin.len-insert nat_cmp_total m t w ∙ rw absent refl

-- ---- which handles a wait names

pub names_yes : (hs : List ℕ) (h : ℕ) → list_any (λ named. named == h) hs ≡ true → (j : ℕ) × (j < length hs) × (slice_index hs j ≡ h)
names_yes [] h e = let f : false ≡ true = e in absurd (false≢true f)
names_yes (x ∷ hs) h e = go (names_yes hs h) (x == h) refl
  where
    later : (j : ℕ) × (j < length hs) × (slice_index hs j ≡ h) → (j : ℕ) × (j < length (x ∷ hs)) × (slice_index (x ∷ hs) j ≡ h)
    later found = (suc found.0, omega (arith, found.1), found.2)

    go : (list_any (λ named. named == h) hs ≡ true → (j : ℕ) × (j < length hs) × (slice_index hs j ≡ h)) → (b : Bool) → (x == h) ≡ b → (j : ℕ) × (j < length (x ∷ hs)) × (slice_index (x ∷ hs) j ≡ h)
    go rest true is = (zero, omega arith, eqb-true x h is)
    go rest false is = let found : list_any (λ named. named == h) hs ≡ true = rw is at e in later (rest found)

pub names_no : (hs : List ℕ) (h : ℕ) → list_any (λ named. named == h) hs ≡ false → (j : ℕ) → j < length hs → slice_index hs j ≡ h → ⊥
names_no [] h e j below is = absurd (omega (arith, below))
names_no (x ∷ hs) h e zero below is = false≢true (sym e ∙ rw (eq-eqb x h is) refl)
names_no (x ∷ hs) h e (suc j) below is = names_no hs h (second (x == h) (list_any (λ named. named == h) hs) e) j (omega (arith, below)) is
  where
    second : (a b : Bool) → (a || b) ≡ false → b ≡ false
    second true b e = absurd (false≢true (sym e))
    second false b e = e

-- ---- the state in which one wait more pends

pub pends_too : (old : Dispatcher) (table : Waits) (t : ℕ) (w : Wait) → table.pending ≡ fin.insert old.table.pending t w → ((h : ℕ) → Names w h → queue_of table h ≡ queue_of old.table h ++ t ∷ []) → ((h : ℕ) → (Names w h → ⊥) → queue_of table h ≡ queue_of old.table h) → state (record old { table = table }) ≡ pending_too (state old) t w
pends_too old table t w pending joined kept =
    state_same (state (record old { table = table })) (pending_too (state old) t w) refl refl refl pending (λ h. queue h (wait_names w h) refl) refl refl refl
  where
    queue : (h : ℕ) (b : Bool) → wait_names w h ≡ b → queue_of table h ≡ (if wait_names w h then queue_of old.table h ++ t ∷ [] else queue_of old.table h)
    queue h true is = rw is (joined h (names_yes w.objects h is))
    queue h false is = rw is (kept h (λ named. names_no w.objects h is named.0 named.1 named.2))

-- no queue is shorter then
pub queues_longer : (old table : Waits) (t : ℕ) (w : Wait) → ((h : ℕ) → Names w h → queue_of table h ≡ queue_of old h ++ t ∷ []) → ((h : ℕ) → (Names w h → ⊥) → queue_of table h ≡ queue_of old h) → (h : ℕ) → nat_lt 0 (length (queue_of old h)) ≡ true → nat_lt 0 (length (queue_of table h)) ≡ true
queues_longer old table t w joined kept h some = go (wait_names w h) refl
  where
    go : (b : Bool) → wait_names w h ≡ b → nat_lt 0 (length (queue_of table h)) ≡ true
    go true is =
        let longer : length (queue_of table h) ≡ length (queue_of old h) + 1 = ap (λ q. length q) (joined h (names_yes w.objects h is)) ∙ length-append (queue_of old h) (t ∷ []) in
        grind (arith, nat_tests, longer)
    go false is = ap (λ q. nat_lt 0 (length q)) (kept h (λ named. names_no w.objects h is named.0 named.1 named.2)) ∙ some

pub sound_begun : (old : Dispatcher) (table : Waits) (t : ℕ) (w : Wait) → IsMachineSound old → IsSoundWait old.threads old.objects t w → fin.get old.table.pending t ≡ None → length old.grants + fin.len old.table.pending < old.threads → table.pending ≡ fin.insert old.table.pending t w → Agrees table.pending table.queues → ((h : ℕ) → nat_lt 0 (length (queue_of old.table h)) ≡ true → nat_lt 0 (length (queue_of table h)) ≡ true) → IsMachineSound (record old { table = table; standings = set old.standings t Waiting })
sound_begun old table t w sound able idle room pending agrees more = record {
  few = sound.few;
  waits = λ u v pends. go u v (get_inserted old.table.pending t u w v (ap (λ m. fin.get m u) (sym pending) ∙ pends));
  blocks = agrees;
  hands = sound.hands;
  standings = standings_set old.threads old.objects old.objects old.table.pending table.pending old.standings t Waiting (standing_waits old.objects table.pending t w able.runs (ap (λ m. fin.get m t) pending ∙ get_new old.table.pending t w)) (λ u differs. refl) (λ u differs. ap (λ m. fin.get m u) pending ∙ get_old old.table.pending t u w differs) sound.standings;
  inboxes = sound.inboxes;
  objects = sound.objects;
  own = sound.own;
  none_else = sound.none_else;
  timers = sound.timers;
  handles = sound.handles;
  marks = marks_along refl refl refl (λ o. refl) refl (marks_begun old table more sound.marks);
  places = sound.places;
  room = let more = len_inserted old.table.pending t w idle in let same : fin.len table.pending ≡ fin.len (fin.insert old.table.pending t w) = ap (λ m. fin.len m) pending in omega (arith, room, more, same);
}
  where
    go : (u : ℕ) (v : Wait) → ((u ≡ t) × (w ≡ v)) ⊎ (fin.get old.table.pending u ≡ Some v) → IsSoundWait old.threads old.objects u v
    go u v (inl same) = rw (same.0, ← same.1) able
    go u v (inr older) = sound.waits u v older

-- ---- how many wait

T-first : (a b : Bool) → T (a && b) → T a
T-first true b p = tt
T-first false b p = p

T-second : (a b : Bool) → T (a && b) → T b
T-second true b p = p
T-second false b p = absurd p

or_right : (a b : Bool) → b ≡ true → (a || b) ≡ true
or_right true b e = refl
or_right false b e = e

lower : (A B C : Type 0) (r : Ordering) → MatchOrdering r A B C → T (is_lt r) → A
lower A B C Less p h = p
lower A B C Equal p h = absurd h
lower A B C Greater p h = absurd h

-- the keys are at least this
abbrev AtLeast : ℕ → List (ℕ × Wait) → Type 0
AtLeast low [] = Unit {0}
AtLeast low (e ∷ es) = (low ≤ e.0) × AtLeast low es

AtLeast-below_all : (x : ℕ) (es : List (ℕ × Wait)) → T (below_all nat_cmp x es) → AtLeast (x + 1) es
AtLeast-below_all x [] h = tt
AtLeast-below_all x (e ∷ es) h =
    let lt : x < e.0 = lower (x < e.0) (x ≡ e.0) (e.0 < x) (nat_cmp x e.0) (ranks x e.0) (T-first _ _ h) in
    (omega (arith, lt), AtLeast-below_all x es (T-second _ _ h))

tied_same : (a : ℕ) → eq_by_cmp nat_cmp a a ≡ true
tied_same a = unsigned_tied a a ∙ eq-eqb a a refl

-- sorted keys between two numbers are no more than lie between them
length_between : (es : List (ℕ × Wait)) (low n : ℕ) → T (is_sorted nat_cmp es) → AtLeast low es → ((q : ℕ) → list_any (eq_by_cmp nat_cmp q) (map (λ e. e.0) es) ≡ true → q < n) → length es ≤ n - low
length_between [] low n sorted least below = omega arith
length_between (e ∷ es) low n sorted least below =
    let here : e.0 < n = below e.0 (rw (tied_same e.0) refl) in
    let rest : length es ≤ n - (e.0 + 1) = length_between es (e.0 + 1) n (T-second _ _ sorted) (AtLeast-below_all e.0 es (T-first _ _ sorted)) (λ q h. below q (or_right _ _ h)) in
    let low' : low ≤ e.0 = least.0 in
    omega arith

AtLeast-zero : (es : List (ℕ × Wait)) → AtLeast 0 es
AtLeast-zero [] = tt
AtLeast-zero (e ∷ es) = (omega arith, AtLeast-zero es)

-- waits of threads below n are at most n
len_below : (m : Pending) (n : ℕ) → ((t : ℕ) (w : Wait) → fin.get m t ≡ Some w → t < n) → fin.len m ≤ n
len_below m n known =
    let below : (q : ℕ) → list_any (eq_by_cmp nat_cmp q) (fin.keys m) ≡ true → q < n = λ q h. waiter q (fin.get m q) refl (fin.contains_key-keys m q ∙ h) in
    let count = length_between (fin.entries m) 0 n (fin.entries_sorted m) (AtLeast-zero (fin.entries m)) below in
    rw (fin.len-entries m) (omega (arith, count))
  where
    waiter : (q : ℕ) (o : Option Wait) → fin.get m q ≡ o → is_some (fin.get m q) ≡ true → q < n
    waiter q None e h = let f : false ≡ true = sym (ap (λ (x : Option Wait). is_some x) e) ∙ h in absurd (false≢true f)
    waiter q (Some w) e h = known q w e

-- where one thread does not wait, there is room for its grant too
pub room_to_begin : (d : Dispatcher) (t : ℕ) (w : Wait) → IsMachineSound d → t < d.threads → fin.get d.table.pending t ≡ None → fin.len d.table.pending < d.threads
room_to_begin d t w sound known idle =
    let more = len_inserted d.table.pending t w idle in
    let few = len_below (fin.insert d.table.pending t w) d.threads all in
    omega (arith, more, few)
  where
    all : (u : ℕ) (v : Wait) → fin.get (fin.insert d.table.pending t w) u ≡ Some v → u < d.threads
    all u v pends = elim (get_inserted d.table.pending t u w v pends) [
      | inl same ↦ rw same.0 known
      | inr older ↦ (sound.waits u v older).known
    ]

-- no thread waits that there is not
pub nobody_beyond : (d : Dispatcher) (t : ℕ) → IsMachineSound d → d.threads ≤ t → is_some (fin.get d.table.pending t) ≡ false
nobody_beyond d t sound beyond = go (fin.get d.table.pending t) refl
  where
    go : (o : Option Wait) → fin.get d.table.pending t ≡ o → is_some o ≡ false
    go None e = refl
    go (Some w) e = let known = (sound.waits t w e).known in absurd (omega (arith, known, beyond))

-- ---- how the wait begins

pub not_zero : (n : ℕ) → n ≢ 0 → (n == 0) ≡ false
not_zero n e = grind (arith, nat_tests, e)

-- where nothing ends it at once, it pends
pub begun_pends : (s : State) (t : ℕ) (w : Wait) (ms : ℕ) → fits s.objects t w ≡ false → (w.alertable && has_apc s.apcs t) ≡ false → ms ≢ 0 → begun s t w ms ≡ (Reply.Pended, pending_too s t w)
begun_pends s t w ms unfit quiet later = rw (unfit, quiet, not_zero ms later) refl

-- a deadline lies ahead where the timeout is not 0
ahead : (now ms v : ℕ) → ms ≢ 0 → deadline_after now ms ≡ Some v → now < v
ahead now ms v later e = go (ms == INFINITE) e
  where
    go : (b : Bool) → (if b then None else Some (now + units ms)) ≡ Some v → now < v
    go true h = (cc)
    go false h = let is : now + units ms ≡ v = (cc) in omega (arith, is, later)

-- another thread's wait, where t's does not pend
other_waits : (d : Dispatcher) (t u : ℕ) (v : Wait) → fin.get d.table.pending t ≡ None → fin.get d.table.pending u ≡ Some v → u ≢ t
other_waits d t u v idle pends same = let h : None ≡ Some v = sym idle ∙ (ap (λ x. fin.get d.table.pending x) (sym same) ∙ pends) in absurd_none h
  where
    absurd_none : {P : Type 0} → None ≡ Some v → P
    absurd_none h = (cc)

-- t's new wait has taken its objects at once
pub began_taken : (old : Dispatcher) (objects : List Object) (owned : List (List ℕ)) (t code : ℕ) (w : Wait) → IsSteady old → IsSoundWait old.threads old.objects t w → fin.get old.table.pending t ≡ None → IsTried old.objects objects t w (Some code) → IsSteady (record old { objects = objects; owned = owned; handing = set old.handing t false })
began_taken old objects owned t code w steady able idle tried =
    let sound = steady.sound in
    let new : Dispatcher = record old { objects = objects; owned = owned; handing = set old.handing t false } in
    let well = subst (λ (os : List Object). TakesWell old.objects os t) (sym tried.2) (objects_taken_well old.objects t w able.apart (can_take old.objects t old.threads w sound.objects able) tried.0) in
    record {
      sound = record {
        few = sound.few;
        waits = λ u v pends.
            let other = sound.waits u v pends in
            let differs = other_waits old t u v idle pends in
            record {
              known = other.known;
              runs = well.ended u ∙ other.runs;
              few = other.few;
              apart = other.apart;
              named = λ h names. (subst (λ (n : ℕ). h < n) (sym well.length) (other.named h names).0, well.unlimited u differs h (other.named h names).1);
              living = λ h names. well.gone h ∙ other.living h names;
            };
        blocks = sound.blocks;
        hands = length-set old.handing t false ∙ sound.hands;
        standings = standings_kept old.threads old.objects objects old.table.pending old.standings (λ u below. well.ended u) sound.standings;
        inboxes = sound.inboxes;
        objects = well.lawful sound.objects;
        own = λ u below. (subst (λ (n : ℕ). u < n) (sym well.length) (sound.own u below).0, own_kept _ _ (well.threads u) (well.gone u) (sound.own u below).1);
        none_else = λ h beyond known. idle_kept _ _ (well.threads h) (well.ended h) (sound.none_else h beyond (subst (λ (n : ℕ). h < n) well.length known));
        timers = taken_timers old.threads old.objects objects old.alarms old.apcs.places t sound.timers well;
        handles = handles_along old.handles well.length sound.handles;
        marks = marks_same old new refl refl refl (λ h. refl) well.length well.gone well.ended sound.marks;
        places = record { changed = sound.places.changed ∙ sym well.length; alerted = sound.places.alerted };
        room = sound.room;
      };
      settled = record {
        served = served_fewer (state old) objects steady.settled.served (λ u k e. subst (λ (os : List Object). is_ready os u k ≡ false) (sym tried.2) (unready_after old.objects t w u k e));
        alerted = steady.settled.alerted;
        passed = due_kept (state old) (state new) old.now (λ h. inl (subst (λ (os : List Object). due_of (object_at os h) ≡ due_of (object_at old.objects h)) (sym tried.2) (due_taken_by old.objects t w h))) refl steady.settled.passed;
      };
      unmarked = steady.unmarked;
    }

-- its timeout is 0, or an APC is queued: only whether it may take its APCs is changed
pub handed_steady : (old : Dispatcher) (t : ℕ) (may : Bool) → IsSteady old → IsSteady (record old { handing = set old.handing t may })
handed_steady old t may steady = record {
  sound = record {
    few = steady.sound.few;
    waits = steady.sound.waits;
    blocks = steady.sound.blocks;
    hands = length-set old.handing t may ∙ steady.sound.hands;
    standings = steady.sound.standings;
    inboxes = steady.sound.inboxes;
    objects = steady.sound.objects;
    own = steady.sound.own;
    none_else = steady.sound.none_else;
    timers = steady.sound.timers;
    handles = steady.sound.handles;
    marks = marks_along refl refl refl (λ o. refl) refl steady.sound.marks;
    places = steady.sound.places;
    room = steady.sound.room;
  };
  settled = record {
    served = steady.settled.served;
    alerted = steady.settled.alerted;
    passed = steady.settled.passed;
  };
  unmarked = steady.unmarked;
}

-- it pends
pub began_pending : (old new : Dispatcher) (t ms : ℕ) (w : Wait) → IsSteady old → fits old.objects t w ≡ false → (w.alertable && has_apc old.apcs.queues t) ≡ false → ms ≢ 0 → w.deadline ≡ deadline_after old.now ms → state new ≡ pending_too (state old) t w → IsMachineSound new → new.marked ≡ old.marked → IsSteady new
began_pending old new t ms w steady unfit quiet later deadline becomes sound marked =
    record {
      sound = sound;
      settled = subst IsSettled (sym becomes) (record {
        served = served;
        alerted = λ u alerted. unalerted u alerted.0 alerted.2 (get_inserted old.table.pending t u w alerted.0 alerted.1);
        passed = passed;
      });
      unmarked = subst IsUnmarked (sym marked) steady.unmarked;
    }
  where
    unalerted : (u : ℕ) (v : Wait) → (v.alertable && has_apc old.apcs.queues u) ≡ true → ((u ≡ t) × (w ≡ v)) ⊎ (fin.get old.table.pending u ≡ Some v) → ⊥
    unalerted u v alert (inl same) =
        let here : (w.alertable && has_apc old.apcs.queues t) ≡ true = ap (λ (x : Wait). x.alertable && has_apc old.apcs.queues t) same.1 ∙ (ap (λ (k : ℕ). v.alertable && has_apc old.apcs.queues k) (sym same.0) ∙ alert) in
        false≢true (sym quiet ∙ here)
    unalerted u v alert (inr older) = steady.settled.alerted u (v, older, alert)

    served : (u : ℕ) → is_due (pending_too (state old) t w) u ≡ false
    served u = by (fin.get (fin.insert old.table.pending t w) u) refl
      where
        by : (o : Option Wait) → fin.get (fin.insert old.table.pending t w) u ≡ o → satisfied old.objects u o ≡ false
        by None e = refl
        by (Some v) e = elim (get_inserted old.table.pending t u w v e) [
          | inl same ↦ rw (same.0, ← same.1) unfit
          | inr older ↦ sym (ap (λ o. satisfied old.objects u o) older) ∙ steady.settled.served u
        ]

    passed : (v : ℕ) → IsAwaited (pending_too (state old) t w) v → old.now < v
    passed v (inl timer) = steady.settled.passed v (inl timer)
    passed v (inr late) = elim (get_inserted old.table.pending t late.0 w late.1 late.2) [
      | inl same ↦ ahead old.now ms v later (sym deadline ∙ (ap (λ x. x.deadline) same.1 ∙ late.3))
      | inr older ↦ steady.settled.passed v (inr (late.0, late.1, older, late.3))
    ]
