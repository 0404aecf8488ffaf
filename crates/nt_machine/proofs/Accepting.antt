-- From the parts of an accepted call to the whole.
use Rattle.std.proofs.Common.{◌≡◌, ◌<◌, ◌≤◌, ℕ, zero, suc, Bool, true, false, cond, List, [], ◌∷◌, length, refl, sym, ap, ◌∙◌, subst, arith, Option, Some, None, inl, inr, Contains}
use Rattle.std.specs.Prelude.{slice_index, slice_index_or, replicate}
use Rattle.std.specs.List.{filter}
use Rattle.std.specs.FinMap as fin
use Rattle.std.specs.Ordering.{nat_cmp}
use Rattle.std.proofs.lemmas.Bool.{false≢true}
use Rattle.std.proofs.lemmas.List.{append-nil, length-replicate, get_or-replicate}
use Rattle.nt_waits.specs.declared.wait.Wait.{Wait}
use Rattle.nt_waits.specs.Waits.{Waits, Agrees, Names}
use Rattle.nt_objects.specs.declared.object.Object.{Object}
use Rattle.nt_objects.specs.declared.object.Object.TheVariants.{Thread}
use Rattle.nt_objects.specs.Object.{due_of, setter_of, is_thread, taken, IsLawfulObject, full_access}
use Rattle.nt_alarms.specs.Alarms.{alarm_at}
use Rattle.nt_marks.specs.Marks.{is_marked}
use Rattle.nt_apc.specs.Queues.{place_of}
use Rattle.nt_status.specs.declared.limits.TheConstants.{MAX_MANY_THREADS, MAX_WAIT_OBJECTS}
use Rattle.nt_calls.specs.declared.call.Call.{Call}
use Rattle.nt_calls.specs.declared.call.Reply.{Reply}
use Rattle.nt_calls.specs.declared.call.Grant.{Grant}
use Rattle.nt_calls.specs.Rising.{AreRising}
use Rattle.nt_calls.specs.State.{State, object_at}
use Rattle.nt_machine.specs.Dispatcher.{Dispatcher, state}
use Rattle.nt_calls.specs.Serving.{satisfied, wait_granted, take_at, take_each, objects_taken, least, IsChanged, Grants, Serve, IsAlerted, Alert}
use Rattle.nt_calls.specs.Change.{change}
use Rattle.nt_calls.specs.Steps.{IsAwaited, NothingDue, after_serving, answered}
use Rattle.nt_tables.specs.declared.handles.Opened.{Opened}
use Rattle.nt_tables.specs.Handles.{own_handles}
use Rattle.nt_machine.specs.Lawful.{IsSettled, IsSteady, HandlesAgree}
use Rattle.nt_machine.proofs.Handling.{handles_along, own_agree}
use Rattle.nt_machine.proofs.Marking.{marks_along, marks_opening, named_member}
use Rattle.nt_machine.specs.Accepts.{is_by_objects, IsFresh, IsServedAfter, Accepts}
use Rattle.std.proofs.Common.{◌||◌, is_some, ◌==◌, nat_lt}
use Rattle.std.specs.Prelude.{nat_le, nat_eq, Result, Ok, Err, IfOk}
use Rattle.std.specs.List.{list_any, IsDistinct, AllByRecursion}
use Rattle.std.proofs.lemmas.Bool.Decides.{nat_tests}
use Rattle.nt_status.proofs.Lists.{contains_none}
use Rattle.nt_status.specs.declared.refusal.Refusal.{Refusal}
use Rattle.nt_status.specs.declared.refusal.Refusal.TheVariants.{InvalidHandle, InvalidParameter, ThreadWaiting, ThreadEnded, UnknownThread, RecursionLimit}
use Rattle.nt_objects.specs.Object.{has_ended, is_gone}
use Rattle.nt_calls.specs.declared.call.WaitCall.{WaitCall}
use Rattle.nt_calls.specs.declared.call.WaitMode.{WaitMode}
use Rattle.nt_calls.specs.Calls.{timeout_of}
use Rattle.nt_calls.specs.State.{pends}
use Rattle.nt_calls.specs.Serving.{wait_on}
use Rattle.nt_calls.specs.Change.{wait_change}
use Rattle.nt_calls.specs.Refusals.{Cause, first_of_causes, call_causes, refusal, has_twice, is_unknown, is_at_limit}
use Rattle.nt_calls.specs.Steps.{begun, asked_wait}
use Rattle.nt_machine.specs.Lawful.{IsSoundWait}
use Rattle.nt_machine.proofs.Changing.{same_changed}
use Rattle.nt_machine.proofs.Walks.{get_removed}
use Rattle.nt_machine.proofs.Orders.{length-filter-le}
use Rattle.nt_machine.proofs.Keeping.{same_reading, due_taken}
use Rattle.nt_machine.proofs.Standings.{standing_free}
use Rattle.nt_machine.specs.declared.standing.Standing.TheVariants.{Free}
use Rattle.nt_machine.specs.Lawful.{StandingsAgree}

pub ok_then : {A E : Type 0} (P Q : A → Type 0) → ((a : A) → P a → Q a) → (r : Result A E) → IfOk r P → IfOk r Q
ok_then P Q then (Ok a) h = then a h
ok_then P Q then (Err e) h = tt

-- the first cause does not hold, nor do the others
pub next_causes : (b : Bool) (r : Refusal) (cs : List Cause) → first_of_causes ((b, r) ∷ cs) ≡ None → (b ≡ false) × (first_of_causes cs ≡ None)
next_causes true r cs e = let h : Some r ≡ None = e in (cc)
next_causes false r cs e = (refl, e)

-- nobody is to be alerted
abbrev pub IsCalm : State → Type 0
IsCalm s = (t : ℕ) → IsAlerted s t → ⊥

-- ---- what grants keep

reading_taken_each : {X : Type 0} (f : Object → X) → ((o : Object) (t : ℕ) → f (taken o t) ≡ f o) → (t : ℕ) (hs : List ℕ) (os : List Object) (k : ℕ) → f (object_at (take_each os t hs) k) ≡ f (object_at os k)
reading_taken_each f same t [] os k = refl
reading_taken_each f same t (h ∷ hs) os k = reading_taken_each f same t hs (take_at os t h) k ∙ same_reading f t (λ o. same o t) os h k

-- a reading of objects that taking does not change
pub reading_taken_by : {X : Type 0} (f : Object → X) → ((o : Object) (t : ℕ) → f (taken o t) ≡ f o) → (os : List Object) (t : ℕ) (w : Wait) (k : ℕ) → f (object_at (objects_taken os t w) k) ≡ f (object_at os k)
reading_taken_by f same os t w k = go w.all
  where
    go : (all : Bool) → f (object_at (cond all (take_each os t w.objects) (take_at os t (slice_index w.objects (least os t w)))) k) ≡ f (object_at os k)
    go true = reading_taken_each f same t w.objects os k
    go false = same_reading f t (λ o. same o t) os (slice_index w.objects (least os t w)) k

pub due_taken_by : (os : List Object) (t : ℕ) (w : Wait) (k : ℕ) → due_of (object_at (objects_taken os t w) k) ≡ due_of (object_at os k)
due_taken_by os t w k = reading_taken_by due_of (λ o u. due_taken o u) os t w k

calm_granted : (s : State) (t : ℕ) (w : Wait) → IsCalm s → IsCalm (wait_granted s t w)
calm_granted s t w calm u alerted = calm u (alerted.0, (get_removed s.waits t u alerted.0 alerted.1).1, alerted.2)

due_granted : (s : State) (t : ℕ) (w : Wait) (m : ℕ) → NothingDue s m → NothingDue (wait_granted s t w) m
due_granted s t w m none v (inl timer) = none v (inl (timer.0, sym (due_taken_by s.objects t w timer.0) ∙ timer.1))
due_granted s t w m none v (inr late) = none v (inr (late.0, late.1, (get_removed s.waits t late.0 late.1 late.2).1, late.3))

pub Grants-calm : (threads : List ℕ) (s new : State) (gs : List Grant) → Grants threads s gs new → IsCalm s → IsCalm new
Grants-calm threads s new [] is calm = subst IsCalm (sym is) calm
Grants-calm threads s new (g ∷ gs) has calm = Grants-calm threads (wait_granted s g.thread has.1) new gs has.3 (calm_granted s g.thread has.1 calm)

pub Grants-due : (threads : List ℕ) (s new : State) (gs : List Grant) (m : ℕ) → Grants threads s gs new → NothingDue s m → NothingDue new m
Grants-due threads s new [] m is none = subst (λ (x : State). NothingDue x m) (sym is) none
Grants-due threads s new (g ∷ gs) m has none = Grants-due threads (wait_granted s g.thread has.1) new gs m has.3 (due_granted s g.thread has.1 m none)

pub Grants-now : (threads : List ℕ) (s new : State) (gs : List Grant) → Grants threads s gs new → new.now ≡ s.now
Grants-now threads s new [] is = ap (λ (x : State). x.now) is
Grants-now threads s new (g ∷ gs) has = Grants-now threads (wait_granted s g.thread has.1) new gs has.3

-- once waits are served nothing else is left to do
pub settled_after : (threads : List ℕ) (s new : State) (gs : List Grant) → Serve threads s gs new → IsCalm s → NothingDue s s.now → IsSettled new
settled_after threads s new gs serve calm none = record {
  served = serve.1;
  alerted = Grants-calm threads s new gs serve.0 calm;
  passed = subst (λ (m : ℕ). NothingDue new m) (sym (Grants-now threads s new gs serve.0)) (Grants-due threads s new gs s.now serve.0 none);
}

-- ---- no alert

pub no_alert : (s new : State) → new ≡ s → IsCalm s → Alert s [] new
no_alert s new is calm = record {
  threads = [];
  alerted = record { rising = tt; exactly = λ t. (λ m. absurd (contains_none t m), λ a. absurd (calm t a)) };
  ends = refl;
  leaves = is;
}

-- ---- the whole call

-- the change and the serving, what comes after it, and no alerts: `calm` is the dispatcher when waits are served
pub accepted : (old calm new : Dispatcher) (t : ℕ) (call : Call) (reply : Reply) → IsServedAfter old (change (state old) t call) calm → state new ≡ after_serving call (state calm) → new.grants ≡ calm.grants → new.table.looked ≡ calm.table.looked → IsSteady new → (reply, state new) ≡ answered (state old) (state new) t call → Accepts old new t call reply
accepted old calm new t call reply served after same looked steady answers = record {
  step = record {
    numbers = served.numbers;
    served = calm.grants;
    calm = state calm;
    alerted = [];
    woken = state new;
    changed = served.changed;
    serves = served.serves;
    alerts = no_alert (after_serving call (state calm)) (state new) after (subst IsCalm after steady.settled.alerted);
    in_order = same ∙ sym (append-nil calm.grants);
    answers = answers;
  };
  steady = steady;
  local = record {
    numbers = served.numbers;
    changed = served.changed;
    most = rw looked served.most;
    least = let fewer = length-filter-le is_by_objects new.grants in let len : length new.grants ≡ length calm.grants = ap (λ gs. length gs) same in let least = served.least in omega (arith, fewer, len, least, looked);
  };
}

-- ---- the opening

pub nothing_pends : (t : ℕ) (w : Wait) {P : Type 0} → fin.get (fin.empty {X = Wait} {R = nat_cmp}) t ≡ Some w → P
nothing_pends t w pends = let h : None ≡ Some w = sym (fin.get-empty nat_cmp t) ∙ pends in (cc)

pub object_at-replicate : (n h : ℕ) → object_at (replicate n (Thread false)) h ≡ Thread false
object_at-replicate zero h = refl
object_at-replicate (suc n) zero = refl
object_at-replicate (suc n) (suc h) = object_at-replicate n h

quiet_alarms : (n h : ℕ) → alarm_at (replicate n None) h ≡ None
quiet_alarms zero h = refl
quiet_alarms (suc n) zero = refl
quiet_alarms (suc n) (suc h) = quiet_alarms n h

no_marks : (n h : ℕ) → is_marked (replicate n false) h ≡ false
no_marks zero h = refl
no_marks (suc n) zero = refl
no_marks (suc n) (suc h) = no_marks n h

never_marked : {P : Type 0} → false ≡ true → P
never_marked e = (cc)

pub opening_steady : (d : Dispatcher) → d.threads ≤ MAX_MANY_THREADS → d.handles ≡ own_handles d.threads (full_access (Thread false)) → d.objects ≡ replicate d.threads (Thread false) → d.table.pending ≡ fin.empty → Agrees d.table.pending d.table.queues → length d.handing ≡ d.threads → d.standings ≡ replicate d.threads Free → length d.apcs.queues ≡ d.threads → d.apcs.places ≡ [] → d.grants ≡ [] → d.alarms ≡ replicate d.threads None → d.leaving ≡ replicate d.threads false → d.marked.changed ≡ replicate d.threads false → d.marked.alerted ≡ replicate d.threads false → IsSteady d
opening_steady d few handles objects waits agrees hands standings inboxes unplaced grants alarms leaving changed alerted = record {
  sound = record {
    few = few;
    waits = λ t w pends. nobody t w pends;
    blocks = agrees;
    hands = hands;
    standings = free;
    inboxes = inboxes;
    objects = λ h. subst IsLawfulObject (sym (running h)) tt;
    own = λ t below. (let len : length d.objects ≡ d.threads = ap (λ os. length os) objects ∙ length-replicate d.threads (Thread false) in omega (arith, len, below), inl (ap is_thread (running t)));
    none_else = λ h beyond known. let len : length d.objects ≡ d.threads = ap (λ os. length os) objects ∙ length-replicate d.threads (Thread false) in absurd (omega (arith, len, beyond, known));
    timers = record {
      count = ap (λ clocks. length clocks) alarms ∙ (length-replicate d.threads None ∙ sym (ap (λ os. length os) objects ∙ length-replicate d.threads (Thread false)));
      alarm = λ h. ap (λ clocks. alarm_at clocks h) alarms ∙ (quiet_alarms d.threads h ∙ sym (ap due_of (running h)));
      placed = λ h t is. nobody_set t (sym (ap setter_of (running h)) ∙ is);
      known = λ h t at. nobody_set t (sym (ap (λ ps. place_of ps h) unplaced) ∙ at);
      runs = λ h t is. nobody_set t (sym (ap setter_of (running h)) ∙ is);
    };
    handles = subst (λ (hs : List (Option Opened)). HandlesAgree (length d.objects) hs) (sym handles) (handles_along (own_handles d.threads (full_access (Thread false))) (ap (λ os. length os) objects ∙ length-replicate d.threads (Thread false)) (own_agree d.threads (full_access (Thread false)) few));
    marks = marks_opening d objects leaving running;
    places = record {
      changed = ap (λ marks. length marks) changed ∙ (length-replicate d.threads false ∙ sym (ap (λ os. length os) objects ∙ length-replicate d.threads (Thread false)));
      alerted = ap (λ marks. length marks) alerted ∙ length-replicate d.threads false;
    };
    room = let none : length d.grants ≡ 0 = ap (λ gs. length gs) grants in let empty : fin.len d.table.pending ≡ 0 = ap (λ m. fin.len m) waits ∙ fin.len-empty nat_cmp Wait in omega (arith, none, empty);
  };
  settled = record {
    served = λ t. unfit t (fin.get d.table.pending t) refl;
    alerted = λ t alerted. nobody t alerted.0 alerted.1;
    passed = not_due;
  };
  unmarked = record {
    changed = λ place at. never_marked (sym (ap (λ marks. is_marked marks place) changed ∙ no_marks d.threads place) ∙ at);
    alerted = λ place at. never_marked (sym (ap (λ marks. is_marked marks place) alerted ∙ no_marks d.threads place) ∙ at);
  };
}
  where
    nobody : {P : Type 0} (t : ℕ) (w : Wait) → fin.get d.table.pending t ≡ Some w → P
    nobody t w pends = nothing_pends t w (ap (λ m. fin.get m t) (sym waits) ∙ pends)

    nobody_set : {P : Type 0} (t : ℕ) → None ≡ Some t → P
    nobody_set t e = (cc)

    running : (h : ℕ) → object_at d.objects h ≡ Thread false
    running h = ap (λ os. object_at os h) objects ∙ object_at-replicate d.threads h

    free : StandingsAgree d.threads d.objects d.table.pending d.standings
    free = record {
      count = ap (λ xs. length xs) standings ∙ length-replicate d.threads Free;
      each = λ t below.
          ap (λ xs. slice_index_or xs t Free) standings
          ∙ (get_or-replicate d.threads t Free Free below
          ∙ sym (standing_free d.objects d.table.pending t (ap has_ended (running t)) (ap (λ m. fin.get m t) waits ∙ fin.get-empty nat_cmp t)));
    }

    unfit : (t : ℕ) (o : Option Wait) → fin.get d.table.pending t ≡ o → satisfied d.objects t o ≡ false
    unfit t None e = refl
    unfit t (Some w) e = nobody t w e

    no_timer : {P : Type 0} (v : ℕ) → None ≡ Some v → P
    no_timer v e = (cc)

    not_due : (v : ℕ) → IsAwaited (state d) v → d.now < v
    not_due v (inl timer) = no_timer v (sym (ap due_of (running timer.0)) ∙ timer.1)
    not_due v (inr late) = nobody late.0 late.1 late.2

-- ---- a call begins

pub told_anew : (d : Dispatcher) (table : Waits) → IsSteady d → table ≡ record d.table { looked = 0 } → IsFresh (record d { table = table; grants = [] })
told_anew d table steady is = subst (λ (v : Waits). IsFresh (record d { table = v; grants = [] })) (sym is) (record {
  steady = record {
    sound = record {
      few = steady.sound.few;
      waits = steady.sound.waits;
      blocks = steady.sound.blocks;
      hands = steady.sound.hands;
      standings = steady.sound.standings;
      inboxes = steady.sound.inboxes;
      objects = steady.sound.objects;
      own = steady.sound.own;
      none_else = steady.sound.none_else;
      timers = steady.sound.timers;
      handles = steady.sound.handles;
      marks = marks_along refl refl refl (λ o. refl) refl steady.sound.marks;
      places = steady.sound.places;
      room = let room = steady.sound.room in omega (arith, room);
    };
    settled = steady.settled;
    unmarked = steady.unmarked;
  };
  no_grants = refl;
  untested = refl;
})

-- a wait that nothing precedes: nothing is changed, nothing served, and the caller's wait begins
pub wait_accepted : (old new : Dispatcher) (t : ℕ) (wait : WaitCall) (reply : Reply) → IsFresh old → new.grants ≡ old.grants → new.table.looked ≡ old.table.looked → IsSteady new → wait_change (state old) wait ≡ state old → (reply, state new) ≡ begun (state old) t (asked_wait old.now wait) (timeout_of wait) → Accepts old new t (Call.Wait wait) reply
wait_accepted old new t wait reply fresh grants looked steady same begins = record {
  step = record {
    numbers = [];
    served = [];
    calm = state old;
    alerted = [];
    woken = state old;
    changed = changed;
    serves = (sym same, fresh.steady.settled.served);
    alerts = no_alert (state old) (state old) refl fresh.steady.settled.alerted;
    in_order = grants ∙ fresh.no_grants;
    answers = begins;
  };
  steady = steady;
  local = record {
    numbers = [];
    changed = changed;
    most = let none : new.table.looked ≡ 0 = looked ∙ fresh.untested in omega (arith, none);
    least = subst (λ (gs : List Grant). length (filter is_by_objects gs) ≤ new.table.looked) (sym (grants ∙ fresh.no_grants)) (omega arith);
  };
}
  where
    changed : AreRising (IsChanged old.objects (wait_change (state old) wait).objects) []
    changed = same_changed old.objects (wait_change (state old) wait).objects (ap (λ (s : State). s.objects) same)

-- the caller of an accepted call runs and does not wait
pub free_caller : (s : State) (who : ℕ) (call : Call) → refusal s who false call ≡ None → (who < s.threads) × (has_ended (object_at s.objects who) ≡ false) × (fin.get s.waits who ≡ None)
free_caller s who call none =
    let first = next_causes (nat_le s.threads who) UnknownThread ((has_ended (object_at s.objects who), ThreadEnded) ∷ (pends s who, ThreadWaiting) ∷ call_causes s who false call) none in
    let second = next_causes (has_ended (object_at s.objects who)) ThreadEnded ((pends s who, ThreadWaiting) ∷ call_causes s who false call) first.1 in
    let third = next_causes (pends s who) ThreadWaiting (call_causes s who false call) second.1 in
    (grind (arith, nat_tests, first.0), second.0, idle (fin.get s.waits who) third.0)
  where
    idle : (o : Option Wait) → is_some o ≡ false → o ≡ None
    idle None e = refl
    idle (Some w) e = absurd (false≢true (sym e))

-- no cause of its own either
pub own_causes : (s : State) (who : ℕ) (call : Call) → refusal s who false call ≡ None → first_of_causes (call_causes s who false call) ≡ None
own_causes s who call none =
    let first = next_causes (nat_le s.threads who) UnknownThread ((has_ended (object_at s.objects who), ThreadEnded) ∷ (pends s who, ThreadWaiting) ∷ call_causes s who false call) none in
    let second = next_causes (has_ended (object_at s.objects who)) ThreadEnded ((pends s who, ThreadWaiting) ∷ call_causes s who false call) first.1 in
    (next_causes (pends s who) ThreadWaiting (call_causes s who false call) second.1).1

-- ---- a wait that no cause refuses is sound

or_false : (a b : Bool) → (a || b) ≡ false → (a ≡ false) × (b ≡ false)
or_false true b e = absurd (false≢true (sym e))
or_false false b e = (refl, e)

pub distinct_handles : (hs : List ℕ) → has_twice hs ≡ false → IsDistinct nat_eq hs
unfolding IsDistinct
distinct_handles [] e = tt
distinct_handles (h ∷ hs) e =
    let parts = or_false (list_any (λ other. other == h) hs) (has_twice hs) e in
    (apart h hs parts.0, distinct_handles hs parts.1)
  where
    apart : (h : ℕ) (xs : List ℕ) → list_any (λ other. other == h) xs ≡ false → AllByRecursion (λ y. nat_eq h y ≡ false) xs
    apart h [] e = tt
    apart h (x ∷ xs) e =
        let parts = or_false (x == h) (list_any (λ other. other == h) xs) e in
        (grind (arith, nat_tests, parts.0), apart h xs parts.1)

all_unless_any : (p : ℕ → Bool) (xs : List ℕ) → list_any p xs ≡ false → (j : ℕ) → j < length xs → p (slice_index xs j) ≡ false
all_unless_any p [] e j below = absurd (omega (arith, below))
all_unless_any p (x ∷ xs) e zero below = (or_false (p x) (list_any p xs) e).0
all_unless_any p (x ∷ xs) e (suc j) below = all_unless_any p xs (or_false (p x) (list_any p xs) e).1 j (omega (arith, below))

pub sound_objects : (s : State) (t : ℕ) (handles : List ℕ) (all : Bool) (mode : WaitMode) → ((h : ℕ) → Contains handles h → h < length s.objects → is_gone (object_at s.objects h) ≡ false) → refusal s t false (Call.Wait (WaitCall.Objects all mode handles)) ≡ None → IsSoundWait s.threads s.objects t (wait_on handles all)
sound_objects s t handles all mode alive none =
    let caller = free_caller s t (Call.Wait (WaitCall.Objects all mode handles)) none in
    let own = own_causes s t (Call.Wait (WaitCall.Objects all mode handles)) none in
    let first = next_causes (length handles == 0 || nat_lt MAX_WAIT_OBJECTS (length handles)) InvalidParameter ((list_any (is_unknown s.objects) handles, InvalidHandle) ∷ (has_twice handles, InvalidParameter) ∷ (list_any (is_at_limit s.objects t) handles, RecursionLimit) ∷ []) own in
    let second = next_causes (list_any (is_unknown s.objects) handles) InvalidHandle ((has_twice handles, InvalidParameter) ∷ (list_any (is_at_limit s.objects t) handles, RecursionLimit) ∷ []) first.1 in
    let third = next_causes (has_twice handles) InvalidParameter ((list_any (is_at_limit s.objects t) handles, RecursionLimit) ∷ []) second.1 in
    let fourth = next_causes (list_any (is_at_limit s.objects t) handles) RecursionLimit [] third.1 in
    let few = (or_false (length handles == 0) (nat_lt MAX_WAIT_OBJECTS (length handles)) first.0).1 in
    let known : (h : ℕ) → Names (wait_on handles all) h → h < length s.objects = λ h names. let known = all_unless_any (is_unknown s.objects) handles second.0 names.0 names.1 in subst (λ (k : ℕ). k < length s.objects) names.2 (grind (arith, nat_tests, known)) in
    record {
      known = caller.0;
      runs = caller.1;
      few = grind (arith, nat_tests, few);
      apart = distinct_handles handles third.0;
      living = λ h names. alive h (named_member handles (wait_on handles all) h refl names) (known h names);
      named = λ h names. (
        known h names,
        subst (λ (k : ℕ). is_at_limit s.objects t k ≡ false) names.2 (all_unless_any (is_at_limit s.objects t) handles fourth.0 names.0 names.1),
      );
    }

pub sound_sleep : (s : State) (t : ℕ) → t < s.threads → has_ended (object_at s.objects t) ≡ false → IsSoundWait s.threads s.objects t (wait_on [] false)
unfolding IsDistinct
sound_sleep s t known runs = record {
  known = known;
  runs = runs;
  few = omega arith;
  apart = tt;
  named = λ h names. absurd (omega (arith, names.1));
  living = λ h names. absurd (omega (arith, names.1));
}
