-- Why some sleeper sleeps short enough.
use Rattle.std.proofs.Common.{◌≡◌, ℕ, zero, suc, ◌<◌, ◌≤◌, Bool, true, false, List, [], ◌∷◌, length, replicate, slice_set, Option, None, Some, refl, sym, ap, ◌∙◌, subst, inl, inr, arith, length-set, get_or-set_same, get_or-set_other}
use Rattle.std.specs.Prelude.{Result, Ok, Err, OnErr, is_some}
use Rattle.std.specs.FinMap as map
use Rattle.nt_machine.specs.Dispatcher.{Dispatcher, state}
use Rattle.std.proofs.lemmas.List.{length-replicate}
use Rattle.nt_status.specs.declared.limits.TheConstants.{MAX_MOMENT, MAX_MANY_THREADS}
use Rattle.nt_status.specs.declared.refusal.Refusal.{Refusal}
use Rattle.nt_alarms.specs.Alarms.{alarm_at, IsQuiet, IsEarliest}
use Rattle.nt_marks.specs.Marks.{is_marked, NoneMarked, IsFirstMarked}
use Rattle.nt_calls.specs.declared.call.Grant.{Grant}
use Rattle.nt_calls.specs.declared.call.Reply.{Reply}
use Rattle.std.specs.Ordering.{nat_cmp}
use Rattle.nt_waits.specs.declared.wait.Wait.{Wait}
use Rattle.nt_calls.specs.State.{State, Pending, pends}
use Rattle.nt_calls.specs.declared.call.Call.{Call}
use Rattle.nt_calls.specs.Steps.{IsNextMoment, NothingDue, Called, Ticked}
use Rattle.nt_calls.specs.Moves.{Moves, pended, one_if, granted_to}
use Rattle.nt_life.specs.Lasting.{IsUnchanged}
use Rattle.nt_sleepers.specs.Sleepers.{Sleeping, Woke, Watches, TimeIsKept, CalledWaits, IsWatched, MeetsDeadlines, IsShortEnough, IsCalledToLook, SleepsUpTo, NoneUpTo, OnlyWaitingSleep, OnlyWaitingWatch, without_woken, set_if, with_called, settled, time_out_of, SleepsTo}
use Rattle.nt_sleepers.proofs.Staying.{StayedOrBegan}
use Rattle.nt_sleepers.proofs.Deadlines.{deadlines_after, deadlines_watch, deadlines_stop, in_time, watched}
use Rattle.nt_sleepers.proofs.Counts.{other_stands, other_marked, woken_length, set_if_length, called_length, begun_waits, woken_waiting, woken_watching, set_waiting, set_watching, set_if_waiting}

inside : (watchers : List Bool) (place : ℕ) → is_marked watchers place ≡ true → place < length watchers
inside [] zero is = absurd (cc)
inside [] (suc place) is = absurd (cc)
inside (x ∷ watchers) zero is = omega arith
inside (x ∷ watchers) (suc place) is = (let below = inside watchers place is in omega (arith, below))

pub marked_inside : (watchers : List Bool) (place : ℕ) → IsFirstMarked watchers place → place < length watchers
marked_inside watchers place first = inside watchers place first.here

-- ---- whether some sleeper sleeps short enough

pub none_up_to_quiet : (alarms : List (Option ℕ)) (u : ℕ) → IsQuiet alarms → NoneUpTo alarms u
none_up_to_quiet alarms u quiet t m is = (let none = quiet t in absurd (cc (none, is)))

pub none_up_to_later : (alarms : List (Option ℕ)) (u first : ℕ) → IsEarliest alarms first → u < first → NoneUpTo alarms u
none_up_to_later alarms u first earliest later t m is = (let least = earliest.least t m is in omega (arith, later, least))

pub some_up_to : (alarms : List (Option ℕ)) (u first : ℕ) → IsEarliest alarms first → first ≤ u → SleepsUpTo alarms u
some_up_to alarms u first earliest soon = (earliest.set.0, first, earliest.set.1, soon)

-- ---- who is called

pub in_time_quiet : (s : State) (alarms : List (Option ℕ)) (watchers : List Bool) → NoneMarked watchers → IsWatched s alarms watchers
in_time_quiet s alarms watchers quiet u low awaited = inl quiet

pub in_time_idle : (s : State) (alarms : List (Option ℕ)) (watchers : List Bool) (up_to : ℕ) → up_to ≡ MAX_MOMENT → NothingDue s up_to → IsWatched s alarms watchers
in_time_idle s alarms watchers up_to is none u low awaited = (let late = none u awaited in absurd (omega (arith, is, low, late)))

pub in_time_soon : (s : State) (alarms : List (Option ℕ)) (watchers : List Bool) (up_to due : ℕ) → IsNextMoment s up_to due → SleepsUpTo alarms due → IsWatched s alarms watchers
in_time_soon s alarms watchers up_to due next (t, m, is, soon) u low awaited = (let least = next.2 u awaited in inr (t, m, is, omega (arith, soon, least)))

pub in_time_called : (s : State) (alarms : List (Option ℕ)) (watchers : List Bool) (place : ℕ) → length watchers ≡ length alarms → IsFirstMarked watchers place → IsWatched s (slice_set alarms place (Some 0)) watchers
in_time_called s alarms watchers place same first u low awaited =
    let near = inside watchers place first.here in
    inr (place, 0, get_or-set_same alarms place (Some 0) None (omega (arith, near, same)), omega arith)

-- ---- a watcher's moment

pub short_idle : (s : State) (others : List (Option ℕ)) (own : Option ℕ) (up_to : ℕ) → up_to ≡ MAX_MOMENT → NothingDue s up_to → IsShortEnough s others own
short_idle s others own up_to is none u low awaited = (let late = none u awaited in absurd (omega (arith, is, low, late)))

pub short_by_another : (s : State) (others : List (Option ℕ)) (own : Option ℕ) (up_to due : ℕ) → IsNextMoment s up_to due → SleepsUpTo others due → IsShortEnough s others own
short_by_another s others own up_to due next (t, m, is, soon) u low awaited = (let least = next.2 u awaited in inr (t, m, is, omega (arith, soon, least)))

pub short_itself : (s : State) (others : List (Option ℕ)) (up_to due moment : ℕ) → IsNextMoment s up_to due → moment ≡ due → IsShortEnough s others (Some moment)
short_itself s others up_to due moment next same u low awaited = (let least = next.2 u awaited in inl (moment, refl, omega (arith, same, least)))

-- ---- what always holds

none_at_first : (count place : ℕ) → alarm_at (replicate count None) place ≡ None
none_at_first zero zero = refl
none_at_first zero (suc place) = refl
none_at_first (suc count) zero = refl
none_at_first (suc count) (suc place) = none_at_first count place

none_waits : (s : State) (count : ℕ) → OnlyWaitingSleep s (replicate count None)
none_waits s count t m is = (let none = none_at_first count t in absurd (cc (none, is)))

unmarked_at_first : (count place : ℕ) → is_marked (replicate count false) place ≡ false
unmarked_at_first zero zero = refl
unmarked_at_first zero (suc place) = refl
unmarked_at_first (suc count) zero = refl
unmarked_at_first (suc count) (suc place) = unmarked_at_first count place

none_marked : (count : ℕ) → NoneMarked (replicate count false)
none_marked count place is = (let not = unmarked_at_first count place in absurd (cc (not, is)))

none_watches : (s : State) (count : ℕ) → OnlyWaitingWatch s (replicate count false)
none_watches s count t is = absurd (none_marked count t is)

-- nobody sleeps at first
back_at_first : (s : State) (count : ℕ) → MeetsDeadlines s (replicate count None)
back_at_first s count t u due = inl (none_at_first count t)

kept_at_first : (s : State) (count : ℕ) → count ≤ MAX_MANY_THREADS → s.threads ≡ count → TimeIsKept s (replicate count None) (replicate count false)
kept_at_first s count few all = record {
  few = (let as_many = length-replicate {A = Option ℕ} count None in omega (arith, few, as_many));
  places = length-replicate {A = Option ℕ} count None ∙ sym all;
  count = length-replicate {A = Bool} count false ∙ sym (length-replicate {A = Option ℕ} count None);
  asleep = none_waits s count;
  watching = none_watches s count;
  deadlines = back_at_first s count;
  in_time = in_time s (replicate count None) (replicate count false) (back_at_first s count) (in_time_quiet s (replicate count None) (replicate count false) (none_marked count));
}

pub kept_first : (s : State) (count : ℕ) (alarms : List (Option ℕ)) (watchers : List Bool) → count ≤ MAX_MANY_THREADS → s.threads ≡ count → alarms ≡ replicate count None → watchers ≡ replicate count false → TimeIsKept s alarms watchers
kept_first s count alarms watchers few all alarms-are watchers-are =
    subst (λ (xs : List (Option ℕ)). TimeIsKept s xs watchers) (sym alarms-are)
    (subst (λ (xs : List Bool). TimeIsKept s (replicate count None) xs) (sym watchers-are) (kept_at_first s count few all))

called_waiting : (s : State) (settled alarms : List (Option ℕ)) (watchers : List Bool) (called : Option ℕ) → OnlyWaitingWatch s watchers → IsCalledToLook s settled watchers called → OnlyWaitingSleep s alarms → OnlyWaitingSleep s (with_called called alarms)
called_waiting s settled alarms watchers None watching is before = before
called_waiting s settled alarms watchers (Some t) watching is before = set_waiting s t (Some 0) alarms (watching t is.1) before

-- after a call or tick; the caller's alarm is this where its wait began
pub kept_after : (old new : State) (who : ℕ) (began : Bool) (gs : List Grant) (own called : Option ℕ) (alarms : List (Option ℕ)) (watchers : List Bool) (alarms' : List (Option ℕ)) (watchers' : List Bool) → Moves old who began gs new → StayedOrBegan old who began new → (began ≡ true → own ≡ time_out_of (map.get new.waits who)) → TimeIsKept old alarms watchers → alarms' ≡ with_called called (set_if began who own (without_woken None gs alarms)) → watchers' ≡ without_woken false gs watchers → IsCalledToLook new (set_if began who own (without_woken None gs alarms)) watchers' called → IsWatched new alarms' watchers' → TimeIsKept new alarms' watchers'
kept_after old new who began gs own called alarms watchers alarms' watchers' moves stayed own-is kept alarms-are watchers-are is watched =
    let settled = set_if began who own (without_woken None gs alarms) in
    let watching : OnlyWaitingWatch new watchers' = subst (OnlyWaitingWatch new) (sym watchers-are) (woken_watching old new who began gs watchers moves kept.watching) in
    let waits : OnlyWaitingSleep new settled = set_if_waiting new began who own (without_woken None gs alarms) (λ b. begun_waits old new who gs (subst (λ (x : Bool). Moves old who x gs new) b moves)) (woken_waiting old new who began gs alarms moves kept.asleep) in
    let few = ap length alarms-are ∙ called_length called settled ∙ set_if_length began who own (without_woken None gs alarms) ∙ woken_length None gs alarms in
    let enough = kept.few in
    let back = deadlines_after old new who began gs own called alarms alarms' stayed own-is kept.deadlines alarms-are in
    record {
      few = omega (arith, few, enough);
      places = few ∙ kept.places ∙ sym moves.threads;
      count = ap length watchers-are ∙ woken_length false gs watchers ∙ kept.count ∙ sym few;
      asleep = subst (OnlyWaitingSleep new) (sym alarms-are) (called_waiting new settled settled watchers' called watching is waits);
      watching = watching;
      deadlines = back;
      in_time = in_time new alarms' watchers' back watched;
    }

-- a watcher more
pub kept_watch : (s : State) (alarms : List (Option ℕ)) (watchers : List Bool) (alarms' : List (Option ℕ)) (watchers' : List Bool) (t : ℕ) (moment : Option ℕ) → pends s t ≡ true → t < length alarms → TimeIsKept s alarms watchers → SleepsTo s (time_out_of (map.get s.waits t)) moment → alarms' ≡ slice_set alarms t moment → watchers' ≡ slice_set watchers t true → IsShortEnough s (slice_set alarms t None) moment → TimeIsKept s alarms' watchers'
kept_watch s alarms watchers alarms' watchers' t moment waits near kept sleeps alarms-are watchers-are short = record {
  few = (let as_many = ap length alarms-are ∙ length-set alarms t moment in let enough = kept.few in omega (arith, as_many, enough));
  places = ap length alarms-are ∙ length-set alarms t moment ∙ kept.places;
  count = ap length watchers-are ∙ length-set watchers t true ∙ kept.count ∙ sym (ap length alarms-are ∙ length-set alarms t moment);
  asleep = subst (OnlyWaitingSleep s) (sym alarms-are) (set_waiting s t moment alarms waits kept.asleep);
  watching = subst (OnlyWaitingWatch s) (sym watchers-are) (set_watching s t true watchers waits kept.watching);
  deadlines = deadlines_watch s alarms alarms' t moment sleeps kept.deadlines alarms-are;
  in_time = λ u low awaited. inl (subst (λ (xs : List (Option ℕ)). SleepsUpTo xs u) (sym alarms-are) (elim (short u low awaited) [
    | inl itself ↦ (t, itself.0, get_or-set_same alarms t moment None near ∙ itself.1, itself.2)
    | inr other ↦ (let stands = other_stands alarms t other.0 other.1 other.2 in (other.0, other.1, get_or-set_other alarms t other.0 moment None stands.0 ∙ stands.1, other.3))
  ]));
}

still_waiting : (s : State) (places : List (Option ℕ)) (t : ℕ) → OnlyWaitingSleep s places → OnlyWaitingSleep s (slice_set places t None)
still_waiting s places t before o m is = before o m (other_stands places t o m is).1

still_watching : (s : State) (watchers : List Bool) (t : ℕ) → OnlyWaitingWatch s watchers → OnlyWaitingWatch s (slice_set watchers t false)
still_watching s watchers t before o is = before o (other_marked watchers t o is).1

-- a sleeper less
pub kept_stop : (s : State) (alarms : List (Option ℕ)) (watchers : List Bool) (alarms' : List (Option ℕ)) (watchers' : List Bool) (t : ℕ) (called : Option ℕ) → TimeIsKept s alarms watchers → alarms' ≡ with_called called (slice_set alarms t None) → watchers' ≡ slice_set watchers t false → IsCalledToLook s (slice_set alarms t None) watchers' called → IsWatched s alarms' watchers' → TimeIsKept s alarms' watchers'
kept_stop s alarms watchers alarms' watchers' t called kept alarms-are watchers-are is watched =
    let watching : OnlyWaitingWatch s watchers' = subst (OnlyWaitingWatch s) (sym watchers-are) (still_watching s watchers t kept.watching) in
    let as_many = ap length alarms-are ∙ called_length called (slice_set alarms t None) ∙ length-set alarms t None in
    let enough = kept.few in
    let back = deadlines_stop s alarms alarms' t called kept.deadlines alarms-are in
    record {
      few = omega (arith, as_many, enough);
      places = as_many ∙ kept.places;
      count = ap length watchers-are ∙ length-set watchers t false ∙ kept.count ∙ sym (ap length alarms-are ∙ called_length called (slice_set alarms t None) ∙ length-set alarms t None);
      asleep = subst (OnlyWaitingSleep s) (sym alarms-are) (called_waiting s (slice_set alarms t None) (slice_set alarms t None) watchers' called watching is (still_waiting s alarms t kept.asleep));
      watching = watching;
      deadlines = back;
      in_time = in_time s alarms' watchers' back watched;
    }

-- ---- nothing pended

no_grants : (gs : List Grant) → length gs ≤ 0 → gs ≡ []
no_grants [] few = refl
no_grants (g ∷ gs) few = absurd (omega (arith, few))

-- no wait pends, so that of this thread does not
none_pends : (s : State) (t : ℕ) → map.len s.waits ≡ 0 → pends s t ≡ false
none_pends s t none = ap (λ (p : Pending). is_some (map.get p t)) (map.empty_of_len s.waits none) ∙ ap (λ (o : Option Wait). is_some o) (map.get-empty nat_cmp t)

-- no wait pends, so nobody watches
idle_quiet : (s : State) (watchers : List Bool) → map.len s.waits ≡ 0 → OnlyWaitingWatch s watchers → NoneMarked watchers
idle_quiet s watchers none watching t is =
    let waits = watching t is in
    let not = none_pends s t none in
    absurd (cc (waits, not))

-- no wait pends, so nobody is called
idle_called : (s : State) (called : Option ℕ) → map.len s.waits ≡ 0 → CalledWaits s called → called ≡ None
idle_called s None none waits = refl
idle_called s (Some t) none waits =
    let not = none_pends s t none in
    absurd (cc (waits, not))

pub idle : (s : State) (gs : List Grant) (watchers : List Bool) (called : Option ℕ) → map.len s.waits ≡ 0 → length gs ≤ map.len s.waits → OnlyWaitingWatch s watchers → CalledWaits s called → (gs ≡ []) × NoneMarked watchers × (called ≡ None)
idle s gs watchers called none few waiting waits = (no_grants gs (omega (arith, none, few)), idle_quiet s watchers none waiting, idle_called s called none waits)

-- who is called watches, and so waits
pub called_waits : (s : State) (settled : List (Option ℕ)) (watchers : List Bool) (called : Option ℕ) → OnlyWaitingWatch s watchers → IsCalledToLook s settled watchers called → CalledWaits s called
called_waits s settled watchers None watching is = tt
called_waits s settled watchers (Some t) watching is = watching t is.1

-- no wait ended, and none began
pub idle_alarms : (alarms : List (Option ℕ)) (who : ℕ) (began : Bool) (d : Dispatcher) → began ≡ false → d.grants ≡ [] → alarms ≡ settled alarms who began d
idle_alarms alarms who began d not none =
    sym (ap (λ (b : Bool). set_if b who (time_out_of (map.get (state d).waits who)) (without_woken None d.grants alarms)) not ∙ ap (λ gs. without_woken None gs alarms) none)

pub idle_watchers : (watchers : List Bool) (gs : List Grant) → gs ≡ [] → watchers ≡ without_woken false gs watchers
idle_watchers watchers gs none = sym (ap (λ xs. without_woken false xs watchers) none)

-- ---- a refused call calls nobody

not_called : (s : State) (alarms : List (Option ℕ)) (watchers : List Bool) (called : Option ℕ) → IsWatched s alarms watchers → IsCalledToLook s alarms watchers called → called ≡ None
not_called s alarms watchers None in_time is = refl
not_called s alarms watchers (Some t) in_time (u, here, low, awaited, none) =
    elim (in_time u low awaited) [
      | inl quiet ↦ absurd (quiet t here)
      | inr (o, m, is, soon) ↦ (let later = none o m is in absurd (omega (arith, soon, later)))
    ]

-- nothing has changed but that, and nobody is called
nobody_called : (new : State) (who : ℕ) (began : Bool) (gs : List Grant) (own called : Option ℕ) (alarms : List (Option ℕ)) (watchers watchers' : List Bool) → gs ≡ [] → began ≡ false → TimeIsKept new alarms watchers → watchers' ≡ without_woken false gs watchers → IsCalledToLook new (set_if began who own (without_woken None gs alarms)) watchers' called → called ≡ None
nobody_called new who began gs own called alarms watchers watchers' none not kept watchers-are is =
    let alarms-are : set_if began who own (without_woken None gs alarms) ≡ alarms = ap (λ (b : Bool). set_if b who own (without_woken None gs alarms)) not ∙ ap (λ xs. without_woken None xs alarms) none in
    let as_before : watchers' ≡ watchers = watchers-are ∙ ap (λ xs. without_woken false xs watchers) none in
    not_called new alarms watchers called (watched new alarms watchers kept.in_time)
    (subst (λ (xs : List Bool). IsCalledToLook new alarms xs called) as_before
    (subst (λ (xs : List (Option ℕ)). IsCalledToLook new xs watchers' called) alarms-are is))

pub kept_same : (old new : State) (alarms : List (Option ℕ)) (watchers : List Bool) → new ≡ old → TimeIsKept old alarms watchers → TimeIsKept new alarms watchers
kept_same old new alarms watchers same kept = subst (λ (s : State). TimeIsKept s alarms watchers) (sym same) kept

pub nobody_by_call : (old new : State) (who : ℕ) (call : Call) (result : Result Reply Refusal) (began : Bool) (gs : List Grant) (own called : Option ℕ) (alarms : List (Option ℕ)) (watchers watchers' : List Bool) → Called old who call result gs new → began ≡ pended result → TimeIsKept old alarms watchers → watchers' ≡ without_woken false gs watchers → IsCalledToLook new (set_if began who own (without_woken None gs alarms)) watchers' called → OnErr result (called ≡ None)
nobody_by_call old new who call (Ok reply) began gs own called alarms watchers watchers' made b kept watchers-are is = tt
nobody_by_call old new who call (Err r) began gs own called alarms watchers watchers' made b kept watchers-are is =
    nobody_called new who began gs own called alarms watchers watchers' made.1 b (kept_same old new alarms watchers made.2 kept) watchers-are is

-- the same where numbers may be given again
pub nobody_by_renewal : (old new : State) (who : ℕ) (result : Result Reply Refusal) (began : Bool) (gs : List Grant) (own called : Option ℕ) (alarms : List (Option ℕ)) (watchers watchers' : List Bool) → IsUnchanged old result gs new → began ≡ pended result → TimeIsKept old alarms watchers → watchers' ≡ without_woken false gs watchers → IsCalledToLook new (set_if began who own (without_woken None gs alarms)) watchers' called → OnErr result (called ≡ None)
nobody_by_renewal old new who (Ok reply) began gs own called alarms watchers watchers' made b kept watchers-are is = tt
nobody_by_renewal old new who (Err r) began gs own called alarms watchers watchers' made b kept watchers-are is =
    nobody_called new who began gs own called alarms watchers watchers' made.0 b (kept_same old new alarms watchers made.1 kept) watchers-are is

pub nobody_by_tick : (old new : State) (m : ℕ) (result : Result Reply Refusal) (gs : List Grant) (own called : Option ℕ) (alarms : List (Option ℕ)) (watchers watchers' : List Bool) → Ticked old m result gs new → TimeIsKept old alarms watchers → watchers' ≡ without_woken false gs watchers → IsCalledToLook new (without_woken None gs alarms) watchers' called → OnErr result (called ≡ None)
nobody_by_tick old new m (Ok reply) gs own called alarms watchers watchers' ticked kept watchers-are is = tt
nobody_by_tick old new m (Err r) gs own called alarms watchers watchers' ticked kept watchers-are is =
    nobody_called new 0 false gs own called alarms watchers watchers' ticked.2 refl (kept_same old new alarms watchers ticked.3 kept) watchers-are is

-- ---- the same values

pub woke_as : (old old' new : Sleeping) (who : ℕ) (began began' : Bool) → old ≡ old' → began ≡ began' → Woke old who began new → Woke old' who began' new
woke_as old old' new who began began' same is woke = subst (λ (s : Sleeping). Woke s who began' new) same (subst (λ (b : Bool). Woke old who b new) is woke)

pub watches_as : (old old' new : Sleeping) (who : ℕ) (moment : Option ℕ) → old ≡ old' → Watches old who moment new → Watches old' who moment new
watches_as old old' new who moment same watches = subst (λ (s : Sleeping). Watches s who moment new) same watches

-- ---- a call that leaves all as it was

pub woke_still : (old new : Sleeping) (who : ℕ) (began : Bool) → began ≡ false → new.core.grants ≡ [] → new.alarms ≡ old.alarms → new.watchers ≡ old.watchers → new.called ≡ None → Woke old who began new
woke_still old new who began not none alarms-are watchers-are nobody = record {
  alarms = alarms-are ∙ idle_alarms old.alarms who began new.core not none ∙ ap (λ (c : Option ℕ). with_called c (settled old.alarms who began new.core)) (sym nobody);
  watchers = watchers-are ∙ idle_watchers old.watchers new.core.grants none;
  called = subst (λ (c : Option ℕ). IsCalledToLook (state new.core) (settled old.alarms who began new.core) new.watchers c) (sym nobody) tt;
}

-- a refused call has changed nothing
pub refused : (old new : State) (result : Result Reply Refusal) (gs : List Grant) (r : Refusal) → result ≡ Err r → IsUnchanged old result gs new → (pended result ≡ false) × (gs ≡ []) × (new ≡ old)
refused old new (Ok reply) gs r is made = absurd (cc)
refused old new (Err cause) gs r is made = (refl, made.0, made.1)

none_before : (old new : State) (who : ℕ) (began : Bool) (gs : List Grant) (t : ℕ) → Moves old who began gs new → gs ≡ [] → map.len new.waits ≡ 0 → pends old t ≡ false
none_before old new who began gs t moves none left =
    let each = moves.each t in let ended = ap (granted_to t) none in let after = ap one_if (none_pends new t left) in
    no_one (pends old t) (omega (arith, each, ended, after))
  where
    no_one : (b : Bool) → one_if b ≤ 0 → b ≡ false
    no_one true some = absurd (omega (arith, some))
    no_one false some = refl

none_began : (old new : State) (who : ℕ) (began : Bool) (gs : List Grant) → Moves old who began gs new → map.len new.waits ≡ 0 → began ≡ false
none_began old new who false gs moves left = refl
none_began old new who true gs moves left = (let waits = begun_waits old new who gs moves in let not = none_pends new who left in absurd (cc (waits, not)))

nobody_before : (old new : State) (who : ℕ) (began : Bool) (gs : List Grant) (called : Option ℕ) → Moves old who began gs new → gs ≡ [] → map.len new.waits ≡ 0 → CalledWaits old called → called ≡ None
nobody_before old new who began gs None moves none left waits = refl
nobody_before old new who began gs (Some t) moves none left waits = (let not = none_before old new who began gs t moves none left in absurd (cc (waits, not)))

-- no wait pends, so none times out
idle_back : (s : State) (alarms : List (Option ℕ)) → map.len s.waits ≡ 0 → MeetsDeadlines s alarms
idle_back s alarms none t u due =
    let empty = ap (λ (p : Pending). map.get p t) (map.empty_of_len s.waits none) ∙ map.get-empty nat_cmp t in
    let not = ap time_out_of empty in
    absurd (cc (not, due))

-- no wait pends, and none has ended: so none pended
pub still : (old new : State) (who : ℕ) (began : Bool) (gs : List Grant) (called : Option ℕ) (alarms : List (Option ℕ)) (watchers : List Bool) → Moves old who began gs new → gs ≡ [] → map.len new.waits ≡ 0 → TimeIsKept old alarms watchers → CalledWaits old called → (began ≡ false) × (called ≡ None) × TimeIsKept new alarms watchers
still old new who began gs called alarms watchers moves none left kept waits = (
  none_began old new who began gs moves left,
  nobody_before old new who began gs called moves none left waits,
  record {
    few = kept.few;
    places = kept.places ∙ sym moves.threads;
    count = kept.count;
    asleep = λ t m is. (let was = kept.asleep t m is in let not = none_before old new who began gs t moves none left in absurd (cc (was, not)));
    watching = λ t is. (let was = kept.watching t is in let not = none_before old new who began gs t moves none left in absurd (cc (was, not)));
    deadlines = idle_back new alarms left;
    in_time = in_time new alarms watchers (idle_back new alarms left) (in_time_quiet new alarms watchers (λ t is. (let was = kept.watching t is in let not = none_before old new who began gs t moves none left in absurd (cc (was, not)))));
  },
)

pub on_err : {P : Type 0} (result : Result Reply Refusal) → P → OnErr result P
on_err (Ok reply) is = tt
on_err (Err r) is = is
