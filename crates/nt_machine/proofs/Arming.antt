-- Timers that are armed, and expire.
use Rattle.std.proofs.Common.{◌≡◌, ◌≢◌, ◌<◌, ◌≤◌, ℕ, zero, suc, Bool, true, false, List, [], ◌∷◌, length, set, refl, sym, ap, ◌∙◌, subst, arith, Option, Some, None, inl, inr}
use Rattle.std.specs.Prelude.{IfSome, nat_le, if◌then◌else◌, ◌==◌}
use Rattle.std.specs.FinMap as fin
use Rattle.std.proofs.lemmas.Bool.{cases_eq, false≢true}
use Rattle.std.proofs.lemmas.Bool.Decides.{nat_tests}
use Rattle.std.proofs.lemmas.List.{length-set}
use Rattle.nt_objects.specs.declared.object.Object.{Object}
use Rattle.nt_objects.specs.declared.object.Object.TheVariants.{Event, Semaphore, Mutex, Timer, Thread, Gone}
use Rattle.nt_objects.specs.declared.object.Armed.{Armed}
use Rattle.nt_objects.specs.declared.object.Routine.{Routine}
use Rattle.nt_objects.specs.Object.{signaled, is_timer, has_ended, due_of, setter_of, setting_of, armed_with, with_set, rearmed, next_above, units}
use Rattle.nt_apc.specs.declared.apc.Queued.{Queued}
use Rattle.nt_apc.specs.Queues.{Apcs, has_apc, is_queued, is_at, pushed, withdrawn, place_of}
use Rattle.nt_objects.proofs.Periods.{next_above-first}
use Rattle.nt_calls.specs.declared.call.Act.{Act}
use Rattle.nt_calls.specs.declared.call.Call.{Call}
use Rattle.nt_calls.specs.declared.call.Reply.{Reply}
use Rattle.nt_calls.specs.State.{State, object_at}
use Rattle.nt_machine.specs.Dispatcher.{Dispatcher, state}
use Rattle.nt_calls.specs.Change.{notified, expired, expired_as, armed_anew, timer_set, due_moment, routine_for}
use Rattle.std.specs.Prelude.{ℤ, option_map, unsigned_abs}
use Rattle.nt_waits.specs.Waits.{Waits}
use Rattle.nt_waits.specs.declared.wait.Wait.{Wait}
use Rattle.nt_calls.specs.Serving.{is_ready, sequence, Serve}
use Rattle.nt_calls.specs.Change.{change}
use Rattle.nt_calls.specs.Steps.{NothingDue}
use Rattle.nt_machine.specs.Visits.{FitOnlyIn, FitOnlyBy}
use Rattle.nt_machine.specs.Lawful.{IsMachineSound, IsSteady, IsSettled, IsUnmarked}
use Rattle.nt_machine.specs.Accepts.{IsFresh, IsPromised, IsServedAfter, Accepts}
use Rattle.nt_machine.proofs.Changing.{object_at-set_same, object_at-set_other, served_fewer, fit_only_in, changed_at_one, one_changed}
use Rattle.nt_machine.proofs.Accepting.{IsCalm, accepted, settled_after}
use Rattle.nt_machine.proofs.Alerting.{has_pushed_other}
use Rattle.nt_machine.proofs.Stopping.{by_replaced}
use Rattle.nt_machine.proofs.Replacing.{idle_served}
use Rattle.nt_machine.proofs.Timing.{retimed, retimed_sound, timer_parts, timer_changed, known_timer, and_kept, withdrawn_twice, length_withdrawn, has_withdrawn}

set_set : (os : List Object) (h : ℕ) (x y : Object) → set (set os h x) h y ≡ set os h y
set_set [] h x y = refl
set_set (o ∷ os) zero x y = refl
set_set (o ∷ os) (suc h) x y = ap (λ ys. o ∷ ys) (set_set os h x y)

-- ---- one timer expires

-- what an expiry leaves of the state
abbrev pub rung : ℕ → State → ℕ → Bool → Armed → State
rung v s h manual armed = record s { objects = set s.objects h (Timer manual true (rearmed v armed)); apcs = notified s.apcs h armed.due armed.routine }

pub expired_one : (v : ℕ) (s : State) (h : ℕ) (manual was : Bool) (armed : Armed) → object_at s.objects h ≡ Timer manual was (Some armed) → expired v s h ≡ rung v s h manual armed
expired_one v s h manual was armed is =
    ap (λ (setting : Option Armed). expired_as s v h setting) (ap setting_of is)
    ∙ ap (λ (o : Object). record s { objects = set s.objects h (armed_with (rearmed v armed) (with_set true o)); apcs = notified s.apcs h armed.due armed.routine }) is

pub length_notified : (queues : List (List Queued)) (timer due : ℕ) (routine : Option Routine) → length (notified queues timer due routine) ≡ length queues
length_notified queues timer due None = refl
length_notified queues timer due (Some r) = go (is_queued queues timer)
  where
    q : Queued
    q = record { apc = record { routine = r.routine; arg = r.arg; at = Some due }; timer = Some timer }

    go : (b : Bool) → length (if b then queues else pushed queues r.thread (record { apc = record { routine = r.routine; arg = r.arg; at = Some due }; timer = Some timer })) ≡ length queues
    go true = refl
    go false = length-set queues r.thread _

-- a timer that is armed anew keeps its routine
setter_rearmed : (v : ℕ) (manual was : Bool) (armed : Armed) (t : ℕ) → setter_of (Timer manual true (rearmed v armed)) ≡ Some t → setter_of (Timer manual was (Some armed)) ≡ Some t
setter_rearmed v manual was armed t sets = go (armed.period == 0) sets
  where
    go : (b : Bool) → setter_of (Timer manual true (if b then None else Some (record armed { due = next_above v armed.due (units armed.period) }))) ≡ Some t → setter_of (Timer manual was (Some armed)) ≡ Some t
    go true h = let e : None ≡ Some t = h in (cc)
    go false h = h

pub setting_parts : (o : Object) (armed : Armed) → setting_of o ≡ Some armed → (manual : Bool) × (was : Bool) × (o ≡ Timer manual was (Some armed))
setting_parts (Event manual was) armed is = let h : None ≡ Some armed = is in (cc)
setting_parts (Semaphore count maximum) armed is = let h : None ≡ Some armed = is in (cc)
setting_parts (Mutex owner depth abandoned) armed is = let h : None ≡ Some armed = is in (cc)
setting_parts (Timer manual was setting) armed is = (manual, was, ap (λ (a : Option Armed). Timer manual was a) is)
setting_parts (Thread ended) armed is = let h : None ≡ Some armed = is in (cc)
setting_parts Gone armed is = let h : None ≡ Some armed = is in (cc)

pub due_setting : (o : Object) (u : ℕ) → due_of o ≡ Some u → (armed : Armed) × (setting_of o ≡ Some armed) × (armed.due ≡ u)
due_setting (Event manual was) u is = let h : None ≡ Some u = is in (cc)
due_setting (Semaphore count maximum) u is = let h : None ≡ Some u = is in (cc)
due_setting (Mutex owner depth abandoned) u is = let h : None ≡ Some u = is in (cc)
due_setting (Timer manual was None) u is = let h : None ≡ Some u = is in (cc)
due_setting (Timer manual was (Some armed)) u is = let h : Some armed.due ≡ Some u = is in (armed, refl, (cc))
due_setting (Thread ended) u is = let h : None ≡ Some u = is in (cc)
due_setting Gone u is = let h : None ≡ Some u = is in (cc)

-- ---- a timer is set

pub armed_state : (s : State) (h : ℕ) (manual was : Bool) (a : Option Armed) (armed : Armed) → object_at s.objects h ≡ Timer manual was a → armed_anew s h armed ≡ record s { objects = set s.objects h (Timer manual false (Some armed)); apcs = withdrawn s.apcs h }
armed_state s h manual was a armed is =
    ap (λ (o : Object). record s { objects = set s.objects h (armed_with (Some armed) (with_set false o)); apcs = withdrawn s.apcs h }) is

-- armed anew, it expires at once
pub rung_state : (v : ℕ) (s : State) (h : ℕ) (manual was : Bool) (a : Option Armed) (armed : Armed) → object_at s.objects h ≡ Timer manual was a → h < length s.objects → expired v (armed_anew s h armed) h ≡ record s { objects = set s.objects h (Timer manual true (rearmed v armed)); apcs = notified (withdrawn s.apcs h) h armed.due armed.routine }
rung_state v s h manual was a armed is known =
    ap (λ (x : State). expired v x h) (armed_state s h manual was a armed is)
    ∙ (expired_one v (record s { objects = set s.objects h (Timer manual false (Some armed)); apcs = withdrawn s.apcs h }) h manual false armed (object_at-set_same s.objects h (Timer manual false (Some armed)) known)
    ∙ ap (λ (os : List Object). record s { objects = os; apcs = notified (withdrawn s.apcs h) h armed.due armed.routine }) (set_set s.objects h (Timer manual false (Some armed)) (Timer manual true (rearmed v armed))))

-- an expiry queues an APC to the routine's thread alone
pub has_notified : (queues : List (List Queued)) (h due : ℕ) (routine : Option Routine) (t u : ℕ) → IfSome routine (λ r. r.thread ≡ t) → u ≢ t → has_apc (notified queues h due routine) u ≡ true → has_apc queues u ≡ true
has_notified queues h due None t u own other has = has
has_notified queues h due (Some r) t u own other has = go (is_queued queues h) has
  where
    go : (b : Bool) → has_apc (if b then queues else pushed queues r.thread (record { apc = record { routine = r.routine; arg = r.arg; at = Some due }; timer = Some h })) u ≡ true → has_apc queues u ≡ true
    go true has = has
    go false has = sym (has_pushed_other queues r.thread u (record { apc = record { routine = r.routine; arg = r.arg; at = Some due }; timer = Some h }) (λ e. other (e ∙ own))) ∙ has

-- the state once the timer at h is another one
abbrev pub timed_state : State → ℕ → Object → List (List Queued) → State
timed_state s h o queues = record s { objects = set s.objects h o; apcs = queues }

-- the caller does not wait, and nobody else has an APC anew
calm_timed : (s : State) (t h : ℕ) (o : Object) (queues : List (List Queued)) → fin.get s.waits t ≡ None → ((u : ℕ) → u ≢ t → has_apc queues u ≡ true → has_apc s.apcs u ≡ true) → IsCalm s → IsCalm (timed_state s h o queues)
calm_timed s t h o queues idle fewer calm u alerted = elim (cases_eq u t) [
  | inl same ↦ waits_not alerted.0 (sym idle ∙ (ap (λ (k : ℕ). fin.get s.waits k) (sym same) ∙ alerted.1))
  | inr other ↦ calm u (alerted.0, alerted.1, and_kept (alerted.0).alertable (has_apc queues u) (has_apc s.apcs u) (fewer u other) alerted.2)
]
  where
    waits_not : (v : Wait) → None ≡ Some v → ⊥
    waits_not v h = (cc)

due_timed : (s : State) (h m : ℕ) (o : Object) (queues : List (List Queued)) → h < length s.objects → ((v : ℕ) → due_of o ≡ Some v → m < v) → NothingDue s m → NothingDue (timed_state s h o queues) m
due_timed s h m o queues known later none v (inl timer) = elim (cases_eq timer.0 h) [
  | inl same ↦ later v (sym (ap due_of (ap (λ (j : ℕ). object_at (set s.objects h o) j) same ∙ object_at-set_same s.objects h o known)) ∙ timer.1)
  | inr other ↦ none v (inl (timer.0, sym (ap due_of (object_at-set_other s.objects h timer.0 o other)) ∙ timer.1))
]
due_timed s h m o queues known later none v (inr late) = none v (inr late)

-- the due moment after an expiry is ahead
pub later_rung : (v : ℕ) (manual : Bool) (armed : Armed) → armed.due ≤ v → (u : ℕ) → due_of (Timer manual true (rearmed v armed)) ≡ Some u → v < u
later_rung v manual armed le u due = go (armed.period == 0) refl due
  where
    go : (b : Bool) → (armed.period == 0) ≡ b → due_of (Timer manual true (if b then None else Some (record armed { due = next_above v armed.due (units armed.period) }))) ≡ Some u → v < u
    go true none h = let e : None ≡ Some u = h in (cc)
    go false some h =
        let e : Some (next_above v armed.due (units armed.period)) ≡ Some u = h in
        let same : next_above v armed.due (units armed.period) ≡ u = (cc) in
        let positive : 0 < units armed.period = grind (arith, nat_tests, some) in
        let above = (next_above-first v armed.due (units armed.period) le positive).above in
        omega (arith, above, same)

unready_timed : (s : State) (h : ℕ) (manual was now : Bool) (a setting : Option Armed) → object_at s.objects h ≡ Timer manual was a → (now ≡ true → was ≡ true) → (u k : ℕ) → is_ready s.objects u k ≡ false → is_ready (set s.objects h (Timer manual now setting)) u k ≡ false
unready_timed s h manual was now a setting is rises u k unready = elim (cases_eq k h) [
  | inl same ↦
      ap (λ (j : ℕ). is_ready (set s.objects h (Timer manual now setting)) u j) same
      ∙ (ap (λ (o : Object). signaled o u) (object_at-set_same s.objects h (Timer manual now setting) (known_timer s.objects h (ap is_timer is)))
      ∙ stays now rises (sym (ap (λ (o : Object). signaled o u) is) ∙ (ap (λ (j : ℕ). is_ready s.objects u j) (sym same) ∙ unready)))
  | inr other ↦ ap (λ (o : Object). signaled o u) (object_at-set_other s.objects h k (Timer manual now setting) other) ∙ unready
]
  where
    stays : (b : Bool) → (b ≡ true → was ≡ true) → was ≡ false → b ≡ false
    stays true rises e = absurd (false≢true (sym e ∙ rises refl))
    stays false rises e = refl

-- no object satisfies more waits than before: nothing is served
pub set_quietly : (old new : Dispatcher) (t h : ℕ) (due period : ℤ) (routine : Option (ℕ × ℕ)) (manual was now : Bool) (a setting : Option Armed) (queues : List (List Queued)) → IsFresh old → fin.get old.table.pending t ≡ None → object_at old.objects h ≡ Timer manual was a → (now ≡ true → was ≡ true) → ((v : ℕ) → due_of (Timer manual now setting) ≡ Some v → old.now < v) → ((u : ℕ) → u ≢ t → has_apc queues u ≡ true → has_apc old.apcs.queues u ≡ true) → state new ≡ timed_state (state old) h (Timer manual now setting) queues → IsMachineSound new → new.grants ≡ old.grants → new.table.looked ≡ old.table.looked → new.marked ≡ old.marked → change (state old) t (Call.Act (Act.SetTimer h due period routine)) ≡ timed_state (state old) h (Timer manual now setting) queues → Accepts old new t (Call.Act (Act.SetTimer h due period routine)) Reply.Done
set_quietly old new t h due period routine manual was now a setting queues fresh idle is rises later fewer becomes sound grants looked marked changes =
    let o = Timer manual now setting in
    let s = timed_state (state old) h o queues in
    let changed = timer_changed old.objects h manual was now a setting is in
    let known = known_timer old.objects h (ap is_timer is) in
    let settled : IsSettled s = record {
      served = served_fewer (state old) (set old.objects h o) fresh.steady.settled.served (λ u k e. unready_timed (state old) h manual was now a setting is rises u k e);
      alerted = calm_timed (state old) t h o queues idle fewer fresh.steady.settled.alerted;
      passed = due_timed (state old) h old.now o queues known later fresh.steady.settled.passed;
    } in
    let steady : IsSteady new = record { sound = sound; settled = subst IsSettled (sym becomes) settled; unmarked = subst IsUnmarked (sym marked) fresh.steady.unmarked } in
    accepted old new new t (Call.Act (Act.SetTimer h due period routine)) Reply.Done
    (subst (λ (x : State). IsServedAfter old x new) (sym changes) (idle_served old s new changed.0 fresh changed.1 grants looked becomes steady))
    refl refl refl steady refl

-- what fits once the timer is set names it
pub set_fit : (old : Dispatcher) (h : ℕ) (o : Object) (queues : List (List Queued)) → IsFresh old → FitOnlyIn (sequence (timed_state (state old) h o queues) (h ∷ [])) (timed_state (state old) h o queues)
set_fit old h o queues fresh = fit_only_in (h ∷ []) old (set old.objects h o) fresh.steady.sound fresh.steady.settled.served (changed_at_one old.objects h o)

-- the timer was not set, is set now, and the waits that name it were served
pub set_served : (old mid new : Dispatcher) (t h : ℕ) (due period : ℤ) (routine : Option (ℕ × ℕ)) (manual : Bool) (a setting : Option Armed) (queues : List (List Queued)) → IsFresh old → fin.get old.table.pending t ≡ None → object_at old.objects h ≡ Timer manual false a → ((v : ℕ) → due_of (Timer manual true setting) ≡ Some v → old.now < v) → ((u : ℕ) → u ≢ t → has_apc queues u ≡ true → has_apc old.apcs.queues u ≡ true) → state mid ≡ timed_state (state old) h (Timer manual true setting) queues → Serve (sequence (state mid) (h ∷ [])) (state mid) new.grants (state new) → IsMachineSound new → new.table.looked ≤ length (sequence (state mid) (h ∷ [])) → length new.grants ≤ new.table.looked → new.marked ≡ old.marked → change (state old) t (Call.Act (Act.SetTimer h due period routine)) ≡ timed_state (state old) h (Timer manual true setting) queues → Accepts old new t (Call.Act (Act.SetTimer h due period routine)) Reply.Done
set_served old mid new t h due period routine manual a setting queues fresh idle is later fewer becomes serve sound most least marked changes =
    let o = Timer manual true setting in
    let s = timed_state (state old) h o queues in
    let known = known_timer old.objects h (ap is_timer is) in
    let serves : Serve (sequence s (h ∷ [])) s new.grants (state new) = subst (λ (x : State). Serve (sequence x (h ∷ [])) x new.grants (state new)) becomes serve in
    let rose : o ≢ object_at old.objects h = λ e. false≢true (ap (λ (x : Object). signaled x 0) (sym (e ∙ is))) in
    let after : IsServedAfter old s new = record {
      numbers = h ∷ [];
      changed = one_changed old.objects h o known rose;
      serves = serves;
      sound = sound;
      most = subst (λ (x : State). new.table.looked ≤ length (sequence x (h ∷ []))) becomes most;
      least = least;
      unmarked = subst IsUnmarked (sym marked) fresh.steady.unmarked;
    } in
    let steady : IsSteady new = record {
      sound = sound;
      settled = settled_after (sequence s (h ∷ [])) s (state new) new.grants serves (calm_timed (state old) t h o queues idle fewer fresh.steady.settled.alerted) (due_timed (state old) h old.now o queues known later fresh.steady.settled.passed);
      unmarked = after.unmarked;
    } in
    accepted old new new t (Call.Act (Act.SetTimer h due period routine)) Reply.Done
    (subst (λ (x : State). IsServedAfter old x new) (sym changes) after)
    refl refl refl steady refl

-- ---- what the code of an arming and of an expiry leaves is sound

twice_if : (b : Bool) (timer : ℕ) (queues : List (List Queued)) → withdrawn (if b then queues else withdrawn queues timer) timer ≡ withdrawn queues timer
twice_if true timer queues = refl
twice_if false timer queues = withdrawn_twice timer queues

pub promised_one : (d : Dispatcher) (apcs : Apcs) (timer : ℕ) (routine : Option Routine) (r : Routine) → routine ≡ Some r → apcs.queues ≡ (if is_at r.thread (place_of d.apcs.places timer) then d.apcs.queues else withdrawn d.apcs.queues timer) → place_of apcs.places timer ≡ Some r.thread → ((m : ℕ) → m ≢ timer → place_of apcs.places m ≡ place_of d.apcs.places m) → IsPromised d timer routine (record d { apcs = apcs })
promised_one d apcs timer routine r is queues place others = record {
  rest = refl;
  queues = ap (λ (qs : List (List Queued)). withdrawn qs timer) queues ∙ twice_if (is_at r.thread (place_of d.apcs.places timer)) timer d.apcs.queues;
  place = subst (λ (o : Option Routine). IfSome o (λ x. place_of apcs.places timer ≡ Some x.thread)) (sym is) place;
  others = others;
}

pub armed_sound : (old p mid new : Dispatcher) (h : ℕ) (o : Object) (armed : Armed) → IsMachineSound old → is_timer (object_at old.objects h) ≡ true → IfSome armed.routine (λ r. (r.thread < old.threads) × (has_ended (object_at old.objects r.thread) ≡ false)) → IsPromised old h armed.routine p → mid ≡ record p { apcs = record p.apcs { queues = withdrawn p.apcs.queues h } } → o ≡ armed_with (Some armed) (with_set false (object_at mid.objects h)) → new ≡ record mid { objects = set mid.objects h o; alarms = set mid.alarms h (due_of o) } → IsMachineSound new
armed_sound old p mid new h o armed sound is runs promised withdraws arms puts =
    let apcs : Apcs = record p.apcs { queues = withdrawn p.apcs.queues h } in
    let parts = timer_parts (object_at old.objects h) is in
    let o' = Timer parts.0 false (Some armed) in
    let mid_is : mid ≡ record old { apcs = apcs } = withdraws ∙ ap (λ (d : Dispatcher). record d { apcs = apcs }) promised.rest in
    let same : o ≡ o' = arms ∙ (ap (λ (d : Dispatcher). armed_with (Some armed) (with_set false (object_at d.objects h))) mid_is ∙ ap (λ (x : Object). armed_with (Some armed) (with_set false x)) parts.3) in
    let new_is : new ≡ retimed old h o' apcs = puts ∙ (ap (λ (d : Dispatcher). record d { objects = set d.objects h o; alarms = set d.alarms h (due_of o) }) mid_is ∙ ap (λ (x : Object). retimed old h x apcs) same) in
    let len : length (withdrawn p.apcs.queues h) ≡ length old.apcs.queues = ap (λ (qs : List (List Queued)). length qs) promised.queues ∙ length_withdrawn h old.apcs.queues in
    subst IsMachineSound (sym new_is)
    (retimed_sound old h o' apcs sound is refl len (λ t sets. placed armed.routine refl t sets promised.place runs) promised.others)
  where
    placed : (routine : Option Routine) → armed.routine ≡ routine → (t : ℕ) → option_map (λ (r : Routine). r.thread) routine ≡ Some t → IfSome routine (λ r. place_of p.apcs.places h ≡ Some r.thread) → IfSome routine (λ r. (r.thread < old.threads) × (has_ended (object_at old.objects r.thread) ≡ false)) → (place_of p.apcs.places h ≡ Some t) × (t < old.threads) × (has_ended (object_at old.objects t) ≡ false)
    placed None e t sets place runs = let h : None ≡ Some t = sets in (cc)
    placed (Some r) e t sets place runs =
        let both : Some r.thread ≡ Some t = sets in
        let same : r.thread ≡ t = (cc) in
        (place ∙ ap (λ (k : ℕ). Some k) same, subst (λ (k : ℕ). k < old.threads) same runs.0, subst (λ (k : ℕ). has_ended (object_at old.objects k) ≡ false) same runs.1)

-- the routine of a timer that expires has its place
pub ringing_placed : (d : Dispatcher) (h due : ℕ) (o : Object) (routine : Option Routine) → IsMachineSound d → o ≡ object_at d.objects h → due_of o ≡ Some due → IfSome (setting_of o) (λ armed. routine ≡ armed.routine) → IfSome routine (λ r. place_of d.apcs.places h ≡ Some r.thread)
ringing_placed d h due o routine sound is has same =
    let own = due_setting o due has in
    let parts = setting_parts o own.0 own.1 in
    let routines : routine ≡ (own.0).routine = subst (λ (s : Option Armed). IfSome s (λ armed. routine ≡ armed.routine)) own.1 same in
    by_routine routine refl own.0 parts.0 parts.1 parts.2 routines
  where
    by_routine : (r : Option Routine) → routine ≡ r → (armed : Armed) (manual was : Bool) → o ≡ Timer manual was (Some armed) → routine ≡ armed.routine → IfSome r (λ x. place_of d.apcs.places h ≡ Some x.thread)
    by_routine None e armed manual was at routines = tt
    by_routine (Some r) e armed manual was at routines =
        let setter : setter_of (object_at d.objects h) ≡ Some r.thread =
        ap setter_of (sym is ∙ at) ∙ ap (λ (x : Option Routine). option_map (λ (y : Routine). y.thread) x) (sym routines ∙ e) in
        sound.timers.placed h r.thread setter

pub ringing_sound : (d put new : Dispatcher) (h due at now : ℕ) (o o' : Object) (routine : Option Routine) → IsMachineSound d → o ≡ object_at d.objects h → due_of o ≡ Some due → IfSome (setting_of o) (λ armed. o' ≡ armed_with (rearmed now armed) (with_set true o)) → put ≡ record d { objects = set d.objects h o'; alarms = set d.alarms h (due_of o') } → new ≡ record put { apcs = record put.apcs { queues = notified put.apcs.queues h at routine } } → IsMachineSound new
ringing_sound d put new h due at now o o' routine sound is has changes puts notifies =
    let own = due_setting o due has in
    let parts = setting_parts o own.0 own.1 in
    let armed = own.0 in
    let apcs : Apcs = record d.apcs { queues = notified d.apcs.queues h at routine } in
    let timer : object_at d.objects h ≡ Timer parts.0 parts.1 (Some armed) = sym is ∙ parts.2 in
    let same : o' ≡ Timer parts.0 true (rearmed now armed) = subst (λ (s : Option Armed). IfSome s (λ a. o' ≡ armed_with (rearmed now a) (with_set true o))) own.1 changes ∙ ap (λ (x : Object). armed_with (rearmed now armed) (with_set true x)) parts.2 in
    let new_is : new ≡ retimed d h (Timer parts.0 true (rearmed now armed)) apcs = notifies ∙ (ap (λ (x : Dispatcher). record x { apcs = record x.apcs { queues = notified x.apcs.queues h at routine } }) puts ∙ ap (λ (x : Object). retimed d h x apcs) same) in
    subst IsMachineSound (sym new_is)
    (retimed_sound d h (Timer parts.0 true (rearmed now armed)) apcs sound (ap is_timer timer) refl (length_notified d.apcs.queues h at routine)
    (λ t sets.
    let setter : setter_of (object_at d.objects h) ≡ Some t = ap setter_of timer ∙ setter_rearmed now parts.0 parts.1 armed t sets in
    let runs = sound.timers.runs h t setter in
    (sound.timers.placed h t setter, runs.0, runs.1))
    (λ m other. refl))

-- ---- SetTimer, from what its code says

-- the setting that SetTimer asks for
abbrev pub asked : ℕ → ℕ → ℤ → ℤ → Option (ℕ × ℕ) → Armed
asked now t due period routine = record { due = due_moment now due; period = unsigned_abs period; routine = routine_for t routine }

runs_on_caller : (t : ℕ) (routine : Option (ℕ × ℕ)) → IfSome (routine_for t routine) (λ r. r.thread ≡ t)
runs_on_caller t None = tt
runs_on_caller t (Some r) = refl

set_waits : (s : State) (h : ℕ) (manual was : Bool) (a : Option Armed) (armed : Armed) → object_at s.objects h ≡ Timer manual was a → s.now < armed.due → timer_set s h armed ≡ timed_state s h (Timer manual false (Some armed)) (withdrawn s.apcs h)
set_waits s h manual was a armed is ahead = go (nat_le armed.due s.now) refl
  where
    go : (b : Bool) → nat_le armed.due s.now ≡ b → (if b then expired s.now (armed_anew s h armed) h else armed_anew s h armed) ≡ timed_state s h (Timer manual false (Some armed)) (withdrawn s.apcs h)
    go true le = let past : armed.due ≤ s.now = grind (arith, nat_tests, le) in absurd (omega (arith, past, ahead))
    go false gt = armed_state s h manual was a armed is

set_rings : (s : State) (h : ℕ) (manual was : Bool) (a : Option Armed) (armed : Armed) → object_at s.objects h ≡ Timer manual was a → h < length s.objects → armed.due ≤ s.now → timer_set s h armed ≡ timed_state s h (Timer manual true (rearmed s.now armed)) (notified (withdrawn s.apcs h) h armed.due armed.routine)
set_rings s h manual was a armed is known past = go (nat_le armed.due s.now) refl
  where
    go : (b : Bool) → nat_le armed.due s.now ≡ b → (if b then expired s.now (armed_anew s h armed) h else armed_anew s h armed) ≡ timed_state s h (Timer manual true (rearmed s.now armed)) (notified (withdrawn s.apcs h) h armed.due armed.routine)
    go true le = rung_state s.now s h manual was a armed is known
    go false gt = let ahead : s.now < armed.due = grind (arith, nat_tests, gt) in absurd (omega (arith, past, ahead))

-- nobody but the caller has an APC anew
fewer_rung : (queues : List (List Queued)) (h due : ℕ) (routine : Option Routine) (t u : ℕ) → IfSome routine (λ r. r.thread ≡ t) → u ≢ t → has_apc (notified (withdrawn queues h) h due routine) u ≡ true → has_apc queues u ≡ true
fewer_rung queues h due routine t u own other has = has_withdrawn h queues u (has_notified (withdrawn queues h) h due routine t u own other has)

-- what the state is once it has expired
pub rung_after : (old d1 d2 : Dispatcher) (h v : ℕ) (manual was : Bool) (a : Option Armed) (armed : Armed) → object_at old.objects h ≡ Timer manual was a → v ≡ old.now → state d1 ≡ armed_anew (state old) h armed → state d2 ≡ expired v (state d1) h → state d2 ≡ timed_state (state old) h (Timer manual true (rearmed old.now armed)) (notified (withdrawn old.apcs.queues h) h armed.due armed.routine)
rung_after old d1 d2 h v manual was a armed is now arms rings =
    rings
    ∙ (ap (λ (k : ℕ). expired k (state d1) h) now
    ∙ (ap (λ (s : State). expired old.now s h) arms
    ∙ rung_state old.now (state old) h manual was a armed is (known_timer old.objects h (ap is_timer is))))

-- it is not due yet
pub set_ahead : (old new : Dispatcher) (t h : ℕ) (due period : ℤ) (routine : Option (ℕ × ℕ)) (armed : Armed) → IsFresh old → fin.get old.table.pending t ≡ None → is_timer (object_at old.objects h) ≡ true → armed ≡ asked old.now t due period routine → old.now < armed.due → state new ≡ armed_anew (state old) h armed → IsMachineSound new → new.grants ≡ old.grants → new.table ≡ old.table → new.marked ≡ old.marked → Accepts old new t (Call.Act (Act.SetTimer h due period routine)) Reply.Done
set_ahead old new t h due period routine armed fresh idle is same ahead arms sound grants table marked =
    let parts = timer_parts (object_at old.objects h) is in
    let changes : change (state old) t (Call.Act (Act.SetTimer h due period routine)) ≡ timed_state (state old) h (Timer parts.0 false (Some armed)) (withdrawn old.apcs.queues h) =
    ap (λ (x : Armed). timer_set (state old) h x) (sym same) ∙ set_waits (state old) h parts.0 parts.1 parts.2 armed parts.3 ahead in
    set_quietly old new t h due period routine parts.0 parts.1 false parts.2 (Some armed) (withdrawn old.apcs.queues h) fresh idle parts.3
    (λ never. absurd (false≢true never))
    (λ v at. let e : Some armed.due ≡ Some v = at in let d = inside armed.due v e in omega (arith, d, ahead))
    (λ u other has. has_withdrawn h old.apcs.queues u has)
    (arms ∙ armed_state (state old) h parts.0 parts.1 parts.2 armed parts.3) sound grants (ap (λ (x : Waits). x.looked) table) marked changes
  where
    inside : (a b : ℕ) → Some a ≡ Some b → a ≡ b
    inside a b e = (cc)

-- it is due, and was set before
pub set_at_once : (old d1 new : Dispatcher) (t h v : ℕ) (due period : ℤ) (routine : Option (ℕ × ℕ)) (armed : Armed) → IsFresh old → fin.get old.table.pending t ≡ None → is_timer (object_at old.objects h) ≡ true → armed ≡ asked old.now t due period routine → v ≡ old.now → armed.due ≤ v → signaled (object_at old.objects h) t ≡ true → state d1 ≡ armed_anew (state old) h armed → state new ≡ expired v (state d1) h → IsMachineSound new → new.grants ≡ old.grants → new.table ≡ old.table → new.marked ≡ old.marked → Accepts old new t (Call.Act (Act.SetTimer h due period routine)) Reply.Done
set_at_once old d1 new t h v due period routine armed fresh idle is same now past was arms rings sound grants table marked =
    let parts = timer_parts (object_at old.objects h) is in
    let known = known_timer old.objects h is in
    let reached : armed.due ≤ old.now = omega (arith, past, now) in
    let own : IfSome armed.routine (λ r. r.thread ≡ t) = subst (λ (x : Armed). IfSome x.routine (λ r. r.thread ≡ t)) (sym same) (runs_on_caller t routine) in
    let set_before : parts.1 ≡ true = sym (ap (λ (o : Object). signaled o t) parts.3) ∙ was in
    let changes : change (state old) t (Call.Act (Act.SetTimer h due period routine)) ≡ timed_state (state old) h (Timer parts.0 true (rearmed old.now armed)) (notified (withdrawn old.apcs.queues h) h armed.due armed.routine) =
    ap (λ (x : Armed). timer_set (state old) h x) (sym same) ∙ set_rings (state old) h parts.0 parts.1 parts.2 armed parts.3 known reached in
    set_quietly old new t h due period routine parts.0 parts.1 true parts.2 (rearmed old.now armed) (notified (withdrawn old.apcs.queues h) h armed.due armed.routine) fresh idle parts.3
    (λ e. set_before)
    (later_rung old.now parts.0 armed reached)
    (λ u other has. fewer_rung old.apcs.queues h armed.due armed.routine t u own other has)
    (rung_after old d1 new h v parts.0 parts.1 parts.2 armed parts.3 now arms rings) sound grants (ap (λ (x : Waits). x.looked) table) marked changes

-- it is due, was not set before, and its waits were served
pub set_and_served : (old d1 mid new : Dispatcher) (t h v : ℕ) (due period : ℤ) (routine : Option (ℕ × ℕ)) (armed : Armed) → IsFresh old → fin.get old.table.pending t ≡ None → is_timer (object_at old.objects h) ≡ true → armed ≡ asked old.now t due period routine → v ≡ old.now → armed.due ≤ v → signaled (object_at old.objects h) t ≡ false → state d1 ≡ armed_anew (state old) h armed → state mid ≡ expired v (state d1) h → Serve (sequence (state mid) (h ∷ [])) (state mid) new.grants (state new) → IsMachineSound new → new.table.looked ≤ length (sequence (state mid) (h ∷ [])) → length new.grants ≤ new.table.looked → new.marked ≡ old.marked → Accepts old new t (Call.Act (Act.SetTimer h due period routine)) Reply.Done
set_and_served old d1 mid new t h v due period routine armed fresh idle is same now past was arms rings serve sound most least marked =
    let parts = timer_parts (object_at old.objects h) is in
    let known = known_timer old.objects h is in
    let reached : armed.due ≤ old.now = omega (arith, past, now) in
    let own : IfSome armed.routine (λ r. r.thread ≡ t) = subst (λ (x : Armed). IfSome x.routine (λ r. r.thread ≡ t)) (sym same) (runs_on_caller t routine) in
    let unset_before : parts.1 ≡ false = sym (ap (λ (o : Object). signaled o t) parts.3) ∙ was in
    let changes : change (state old) t (Call.Act (Act.SetTimer h due period routine)) ≡ timed_state (state old) h (Timer parts.0 true (rearmed old.now armed)) (notified (withdrawn old.apcs.queues h) h armed.due armed.routine) =
    ap (λ (x : Armed). timer_set (state old) h x) (sym same) ∙ set_rings (state old) h parts.0 parts.1 parts.2 armed parts.3 known reached in
    set_served old mid new t h due period routine parts.0 parts.2 (rearmed old.now armed) (notified (withdrawn old.apcs.queues h) h armed.due armed.routine) fresh idle (parts.3 ∙ ap (λ (b : Bool). Timer parts.0 b parts.2) unset_before)
    (later_rung old.now parts.0 armed reached)
    (λ u other has. fewer_rung old.apcs.queues h armed.due armed.routine t u own other has)
    (rung_after old d1 mid h v parts.0 parts.1 parts.2 armed parts.3 now arms rings) serve sound most least marked changes

-- what fits then names the timer
pub set_local : (old d1 mid : Dispatcher) (h v : ℕ) (armed : Armed) → IsFresh old → is_timer (object_at old.objects h) ≡ true → v ≡ old.now → state d1 ≡ armed_anew (state old) h armed → state mid ≡ expired v (state d1) h → FitOnlyIn (sequence (state mid) (h ∷ [])) (state mid)
set_local old d1 mid h v armed fresh is now arms rings =
    let parts = timer_parts (object_at old.objects h) is in
    subst (λ (s : State). FitOnlyIn (sequence s (h ∷ [])) s) (sym (rung_after old d1 mid h v parts.0 parts.1 parts.2 armed parts.3 now arms rings))
    (set_fit old h (Timer parts.0 true (rearmed old.now armed)) (notified (withdrawn old.apcs.queues h) h armed.due armed.routine) fresh)

-- and needs it
pub set_needed : (old d1 mid : Dispatcher) (h v : ℕ) (armed : Armed) → IsFresh old → is_timer (object_at old.objects h) ≡ true → v ≡ old.now → state d1 ≡ armed_anew (state old) h armed → state mid ≡ expired v (state d1) h → FitOnlyBy h (state mid)
set_needed old d1 mid h v armed fresh is now arms rings =
    let parts = timer_parts (object_at old.objects h) is in
    subst (λ (s : State). FitOnlyBy h s) (sym (rung_after old d1 mid h v parts.0 parts.1 parts.2 armed parts.3 now arms rings))
    (by_replaced (state old) h (Timer parts.0 true (rearmed old.now armed)) fresh.steady.settled.served (λ u owns. absurd (false≢true owns)))

set_due : (o : Object) (armed : Armed) → is_timer o ≡ true → due_of (armed_with (Some armed) (with_set false o)) ≡ Some armed.due
set_due (Event manual was) armed is = absurd (false≢true is)
set_due (Semaphore count maximum) armed is = absurd (false≢true is)
set_due (Mutex owner depth abandoned) armed is = absurd (false≢true is)
set_due (Timer manual was before) armed is = refl
set_due (Thread ended) armed is = absurd (false≢true is)
set_due Gone armed is = absurd (false≢true is)

-- a timer that was armed anew is due when it was asked to be
pub anew_due : (old d1 : Dispatcher) (h : ℕ) (armed : Armed) → is_timer (object_at old.objects h) ≡ true → state d1 ≡ armed_anew (state old) h armed → due_of (object_at d1.objects h) ≡ Some armed.due
anew_due old d1 h armed is arms =
    ap (λ (s : State). due_of (object_at s.objects h)) arms
    ∙ (ap due_of (object_at-set_same old.objects h (armed_with (Some armed) (with_set false (object_at old.objects h))) (known_timer old.objects h is))
    ∙ set_due (object_at old.objects h) armed is)
