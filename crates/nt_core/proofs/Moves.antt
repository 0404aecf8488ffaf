-- What a call or a tick does to each thread's pending wait, and to the present moment.
use Rattle.std.proofs.Common.{◌≡◌, ◌+◌, ◌<◌, ◌≤◌, ℕ, Bool, true, false, cond, ◌&&◌, ◌==◌, eqb, eq-eqb, ne_eqb, List, [], ◌∷◌, ◌++◌, map, refl, sym, ap, ◌∙◌, subst, arith, Option, Some, None, is_some, Result, Ok, Err, Contains}
use Rattle.std.specs.Prelude.{nat_le}
use Rattle.std.specs.FinMap.{get, insert, remove, get-insert}
use Rattle.std.specs.Ordering.{nat_cmp, eq_by_cmp}
use Rattle.std.specs.Cmp.{nat_cmp_total, unsigned_tied}
use Rattle.std.proofs.lemmas.Bool.{false≢true}
use Rattle.nt_status.proofs.Lists.{contains_first, contains_later}
use native.Mathlib.Decide.{ℕ_discrete}
use Rattle.nt_status.specs.declared.refusal.Refusal.{Refusal}
use Rattle.nt_status.specs.Status.{io_completion_code}
use Rattle.nt_waits.specs.declared.wait.Wait.{Wait}
use Rattle.nt_objects.specs.declared.object.Armed.{Armed}
use Rattle.nt_objects.specs.Object.{setting_of}
use Rattle.nt_apc.specs.Queues.{has_apc}
use Rattle.nt_calls.specs.declared.call.Act.{Act}
use Rattle.nt_calls.specs.declared.call.Call.{Call}
use Rattle.nt_calls.specs.declared.call.WaitCall.{WaitCall}
use Rattle.nt_calls.specs.declared.call.Grant.{Grant}
use Rattle.nt_calls.specs.declared.call.Reply.{Reply}
use Rattle.nt_calls.specs.Calls.{timeout_of}
use Rattle.nt_calls.specs.Rising.{IsRising}
use Rattle.nt_calls.specs.Rights.{is_denied}
use Rattle.nt_machine.proofs.Judging.{undenied}
use Rattle.nt_calls.specs.Refusals.{Cause, first_of_causes, refusal, call_causes}
use Rattle.nt_status.specs.declared.refusal.Refusal.TheVariants.{UnknownThread, ThreadEnded, ThreadWaiting}
use Rattle.nt_objects.specs.Object.{has_ended}
use Rattle.nt_calls.specs.Naming.{call_named}
use Rattle.nt_tables.specs.declared.handles.Opened.{Opened}
use Rattle.nt_calls.specs.State.{State, Pending, pends, pending_too, with_handing, wait_over, waits_over, object_at}
use Rattle.nt_calls.specs.Serving.{fits, status, wait_granted, Grants, Alert, TimeOut, ending, taken_by, is_sleep, late_status, sleeps}
use Rattle.nt_calls.specs.Change.{change, act_reply, may_take, armed_anew, timer_set, expired, expired_as, all_expired}
use Rattle.nt_calls.specs.Steps.{Called, Made, Step, Ticked, MomentPasses, MomentsPass, after_serving, answered, begun, asked_wait}
use Rattle.nt_calls.specs.Living.{Ends}
use Rattle.nt_calls.specs.Moves.{one_if, pended, is_wait, granted_to, Moves, IsMomentAfter}
use Rattle.nt_machine.proofs.Remaining.{same_threads, ends_waits}
use Rattle.nt_machine.proofs.Settling.{same_now}
use Rattle.nt_machine.proofs.Walks.{get_same, get_other}

granted_to-append : (t : ℕ) (xs ys : List Grant) → granted_to t (xs ++ ys) ≡ granted_to t xs + granted_to t ys
granted_to-append t [] ys = omega arith
granted_to-append t (x ∷ xs) ys = omega (arith, granted_to-append t xs ys)

-- how many threads there are, and the present moment
abbrev kept : State → ℕ × ℕ
kept s = (s.threads, s.now)

none_begun : (b : Bool) → ◌≡◌ {A = ℕ} (cond b 0 0) 0
none_begun true = refl
none_begun false = refl

-- a call that nothing refuses is of a thread that does not wait
next_causes : (b : Bool) (r : Refusal) (cs : List Cause) → first_of_causes ((b, r) ∷ cs) ≡ None → (b ≡ false) × (first_of_causes cs ≡ None)
next_causes true r cs e = absurd (false≢true (sym (ap (λ (o : Option Refusal). is_some o) e)))
next_causes false r cs e = (refl, e)

free_caller : (s : State) (who : ℕ) (call : Call) → refusal s who false call ≡ None → pends s who ≡ false
free_caller s who call none =
    let first = next_causes (nat_le s.threads who) UnknownThread ((has_ended (object_at s.objects who), ThreadEnded) ∷ (pends s who, ThreadWaiting) ∷ call_causes s who false call) none in
    let second = next_causes (has_ended (object_at s.objects who)) ThreadEnded ((pends s who, ThreadWaiting) ∷ call_causes s who false call) first.1 in
    (next_causes (pends s who) ThreadWaiting (call_causes s who false call) second.1).0

-- ---- serving

-- one wait is gone
gone : (m : Pending) (u t : ℕ) → is_some (get m u) ≡ true → one_if (is_some (get (remove m u) t)) + one_if (eqb u t) ≡ one_if (is_some (get m t))
gone m u t has = at (ℕ_discrete u t)
  where
    at : Dec (u ≡ t) → one_if (is_some (get (remove m u) t)) + one_if (eqb u t) ≡ one_if (is_some (get m t))
    at (yes is) =
        let a = ap (λ (o : Option Wait). one_if (is_some o)) (get_same m u) in
        let b = ap one_if (eq-eqb u u refl) in
        let c = ap one_if has in
        let h : one_if (is_some (get (remove m u) u)) + one_if (eqb u u) ≡ one_if (is_some (get m u)) = omega arith in
        subst (λ (x : ℕ). one_if (is_some (get (remove m u) x)) + one_if (eqb u x) ≡ one_if (is_some (get m x))) is h
    at (no ne) =
        let a = ap (λ (o : Option Wait). one_if (is_some o)) (get_other m u t (λ e. ne (sym e))) in
        let b = ap one_if (ne_eqb u t ne) in
        omega arith

grants_counts : (t : ℕ) (threads : List ℕ) (gs : List Grant) (old new : State) → Grants threads old gs new → one_if (pends new t) + granted_to t gs ≡ one_if (pends old t)
grants_counts t threads [] old new h = let a = ap (λ (s : State). one_if (pends s t)) h in omega arith
grants_counts t threads (g ∷ gs) old new h =
    let rest = grants_counts t threads gs (wait_granted old g.thread h.1) new h.3 in
    let one = gone old.waits g.thread t (ap (λ (o : Option Wait). is_some o) h.2.pends) in
    omega (arith, rest, one)

grants_keep : (threads : List ℕ) (gs : List Grant) (old new : State) → Grants threads old gs new → kept new ≡ kept old
grants_keep threads [] old new h = ap kept h
grants_keep threads (g ∷ gs) old new h = grants_keep threads gs (wait_granted old g.thread h.1) new h.3

-- ---- alerts and deadlines

still_pends : (s : State) (t x : ℕ) (may : Bool) → t < x → pends s x ≡ true → pends (wait_over s t may) x ≡ true
still_pends s t x may h p = ap (λ (o : Option Wait). is_some o) (get_other s.waits t x (λ e. absurd (omega arith))) ∙ p

over_counts : (t : ℕ) (f : ℕ → ℕ) (ts : List ℕ) (s : State) (may : Bool) → IsRising ts → ((x : ℕ) → Contains ts x → pends s x ≡ true)
    → one_if (pends (waits_over s ts may) t) + granted_to t (map (λ x. ending (f x) x) ts) ≡ one_if (pends s t)
over_counts t f [] s may rising pend = omega arith
over_counts t f (x ∷ xs) s may rising pend =
    let one = gone s.waits x t (pend x (contains_first x xs x refl)) in
    let rest = over_counts t f xs (wait_over s x may) may rising.1 (λ y member. still_pends s x y may (rising.0 y member) (pend y (contains_later x xs y member))) in
    omega (arith, one, rest)

over_keep : (ts : List ℕ) (s : State) (may : Bool) → kept (waits_over s ts may) ≡ kept s
over_keep [] s may = refl
over_keep (t ∷ ts) s may = over_keep ts (wait_over s t may) may

alert_counts : (t : ℕ) (old new : State) (grants : List Grant) → Alert old grants new → one_if (pends new t) + granted_to t grants ≡ one_if (pends old t)
alert_counts t old new grants h =
    let over = over_counts t (λ _. io_completion_code) h.threads old true h.alerted.rising (λ x member. ap (λ (o : Option Wait). is_some o) ((h.alerted.exactly x).0 member).1) in
    let left = ap (λ (s : State). one_if (pends s t)) h.leaves in
    let ended = ap (granted_to t) h.ends in
    omega (arith, over, left, ended)

time_out_counts : (t : ℕ) (old new : State) (u : ℕ) (grants : List Grant) → TimeOut old u grants new → one_if (pends new t) + granted_to t grants ≡ one_if (pends old t)
time_out_counts t old new u grants h =
    let over = over_counts t (λ x. late_status (sleeps (get old.waits x))) h.threads old false h.late.rising (λ x member. ap (λ (o : Option Wait). is_some o) ((h.late.exactly x).0 member).1) in
    let left = ap (λ (s : State). one_if (pends s t)) h.leaves in
    let ended = ap (granted_to t) h.ends in
    omega (arith, over, left, ended)

-- ---- the change of a call

-- the same threads, moment and pending waits
record IsIdle (old new : State) : Type 0 where
  same : kept new ≡ kept old
  waits : new.waits ≡ old.waits

idle_same : (s : State) → IsIdle s s
idle_same s = record { same = refl; waits = refl }

either_idle : (b : Bool) (s x y : State) → IsIdle s x → IsIdle s y → IsIdle s (cond b x y)
either_idle true s x y p q = p
either_idle false s x y p q = q

expired_idle : (v : ℕ) (s : State) (timer : ℕ) → IsIdle s (expired v s timer)
expired_idle v s timer = by (setting_of (object_at s.objects timer))
  where
    by : (armed : Option Armed) → IsIdle s (expired_as s v timer armed)
    by None = record { same = refl; waits = refl }
    by (Some armed) = record { same = refl; waits = refl }

all_expired_idle : (v : ℕ) (s : State) (timers : List ℕ) → IsIdle s (all_expired v s timers)
all_expired_idle v s [] = idle_same s
all_expired_idle v s (timer ∷ timers) =
    let one = expired_idle v s timer in
    let rest = all_expired_idle v (expired v s timer) timers in
    record { same = rest.same ∙ one.same; waits = rest.waits ∙ one.waits }

timer_set_idle : (s : State) (timer : ℕ) (armed : Armed) → IsIdle s (timer_set s timer armed)
timer_set_idle s timer armed =
    let now = expired_idle s.now (armed_anew s timer armed) timer in
    either_idle (nat_le armed.due s.now) s _ _ (record { same = now.same; waits = now.waits }) (record { same = refl; waits = refl })

change_idle : (s : State) (t : ℕ) (call : Call) → IsIdle s (change s t call)
change_idle s t (Call.Act Act.NextApc) = either_idle (may_take s t) s _ _ (record { same = refl; waits = refl }) (record { same = refl; waits = refl })
change_idle s t (Call.Act (Act.SetTimer h due period routine)) = timer_set_idle s h _
change_idle s t (Call.Act act) = record { same = refl; waits = refl }
change_idle s t (Call.Wait (WaitCall.Swap signal object mode)) = record { same = refl; waits = refl }
change_idle s t (Call.Wait wait) = record { same = refl; waits = refl }
change_idle s t Call.Exit = record { same = refl; waits = refl }

after_idle : (call : Call) (s : State) → IsIdle s (after_serving call s)
after_idle (Call.Act (Act.PulseEvent h)) s = record { same = refl; waits = refl }
after_idle _ s = idle_same s

idle_pends : (t : ℕ) (old new : State) → IsIdle old new → one_if (pends new t) ≡ one_if (pends old t)
idle_pends t old new idle = ap (λ (m : Pending). one_if (is_some (get m t))) idle.waits

-- ---- the caller's own wait

-- the answer and the state after it, from a state in which the caller's wait does not pend
record IsBegun (s : State) (who : ℕ) (p : Reply × State) : Type 0 where
  same : kept p.1 ≡ kept s
  counts : (t : ℕ) → one_if (pends p.1 t) ≡ one_if (pends s t) + cond (eqb who t) (one_if (pended (Ok p.0))) 0

stays : (s new : State) (who : ℕ) (reply : Reply) → pended (Ok reply) ≡ false → IsIdle s new → IsBegun s who (reply, new)
stays s new who reply none idle = record {
  same = idle.same;
  counts = λ t. (
      let a = idle_pends t s new idle in
      let b = ap (λ x. cond (eqb who t) (one_if x) 0) none in
      let c = none_begun (eqb who t) in
      omega arith);
}

begins : (s : State) (who : ℕ) (w : Wait) → get s.waits who ≡ None → IsBegun s who (Reply.Pended, pending_too s who w)
begins s who w free = record {
  same = refl;
  counts = λ t. at t (ℕ_discrete who t);
}
  where
    inserted : (x : ℕ) (b : Bool) → eq_by_cmp nat_cmp x who ≡ b → get (insert s.waits who w) x ≡ cond b (Some w) (get s.waits x)
    inserted x b e = get-insert nat_cmp_total s.waits who w x ∙ ap (λ c. cond c (Some w) (get s.waits x)) e

    at : (t : ℕ) → Dec (who ≡ t) → one_if (is_some (get (insert s.waits who w) t)) ≡ one_if (is_some (get s.waits t)) + cond (eqb who t) 1 0
    at t (yes is) =
        let a = ap (λ (o : Option Wait). one_if (is_some o)) (inserted who true (unsigned_tied who who ∙ eq-eqb who who refl)) in
        let b = ap (λ (o : Option Wait). one_if (is_some o)) free in
        let c : ◌≡◌ {A = ℕ} (cond {A = ℕ} (eqb who who) 1 0) 1 = ap (λ (x : Bool). cond {A = ℕ} x 1 0) (eq-eqb who who refl) in
        let h : one_if (is_some (get (insert s.waits who w) who)) ≡ one_if (is_some (get s.waits who)) + cond (eqb who who) 1 0 = omega arith in
        subst (λ (x : ℕ). one_if (is_some (get (insert s.waits who w) x)) ≡ one_if (is_some (get s.waits x)) + cond (eqb who x) 1 0) is h
    at t (no ne) =
        let a = ap (λ (o : Option Wait). one_if (is_some o)) (inserted t false (unsigned_tied t who ∙ ne_eqb t who (λ e. ne (sym e)))) in
        let c : ◌≡◌ {A = ℕ} (cond {A = ℕ} (eqb who t) 1 0) 0 = ap (λ (x : Bool). cond {A = ℕ} x 1 0) (ne_eqb who t ne) in
        omega arith

begun_counts : (s : State) (who : ℕ) (w : Wait) (ms : ℕ) → get s.waits who ≡ None → IsBegun s who (begun s who w ms)
begun_counts s who w ms free = first (fits s.objects who w)
  where
    third : (b : Bool) → IsBegun s who (cond b (Reply.Status (late_status (is_sleep w)), with_handing s who false) (Reply.Pended, pending_too s who w))
    third true = stays s (with_handing s who false) who _ refl (record { same = refl; waits = refl })
    third false = begins s who w free

    second : (b : Bool) → IsBegun s who (cond b (Reply.Status io_completion_code, with_handing s who true) (cond (ms == 0) (Reply.Status (late_status (is_sleep w)), with_handing s who false) (Reply.Pended, pending_too s who w)))
    second true = stays s (with_handing s who true) who _ refl (record { same = refl; waits = refl })
    second false = third (ms == 0)

    first : (b : Bool) → IsBegun s who (cond b (Reply.Status (status s.objects who w), taken_by s who w) (cond (w.alertable && has_apc s.apcs who) (Reply.Status io_completion_code, with_handing s who true) (cond (ms == 0) (Reply.Status (late_status (is_sleep w)), with_handing s who false) (Reply.Pended, pending_too s who w))))
    first true = stays s (taken_by s who w) who _ refl (record { same = refl; waits = refl })
    first false = second (w.alertable && has_apc s.apcs who)

-- no act pends
act_stays : (s : State) (t : ℕ) (act : Act) → pended (Ok (act_reply s t act)) ≡ false
act_stays s t (Act.CreateEvent flags) = refl
act_stays s t (Act.CreateSemaphore initial maximum) = refl
act_stays s t (Act.CreateMutex flags) = refl
act_stays s t (Act.CreateTimer flags) = refl
act_stays s t (Act.Duplicate object access) = refl
act_stays s t (Act.ReleaseSemaphore h n) = refl
act_stays s t Act.NextApc = refl
act_stays s t (Act.SetEvent h) = refl
act_stays s t (Act.ResetEvent h) = refl
act_stays s t (Act.PulseEvent h) = refl
act_stays s t (Act.ReleaseMutex h) = refl
act_stays s t (Act.SetTimer h due period routine) = refl
act_stays s t (Act.CancelTimer h) = refl
act_stays s t (Act.QueueApc h routine arg) = refl
act_stays s t (Act.Close h) = refl

answered_counts : (old s : State) (who : ℕ) (call : Call) → get s.waits who ≡ None → IsBegun s who (answered old s who call)
answered_counts old s who (Call.Act act) free = stays s s who (act_reply old who act) (act_stays old who act) (idle_same s)
answered_counts old s who (Call.Wait wait) free = begun_counts s who (asked_wait s.now wait) (timeout_of wait) free
answered_counts old s who Call.Exit free = stays s s who Reply.Done refl (idle_same s)

-- ---- a call

no_more : (a b : Bool) → one_if a ≤ one_if b → b ≡ false → a ≡ false
no_more true true le e = e
no_more true false le e = absurd (omega arith)
no_more false b le e = refl

none_where : (o : Option Wait) → is_some o ≡ false → o ≡ None
none_where None e = refl
none_where (Some w) e = absurd (false≢true (sym e))

free_then : (old : State) (who : ℕ) (call : Call) (reply : Reply) (grants : List Grant) (new : State) → refusal old who false call ≡ None → (step : Step old who call reply grants new) → (t : ℕ) → one_if (pends step.woken t) + granted_to t grants ≡ one_if (pends old t)
free_then old who call reply grants new none step t =
    let a = idle_pends t old (change old who call) (change_idle old who call) in
    let b = grants_counts t _ step.served (change old who call) step.calm step.serves.0 in
    let c = idle_pends t step.calm (after_serving call step.calm) (after_idle call step.calm) in
    let d = alert_counts t (after_serving call step.calm) step.woken step.alerted step.alerts in
    let e = ap (granted_to t) step.in_order ∙ granted_to-append t step.served step.alerted in
    omega (arith, a, b, c, d, e)

-- the caller's own wait does not pend when it begins
free_woken : (old : State) (who : ℕ) (call : Call) (reply : Reply) (grants : List Grant) (new : State) → refusal old who false call ≡ None → (step : Step old who call reply grants new) → get step.woken.waits who ≡ None
free_woken old who call reply grants new none step =
    none_where (get step.woken.waits who) (no_more (pends step.woken who) (pends old who) (omega (arith, free_then old who call reply grants new none step who)) (free_caller old who call none))

step_keeps : (old : State) (who : ℕ) (call : Call) (reply : Reply) (grants : List Grant) (new : State) → refusal old who false call ≡ None → Step old who call reply grants new → kept new ≡ kept old
step_keeps old who call reply grants new none step =
    ap (λ (p : Reply × State). kept p.1) step.answers
    ∙ ((answered_counts old step.woken who call (free_woken old who call reply grants new none step)).same
    ∙ (ap kept step.alerts.leaves
    ∙ (over_keep step.alerts.threads (after_serving call step.calm) true
    ∙ ((after_idle call step.calm).same
    ∙ (grants_keep _ step.served (change old who call) step.calm step.serves.0
    ∙ (change_idle old who call).same)))))

step_moved : (old : State) (who : ℕ) (call : Call) (reply : Reply) (grants : List Grant) (new : State) → refusal old who false call ≡ None → Step old who call reply grants new → Moves old who (pended (Ok reply)) grants new
step_moved old who call reply grants new none step =
    let woken = free_then old who call reply grants new none step in
    let free = free_woken old who call reply grants new none step in
    let last = answered_counts old step.woken who call free in
    record {
      threads = ap (λ (k : ℕ × ℕ). k.0) (step_keeps old who call reply grants new none step);
      free = λ _. free_caller old who call none;
      ended = λ t. omega (arith, woken t);
      each = λ t. (
          let a = ap (λ (p : Reply × State). one_if (pends p.1 t)) step.answers in
          let b = last.counts t in
          let c = ap (λ (p : Reply × State). cond (eqb who t) (one_if (pended (Ok p.0))) 0) step.answers in
          omega (arith, woken t, a, b, c));
    }

refused_moved : (old new : State) (who : ℕ) (grants : List Grant) → grants ≡ [] → new ≡ old → Moves old who false grants new
refused_moved old new who grants none same = record {
  threads = ap (λ (s : State). s.threads) same;
  free = λ began. absurd (false≢true began);
  ended = λ t. (let a = ap (granted_to t) none in omega arith);
  each = λ t. (let a = ap (granted_to t) none in let b = ap (λ (s : State). one_if (pends s t)) same in let c = none_begun (eqb who t) in omega arith);
}

-- the end of objects ends no wait
ends_moved : (old left new : State) (who : ℕ) (began : Bool) (grants : List Grant) → Ends left new → Moves old who began grants left → Moves old who began grants new
ends_moved old left new who began grants ends moved = record {
  threads = ap (λ (s : State). s.threads) ends.leaves ∙ (same_threads left ends.objects ∙ moved.threads);
  free = moved.free;
  ended = moved.ended;
  each = λ t. ap (λ (p : Pending). one_if (is_some (get p t)) + granted_to t grants) (ends_waits left new ends) ∙ moved.each t;
}

pub call_moves : (old : State) (who : ℕ) (call : Call) (result : Result Reply Refusal) (grants : List Grant) (new : State) → Called old who call result grants new → Moves old who (pended result) grants new
call_moves old who call (Ok reply) grants new h =
    let named : Call = call_named old.handles call in
    ends_moved old h.0 new who (pended (Ok reply)) grants h.2 (step_moved old who named reply grants h.0 (undenied old who (is_denied old call) named h.1.0) h.1.1)
call_moves old who call (Err r) grants new h = refused_moved old new who grants h.1 h.2

is_wait_named : (handles : List (Option Opened)) (call : Call) → is_wait (call_named handles call) ≡ true → is_wait call ≡ true
is_wait_named handles (Call.Act act) is = is
is_wait_named handles (Call.Wait wait) is = refl
is_wait_named handles Call.Exit is = is

-- only a wait pends
made_pends : (old : State) (who : ℕ) (denied : Bool) (call : Call) (result : Result Reply Refusal) (grants : List Grant) (new : State) → Made old who denied call result grants new → pended result ≡ true → is_wait call ≡ true
made_pends old who denied (Call.Act act) (Ok reply) grants new h pends =
    let answer : pended (Ok reply) ≡ false = ap (λ (p : Reply × State). pended (Ok p.0)) h.1.answers ∙ act_stays old who act in
    absurd (false≢true (sym answer ∙ pends))
made_pends old who denied (Call.Wait wait) (Ok reply) grants new h pends = refl
made_pends old who denied Call.Exit (Ok reply) grants new h pends =
    let answer : pended (Ok reply) ≡ false = ap (λ (p : Reply × State). pended (Ok p.0)) h.1.answers in
    absurd (false≢true (sym answer ∙ pends))
made_pends old who denied call (Err cause) grants new h pends = absurd (false≢true pends)

pub only_waits_pend : (old : State) (who : ℕ) (call : Call) (result : Result Reply Refusal) (grants : List Grant) (new : State) → Called old who call result grants new → pended result ≡ true → is_wait call ≡ true
only_waits_pend old who call (Ok reply) grants new h pends = is_wait_named old.handles call (made_pends old who (is_denied old call) (call_named old.handles call) (Ok reply) grants h.0 h.1 pends)
only_waits_pend old who call (Err cause) grants new h pends = absurd (false≢true pends)

-- ---- a tick

record IsOver (old : State) (grants : List Grant) (new : State) : Type 0 where
  threads : new.threads ≡ old.threads
  counts : (t : ℕ) → one_if (pends new t) + granted_to t grants ≡ one_if (pends old t)

moment_over : (old new : State) (m u : ℕ) (grants : List Grant) → MomentPasses old m u grants new → IsOver old grants new
moment_over old new m u grants h =
    let idle = all_expired_idle m old h.timers in
    record {
      threads = ap (λ (k : ℕ × ℕ). k.0) (ap kept h.times_out.leaves
          ∙ (over_keep h.times_out.threads h.woken false
          ∙ (ap kept h.alerts.leaves
          ∙ (over_keep h.alerts.threads h.calm true
          ∙ (grants_keep _ h.served (all_expired m old h.timers) h.calm h.serves.0 ∙ idle.same)))));
      counts = λ t. (
          let a = idle_pends t old (all_expired m old h.timers) idle in
          let b = grants_counts t _ h.served (all_expired m old h.timers) h.calm h.serves.0 in
          let c = alert_counts t h.calm h.woken h.alerted h.alerts in
          let d = time_out_counts t h.woken new u h.timed h.times_out in
          let e = ap (granted_to t) h.in_order ∙ granted_to-append t (h.served ++ h.alerted) h.timed in
          let f = granted_to-append t h.served h.alerted in
          omega (arith, a, b, c, d, e, f));
    }

moments_over : (m : ℕ) (us : List ℕ) (old new : State) (grants : List Grant) → MomentsPass old m us grants new → IsOver old grants new
moments_over m [] old new grants h = record {
  threads = ap (λ (s : State). s.threads) h.2;
  counts = λ t. (let a = ap (granted_to t) h.1 in let b = ap (λ (s : State). one_if (pends s t)) h.2 in omega arith);
}
moments_over m (u ∷ us) old new grants (here, later, mid, next, passes, rest, e) =
    let first = moment_over old mid m u here passes in
    let more = moments_over m us mid new later rest in
    record {
      threads = more.threads ∙ first.threads;
      counts = λ t. (let a = first.counts t in let b = more.counts t in let c = ap (granted_to t) e ∙ granted_to-append t here later in omega (arith, a, b, c));
    }

pub tick_moves : (old : State) (by m : ℕ) (result : Result Reply Refusal) (grants : List Grant) (new : State) → Ticked old m result grants new → Moves old by false grants new
tick_moves old by m (Ok reply) grants new h =
    let over = moments_over m h.2.0 old h.2.1 grants h.2.2 in
    ends_moved old h.2.1 new by false grants h.2.3 (record {
      threads = over.threads;
      free = λ began. absurd (false≢true began);
      ended = λ t. omega (arith, over.counts t);
      each = λ t. (
          let a = over.counts t in
          let b = none_begun (eqb by t) in
          omega (arith, a, b));
    })
tick_moves old by m (Err r) grants new h = refused_moved old new by grants h.2 h.3

-- ---- the present moment

ends_now : (left new : State) → Ends left new → new.now ≡ left.now
ends_now left new ends = ap (λ (s : State). s.now) ends.leaves ∙ same_now left ends.objects

-- a call moves no moment
pub call_waits : (old : State) (who : ℕ) (call : Call) (result : Result Reply Refusal) (grants : List Grant) (new : State) → Called old who call result grants new → new.now ≡ old.now
call_waits old who call (Ok reply) grants new h =
    let named : Call = call_named old.handles call in
    ends_now h.0 new h.2 ∙ ap (λ (k : ℕ × ℕ). k.1) (step_keeps old who named reply grants h.0 (undenied old who (is_denied old call) named h.1.0) h.1.1)
call_waits old who call (Err r) grants new h = ap (λ (s : State). s.now) h.2

-- an accepted tick comes to its moment
moments_come : (m : ℕ) (us : List ℕ) (old new : State) (grants : List Grant) → MomentsPass old m us grants new → new.now ≡ m
moments_come m [] old new grants h = ap (λ (s : State). s.now) h.2
moments_come m (u ∷ us) old new grants (here, later, mid, next, passes, rest, e) = moments_come m us mid new later rest

pub tick_moment : (old : State) (m : ℕ) (result : Result Reply Refusal) (grants : List Grant) (new : State) → Ticked old m result grants new → IsMomentAfter old.now m result new.now
tick_moment old m (Ok reply) grants new h = (h.0, ends_now h.2.1 new h.2.3 ∙ moments_come m h.2.0 old h.2.1 grants h.2.2)
tick_moment old m (Err r) grants new h = ap (λ (s : State). s.now) h.3

-- no tick pends
pub tick_stays : (old : State) (m : ℕ) (result : Result Reply Refusal) (grants : List Grant) (new : State) → Ticked old m result grants new → pended result ≡ false
tick_stays old m (Ok reply) grants new h = ap (λ (r : Reply). pended (Ok r)) h.1
tick_stays old m (Err cause) grants new h = refl
