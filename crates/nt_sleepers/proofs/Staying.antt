-- A wait that pends after a call or tick pended before, or is the caller's that began.
use Rattle.std.proofs.Common.{◌≡◌, ℕ, Bool, true, false, cond, ◌&&◌, ◌==◌, ne_eqb, List, [], ◌∷◌, refl, sym, ap, ◌∙◌, subst, inl, inr, Option, Some, None, Result, Ok, Err}
use Rattle.std.specs.Prelude.{◌⊎◌, nat_le}
use Rattle.std.specs.FinMap.{get, insert, get-insert}
use Rattle.std.specs.Cmp.{nat_cmp_total, unsigned_tied}
use Rattle.std.proofs.lemmas.Bool.{cases_eq}
use Rattle.nt_status.specs.declared.refusal.Refusal.{Refusal}
use Rattle.nt_status.specs.Status.{io_completion_code}
use Rattle.nt_objects.specs.declared.object.Armed.{Armed}
use Rattle.nt_objects.specs.Object.{setting_of}
use Rattle.nt_waits.specs.declared.wait.Wait.{Wait}
use Rattle.nt_apc.specs.Queues.{has_apc}
use Rattle.nt_calls.specs.declared.call.Act.{Act}
use Rattle.nt_calls.specs.declared.call.Call.{Call}
use Rattle.nt_calls.specs.declared.call.WaitCall.{WaitCall}
use Rattle.nt_calls.specs.declared.call.Grant.{Grant}
use Rattle.nt_calls.specs.declared.call.Reply.{Reply}
use Rattle.nt_calls.specs.Calls.{timeout_of}
use Rattle.nt_calls.specs.Naming.{call_named}
use Rattle.nt_calls.specs.State.{State, Pending, pending_too, with_handing, object_at}
use Rattle.nt_calls.specs.Serving.{fits, status, wait_granted, Grants, Alert, TimeOut, taken_by, is_sleep, late_status, sequence}
use Rattle.nt_calls.specs.Change.{change, may_take, armed_anew, timer_set, expired, expired_as, all_expired}
use Rattle.nt_calls.specs.Steps.{Called, Step, Ticked, MomentPasses, MomentsPass, after_serving, answered, begun, asked_wait}
use Rattle.nt_calls.specs.Moves.{pended}
use Rattle.nt_machine.proofs.Remaining.{ends_waits}
use Rattle.nt_machine.proofs.Walks.{get_removed}
use Rattle.nt_machine.proofs.Alerting.{over_pending}

-- whatever pends by the one map pends so by the other
abbrev IsWithin : Pending → Pending → Type 0
IsWithin few many = (t : ℕ) (w : Wait) → get few t ≡ Some w → get many t ≡ Some w

-- a wait that pends now pended before, or is this thread's that began
abbrev pub StayedOrBegan : State → ℕ → Bool → State → Type 0
StayedOrBegan old who began new = (t : ℕ) (w : Wait) → get new.waits t ≡ Some w → ((t ≡ who) × (began ≡ true)) ⊎ (get old.waits t ≡ Some w)

-- ---- what ends waits

grants_within : (threads : List ℕ) (s new : State) (gs : List Grant) (waits : Pending) → Grants threads s gs new → IsWithin s.waits waits → IsWithin new.waits waits
grants_within threads s new [] waits is within = subst (λ (x : State). IsWithin x.waits waits) (sym is) within
grants_within threads s new (g ∷ gs) waits has within =
    grants_within threads (wait_granted s g.thread has.1) new gs waits has.3 (λ t v e. within t v (get_removed s.waits g.thread t v e).1)

alert_within : (old new : State) (grants : List Grant) (waits : Pending) → Alert old grants new → IsWithin old.waits waits → IsWithin new.waits waits
alert_within old new grants waits alert within = subst (λ (s : State). IsWithin s.waits waits) (sym alert.leaves) (λ t w e. within t w (over_pending old alert.threads true t w e).0)

time_out_within : (old new : State) (u : ℕ) (grants : List Grant) (waits : Pending) → TimeOut old u grants new → IsWithin old.waits waits → IsWithin new.waits waits
time_out_within old new u grants waits out within = subst (λ (s : State). IsWithin s.waits waits) (sym out.leaves) (λ t w e. within t w (over_pending old out.threads false t w e).0)

-- ---- what changes no waits

either_waits : (b : Bool) (s x y : State) → x.waits ≡ s.waits → y.waits ≡ s.waits → (cond b x y).waits ≡ s.waits
either_waits true s x y p q = p
either_waits false s x y p q = q

expired_waits : (v : ℕ) (s : State) (timer : ℕ) → (expired v s timer).waits ≡ s.waits
expired_waits v s timer = by (setting_of (object_at s.objects timer))
  where
    by : (armed : Option Armed) → (expired_as s v timer armed).waits ≡ s.waits
    by None = refl
    by (Some armed) = refl

all_expired_waits : (v : ℕ) (s : State) (timers : List ℕ) → (all_expired v s timers).waits ≡ s.waits
all_expired_waits v s [] = refl
all_expired_waits v s (timer ∷ timers) = all_expired_waits v (expired v s timer) timers ∙ expired_waits v s timer

timer_set_waits : (s : State) (timer : ℕ) (armed : Armed) → (timer_set s timer armed).waits ≡ s.waits
timer_set_waits s timer armed = either_waits (nat_le armed.due s.now) s _ _ (expired_waits s.now (armed_anew s timer armed) timer) refl

change_waits : (s : State) (t : ℕ) (call : Call) → (change s t call).waits ≡ s.waits
change_waits s t (Call.Act Act.NextApc) = either_waits (may_take s t) s _ _ refl refl
change_waits s t (Call.Act (Act.SetTimer h due period routine)) = timer_set_waits s h _
change_waits s t (Call.Act act) = refl
change_waits s t (Call.Wait (WaitCall.Swap signal object mode)) = refl
change_waits s t (Call.Wait wait) = refl
change_waits s t Call.Exit = refl

after_waits : (call : Call) (s : State) → (after_serving call s).waits ≡ s.waits
after_waits (Call.Act (Act.PulseEvent h)) s = refl
after_waits _ s = refl

-- ---- the caller's own wait

pub same_stayed : (s new : State) (who : ℕ) (began : Bool) → new.waits ≡ s.waits → StayedOrBegan s who began new
same_stayed s new who began same t w e = inr (subst (λ (m : Pending). get m t ≡ Some w) same e)

inserted : (m : Pending) (who : ℕ) (w : Wait) (t : ℕ) (v : Wait) → get (insert m who w) t ≡ Some v → (t ≡ who) ⊎ (get m t ≡ Some v)
inserted m who w t v e = elim (cases_eq t who) [
  | inl same ↦ inl same
  | inr apart ↦ inr (sym (get-insert nat_cmp_total m who w t ∙ ap (λ (b : Bool). cond b (Some w) (get m t)) (unsigned_tied t who ∙ ne_eqb t who apart)) ∙ e)
]

begun_stayed : (s : State) (who : ℕ) (w : Wait) (ms : ℕ) → StayedOrBegan s who (pended (Ok (begun s who w ms).0)) (begun s who w ms).1
begun_stayed s who w ms = first (fits s.objects who w)
  where
    Own : Reply × State → Type 0
    Own p = StayedOrBegan s who (pended (Ok p.0)) p.1

    third : (b : Bool) → Own (cond b (Reply.Status (late_status (is_sleep w)), with_handing s who false) (Reply.Pended, pending_too s who w))
    third true = same_stayed s (with_handing s who false) who _ refl
    third false = λ t v e. elim (inserted s.waits who w t v e) [
      | inl same ↦ inl (same, refl)
      | inr was ↦ inr was
    ]

    second : (b : Bool) → Own (cond b (Reply.Status io_completion_code, with_handing s who true) (cond (ms == 0) (Reply.Status (late_status (is_sleep w)), with_handing s who false) (Reply.Pended, pending_too s who w)))
    second true = same_stayed s (with_handing s who true) who _ refl
    second false = third (ms == 0)

    first : (b : Bool) → Own (cond b (Reply.Status (status s.objects who w), taken_by s who w) (cond (w.alertable && has_apc s.apcs who) (Reply.Status io_completion_code, with_handing s who true) (cond (ms == 0) (Reply.Status (late_status (is_sleep w)), with_handing s who false) (Reply.Pended, pending_too s who w))))
    first true = same_stayed s (taken_by s who w) who _ refl
    first false = second (w.alertable && has_apc s.apcs who)

answered_stayed : (old s : State) (who : ℕ) (call : Call) → StayedOrBegan s who (pended (Ok (answered old s who call).0)) (answered old s who call).1
answered_stayed old s who (Call.Act act) = same_stayed s s who _ refl
answered_stayed old s who (Call.Wait wait) = begun_stayed s who (asked_wait s.now wait) (timeout_of wait)
answered_stayed old s who Call.Exit = same_stayed s s who _ refl

-- ---- a call

step_stayed : (old : State) (who : ℕ) (call : Call) (reply : Reply) (grants : List Grant) (new : State) → Step old who call reply grants new → StayedOrBegan old who (pended (Ok reply)) new
step_stayed old who call reply grants new step t w e =
    let within : IsWithin (change old who call).waits old.waits = λ t w e. subst (λ (m : Pending). get m t ≡ Some w) (change_waits old who call) e in
    let calm = grants_within (sequence old step.numbers) (change old who call) step.calm step.served old.waits step.serves.0 within in
    let after : IsWithin (after_serving call step.calm).waits old.waits = λ t w e. calm t w (subst (λ (m : Pending). get m t ≡ Some w) (after_waits call step.calm) e) in
    let woken = alert_within (after_serving call step.calm) step.woken step.alerted old.waits step.alerts after in
    let own = subst (λ (p : Reply × State). StayedOrBegan step.woken who (pended (Ok p.0)) p.1) (sym step.answers) (answered_stayed old step.woken who call) in
    elim (own t w e) [
      | inl began ↦ inl began
      | inr was ↦ inr (woken t w was)
    ]

pub call_stayed : (old : State) (who : ℕ) (call : Call) (result : Result Reply Refusal) (grants : List Grant) (new : State) → Called old who call result grants new → StayedOrBegan old who (pended result) new
call_stayed old who call (Ok reply) grants new is =
    λ t w e. step_stayed old who (call_named old.handles call) reply grants is.0 is.1.1 t w (subst (λ (m : Pending). get m t ≡ Some w) (ends_waits is.0 new is.2) e)
call_stayed old who call (Err r) grants new is = same_stayed old new who _ (ap (λ (s : State). s.waits) is.2)

-- ---- a tick

moment_within : (old : State) (m u : ℕ) (grants : List Grant) (new : State) (waits : Pending) → MomentPasses old m u grants new → IsWithin old.waits waits → IsWithin new.waits waits
moment_within old m u grants new waits passes within =
    let due : IsWithin (all_expired m old passes.timers).waits waits = λ t w e. within t w (subst (λ (x : Pending). get x t ≡ Some w) (all_expired_waits m old passes.timers) e) in
    let calm = grants_within (sequence old passes.timers) (all_expired m old passes.timers) passes.calm passes.served waits passes.serves.0 due in
    time_out_within passes.woken new u passes.timed waits passes.times_out (alert_within passes.calm passes.woken passes.alerted waits passes.alerts calm)

moments_within : (us : List ℕ) (old : State) (m : ℕ) (grants : List Grant) (new : State) (waits : Pending) → MomentsPass old m us grants new → IsWithin old.waits waits → IsWithin new.waits waits
moments_within [] old m grants new waits pass within = subst (λ (s : State). IsWithin s.waits waits) (sym pass.2) within
moments_within (u ∷ us) old m grants new waits pass within = moments_within us pass.2 m pass.1 new waits pass.5 (moment_within old m u pass.0 pass.2 waits pass.4 within)

pub tick_stayed : (old : State) (m : ℕ) (result : Result Reply Refusal) (grants : List Grant) (new : State) → Ticked old m result grants new → StayedOrBegan old 0 false new
tick_stayed old m (Ok reply) grants new is =
    λ t w e. inr (moments_within is.2.0 old m grants is.2.1 old.waits is.2.2 (λ t w e. e) t w (subst (λ (x : Pending). get x t ≡ Some w) (ends_waits is.2.1 new is.2.3) e))
tick_stayed old m (Err r) grants new is = same_stayed old new 0 false (ap (λ (s : State). s.waits) is.3)
