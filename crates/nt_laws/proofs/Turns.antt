-- What a turn does to one object: a change, then takings.
use Rattle.std.proofs.Common.{◌≡◌, ◌≤◌, ℕ, zero, suc, Bool, true, false, cond, ◌&&◌, ◌||◌, ◌==◌, List, [], ◌∷◌, ◌++◌, length, set, refl, sym, ap, ◌∙◌, subst, arith, Some, None, inl, inr, ◌⊎◌}
use Rattle.std.specs.Prelude.{nat_lt, slice_set}
use Rattle.std.specs.List.{list_any}
use Rattle.std.specs.FinMap.{get}
use Rattle.std.specs.declared.result.Result.{Result}
use Rattle.std.specs.declared.result.Result.TheVariants.{Ok, Err}
use Rattle.std.proofs.lemmas.Bool.{false≢true}
use Rattle.std.proofs.lemmas.Bool.Decides.{nat_tests}
use Rattle.std.proofs.lemmas.List.{append-nil}
use Rattle.nt_status.specs.Status.{io_completion_code}
use Rattle.nt_status.specs.declared.refusal.Refusal.{Refusal}
use Rattle.nt_status.specs.declared.refusal.Refusal.TheVariants.{InvalidHandle, InvalidParameter, RecursionLimit}
use Rattle.nt_waits.specs.declared.wait.Wait.{Wait}
use Rattle.nt_objects.specs.declared.object.Object.{Object}
use Rattle.nt_objects.specs.declared.object.Object.TheVariants.{Event, Semaphore, Mutex, Timer, Thread, Gone}
use Rattle.nt_objects.specs.Object.{is_gone, taken}
use Rattle.nt_apc.specs.Queues.{has_apc}
use Rattle.nt_status.specs.declared.limits.TheConstants.{MAX_WAIT_OBJECTS}
use Rattle.nt_calls.specs.declared.call.Call.{Call}
use Rattle.nt_calls.specs.declared.call.WaitCall.{WaitCall}
use Rattle.nt_calls.specs.declared.call.Reply.{Reply}
use Rattle.nt_calls.specs.declared.call.Grant.{Grant}
use Rattle.nt_calls.specs.Calls.{timeout_of}
use Rattle.nt_calls.specs.Naming.{call_named}
use Rattle.nt_calls.specs.State.{State, Pending, opening, object_at, with_handing, pending_too, waits_over}
use Rattle.nt_calls.specs.Serving.{fits, status, is_sleep, late_status, taken_by, sequence, Alert, TimeOut}
use Rattle.nt_calls.specs.Change.{change, expired, all_expired}
use Rattle.nt_calls.specs.Rights.{is_denied}
use Rattle.nt_machine.proofs.Judging.{undenied}
use Rattle.nt_calls.specs.Refusals.{Cause, refusal, has_twice, is_unknown, is_at_limit}
use Rattle.nt_calls.specs.Living.{all_gone, gone, Ends}
use Rattle.nt_calls.specs.Steps.{Step, Called, asked_wait, begun, answered, after_serving, MomentPasses, MomentsPass, Ticked}
use Rattle.nt_calls.specs.Runs.{Turn, Calls, Ticks, IsTurn, Turns}
use Rattle.nt_laws.specs.Takes.{takes_of, grants_took, reply_took, call_took, turn_took, takers}
use Rattle.nt_machine.proofs.Remaining.{ends_waits}
use Rattle.nt_machine.proofs.Accepting.{next_causes, own_causes, distinct_handles, nothing_pends}
use Rattle.nt_machine.proofs.Alerting.{over_pending}
use Rattle.nt_machine.proofs.Beginning.{get_inserted}
use Rattle.nt_machine.proofs.Exiting.{left}
use Rattle.nt_laws.proofs.Takes.{TakenBy, TakenBy-append, takers-append, IsFair, AreFair, wait_taken, IsWithin, grants_within, grants_taken, grants_took-append, alerted_told, timed_told, late_told}
use Rattle.nt_laws.proofs.Acting.{is_plain, expired_object, expired_waits, changed_at, change_object, change_waits, settled_at, settled_object, settled_waits}

-- ---- a wait that begins

over_same : (s : State) (ts : List ℕ) (may : Bool) → (waits_over s ts may).objects ≡ s.objects
over_same s [] may = refl
over_same s (t ∷ ts) may = over_same (Rattle.nt_calls.specs.State.wait_over s t may) ts may

begun_taken : (s : State) (t : ℕ) (w : Wait) (ms h : ℕ) (reply : Reply) (new : State) → IsFair w → (reply, new) ≡ begun s t w ms → TakenBy (object_at s.objects h) (takers h (reply_took t w reply)) (object_at new.objects h)
begun_taken s t w ms h reply new fair is = go (fits s.objects t w) (w.alertable && has_apc s.apcs t) (ms == 0) refl is
  where
    told : (r : Reply) (s' : State) → TakenBy (object_at s.objects h) (takers h (reply_took t w r)) (object_at s'.objects h) → reply ≡ r → new ≡ s' → TakenBy (object_at s.objects h) (takers h (reply_took t w reply)) (object_at new.objects h)
    told r s' has e f =
        subst (λ q. TakenBy (object_at s.objects h) (takers h (reply_took t w q)) (object_at new.objects h)) (sym e)
        (subst (λ (x : State). TakenBy (object_at s.objects h) (takers h (reply_took t w r)) (object_at x.objects h)) (sym f) has)

    go : (fit alert over : Bool) → fits s.objects t w ≡ fit → ◌≡◌ {A = Reply × State} (reply, new) (cond fit (Reply.Status (status s.objects t w), taken_by s t w) (cond alert (Reply.Status io_completion_code, with_handing s t true) (cond over (Reply.Status (late_status (is_sleep w)), with_handing s t false) (Reply.Pended, pending_too s t w)))) → TakenBy (object_at s.objects h) (takers h (reply_took t w reply)) (object_at new.objects h)
    go true alert over fit e = told (Reply.Status (status s.objects t w)) (taken_by s t w) (wait_taken s.objects t w h fair fit) (ap (λ p. p.0) e) (ap (λ p. p.1) e)
    go false true over fit e = told (Reply.Status io_completion_code) (with_handing s t true) refl (ap (λ p. p.0) e) (ap (λ p. p.1) e)
    go false false true fit e = told (Reply.Status (late_status (is_sleep w))) (with_handing s t false) (subst (λ ks. TakenBy (object_at s.objects h) (takers h (takes_of t ks)) (object_at s.objects h)) (sym (late_told w)) refl) (ap (λ p. p.0) e) (ap (λ p. p.1) e)
    go false false false fit e = told Reply.Pended (pending_too s t w) refl (ap (λ p. p.0) e) (ap (λ p. p.1) e)

begun_fair : (s : State) (t : ℕ) (w : Wait) (ms : ℕ) (reply : Reply) (new : State) → IsFair w → AreFair s.waits → (reply, new) ≡ begun s t w ms → AreFair new.waits
begun_fair s t w ms reply new fair all is = go (fits s.objects t w) (w.alertable && has_apc s.apcs t) (ms == 0) is
  where
    found : (u : ℕ) (v : Wait) → ((u ≡ t) × (w ≡ v)) ⊎ (get s.waits u ≡ Some v) → IsFair v
    found u v (inl own) = subst IsFair own.1 fair
    found u v (inr old) = all u v old

    go : (fit alert over : Bool) → ◌≡◌ {A = Reply × State} (reply, new) (cond fit (Reply.Status (status s.objects t w), taken_by s t w) (cond alert (Reply.Status io_completion_code, with_handing s t true) (cond over (Reply.Status (late_status (is_sleep w)), with_handing s t false) (Reply.Pended, pending_too s t w)))) → AreFair new.waits
    go true alert over e = subst (λ (x : State). AreFair x.waits) (sym (ap (λ p. p.1) e)) all
    go false true over e = subst (λ (x : State). AreFair x.waits) (sym (ap (λ p. p.1) e)) all
    go false false true e = subst (λ (x : State). AreFair x.waits) (sym (ap (λ p. p.1) e)) all
    go false false false e = subst (λ (x : State). AreFair x.waits) (sym (ap (λ p. p.1) e)) (λ u v got. found u v (get_inserted s.waits t u w v got))

-- a wait that no cause refuses is fair
fair_call : (s : State) (t : ℕ) (wait : WaitCall) (now : ℕ) → refusal s t false (Call.Wait wait) ≡ None → IsFair (asked_wait now wait)
fair_call s t (WaitCall.Objects all mode handles) now none =
    let own = own_causes s t (Call.Wait (WaitCall.Objects all mode handles)) none in
    let last : List Cause = (list_any (is_at_limit s.objects t) handles, RecursionLimit) ∷ [] in
    let apart : List Cause = (has_twice handles, InvalidParameter) ∷ last in
    let first = next_causes (length handles == 0 || nat_lt MAX_WAIT_OBJECTS (length handles)) InvalidParameter ((list_any (is_unknown s.objects) handles, InvalidHandle) ∷ apart) own in
    let known = next_causes (list_any (is_unknown s.objects) handles) InvalidHandle apart first.1 in
    let twice = next_causes (has_twice handles) InvalidParameter last known.1 in
    (few (length handles == 0) first.0, distinct_handles handles twice.0)
  where
    few : (none : Bool) → (none || nat_lt MAX_WAIT_OBJECTS (length handles)) ≡ false → length handles ≤ MAX_WAIT_OBJECTS
    few true e = absurd (false≢true (sym e))
    few false e = grind (arith, nat_tests, e)
fair_call s t (WaitCall.Sleep mode) now none = (omega arith, distinct_handles [] refl)
fair_call s t (WaitCall.Swap g object mode) now none = (omega arith, distinct_handles (object ∷ []) refl)

same_handles : (t now then : ℕ) (wait : WaitCall) (reply : Reply) → reply_took t (asked_wait now wait) reply ≡ reply_took t (asked_wait then wait) reply
same_handles t now then (WaitCall.Objects all mode handles) (Reply.Status code) = refl
same_handles t now then (WaitCall.Sleep mode) (Reply.Status code) = refl
same_handles t now then (WaitCall.Swap g object mode) (Reply.Status code) = refl
same_handles t now then wait Reply.Done = refl
same_handles t now then wait (Reply.Handle handle) = refl
same_handles t now then wait (Reply.Previous count) = refl
same_handles t now then wait Reply.Pended = refl
same_handles t now then wait (Reply.Apc apc) = refl

-- ---- the end of objects

gone_one : (objects : List Object) (o h : ℕ) → is_gone (object_at (slice_set objects o Gone) h) ≡ false → object_at (slice_set objects o Gone) h ≡ object_at objects h
gone_one [] o h lives = refl
gone_one (x ∷ objects) zero zero lives = absurd (false≢true (sym lives))
gone_one (x ∷ objects) zero (suc h) lives = refl
gone_one (x ∷ objects) (suc o) zero lives = refl
gone_one (x ∷ objects) (suc o) (suc h) lives = gone_one objects o h lives

gone_all : (s : State) (os : List ℕ) (h : ℕ) → is_gone (object_at (all_gone s os).objects h) ≡ false → object_at (all_gone s os).objects h ≡ object_at s.objects h
gone_all s [] h lives = refl
gone_all s (o ∷ os) h lives =
    let rest = gone_all (gone s o) os h lives in
    rest ∙ gone_one s.objects o h (sym (ap is_gone rest) ∙ lives)

-- an object that is not gone is as it was before the end of others
ends_object : (left new : State) → Ends left new → (h : ℕ) → is_gone (object_at new.objects h) ≡ false → object_at new.objects h ≡ object_at left.objects h
ends_object left new ends h lives =
    let there = ap (λ (s : State). object_at s.objects h) ends.leaves in
    there ∙ gone_all left ends.objects h (sym (ap is_gone there) ∙ lives)

-- ---- an accepted call

-- the object at h in a call: changed, taken by pending waits, settled, and taken by the caller's own wait
pub record InCall (h : ℕ) (old : State) (who : ℕ) (call : Call) (reply : Reply) (grants : List Grant) (new : Object) : Type 0 where
  pub calm : Object
  pub first : List ℕ
  pub last : List ℕ
  pub becomes : is_plain (object_at (change old who call).objects h) ≡ true → object_at (change old who call).objects h ≡ changed_at (length old.objects) who call h (object_at old.objects h)
  pub serves : TakenBy (object_at (change old who call).objects h) first calm
  pub begins : TakenBy (settled_at call h calm) last new
  pub told : takers h (grants_took old.waits grants ++ call_took old.now who call reply) ≡ first ++ last

ends_at : (h : ℕ) (old woken new : State) (who : ℕ) (call : Call) (reply : Reply) → refusal old who false call ≡ None → (reply, new) ≡ answered old woken who call → TakenBy (object_at woken.objects h) (takers h (call_took old.now who call reply)) (object_at new.objects h)
ends_at h old woken new who (Call.Wait wait) reply none is =
    subst (λ ks. TakenBy (object_at woken.objects h) (takers h ks) (object_at new.objects h)) (same_handles who woken.now old.now wait reply)
    (begun_taken woken who (asked_wait woken.now wait) (timeout_of wait) h reply new (fair_call old who wait woken.now none) is)
ends_at h old woken new who _ reply none is = ap (λ p. object_at p.1.objects h) is

in_step : (h : ℕ) (old : State) (who : ℕ) (call : Call) (reply : Reply) (grants : List Grant) (new : State) → AreFair old.waits → refusal old who false call ≡ None → Step old who call reply grants new → InCall h old who call reply grants (object_at new.objects h)
in_step h old who call reply grants new fair none step =
    let within : IsWithin (change old who call).waits old.waits = λ t w e. subst (λ m. get m t ≡ Some w) (change_waits old who call) e in
    let served = grants_taken (sequence old step.numbers) (change old who call) step.calm step.served old.waits h step.serves.0 within fair in
    let woken : object_at step.woken.objects h ≡ settled_at call h (object_at step.calm.objects h) =
    ap (λ (s : State). object_at s.objects h) step.alerts.leaves ∙ (ap (λ os. object_at os h) (over_same (after_serving call step.calm) step.alerts.threads true) ∙ settled_object call step.calm h) in
    let alerted : grants_took old.waits step.alerted ≡ [] = ap (λ gs. grants_took old.waits gs) step.alerts.ends ∙ alerted_told old.waits step.alerts.threads in
    let all : grants_took old.waits grants ≡ grants_took old.waits step.served =
    ap (λ gs. grants_took old.waits gs) step.in_order ∙ (grants_took-append old.waits step.served step.alerted ∙ (ap (λ ks. grants_took old.waits step.served ++ ks) alerted ∙ append-nil (grants_took old.waits step.served))) in
    record {
      calm = object_at step.calm.objects h;
      first = takers h (grants_took old.waits step.served);
      last = takers h (call_took old.now who call reply);
      becomes = change_object old who call h none;
      serves = served;
      begins = subst (λ o. TakenBy o (takers h (call_took old.now who call reply)) (object_at new.objects h)) woken (ends_at h old step.woken new who call reply none step.answers);
      told = ap (λ ks. takers h (ks ++ call_took old.now who call reply)) all ∙ takers-append h (grants_took old.waits step.served) (call_took old.now who call reply);
    }

plain_lives : (o : Object) → is_plain o ≡ true → is_gone o ≡ false
plain_lives (Event manual set) plain = refl
plain_lives (Semaphore count maximum) plain = refl
plain_lives (Mutex owner depth abandoned) plain = refl
plain_lives (Timer manual set armed) plain = refl
plain_lives (Thread ended) plain = refl
plain_lives Gone plain = absurd (false≢true plain)

-- where it is not gone at the end, the end of objects does nothing to it
pub in_call : (h : ℕ) (old : State) (who : ℕ) (call : Call) (reply : Reply) (grants : List Grant) (new : State) → AreFair old.waits → Called old who call (Ok reply) grants new → is_plain (object_at new.objects h) ≡ true → InCall h old who (call_named old.handles call) reply grants (object_at new.objects h)
in_call h old who call reply grants new fair is plain =
    let none = undenied old who (is_denied old call) (call_named old.handles call) is.1.0 in
    subst (InCall h old who (call_named old.handles call) reply grants) (sym (ends_object is.0 new is.2 h (plain_lives (object_at new.objects h) plain)))
    (in_step h old who (call_named old.handles call) reply grants is.0 fair none is.1.1)

alert_within : (old new : State) (grants : List Grant) (waits : Pending) → Alert old grants new → IsWithin old.waits waits → IsWithin new.waits waits
alert_within old new grants waits alert within = subst (λ (s : State). IsWithin s.waits waits) (sym alert.leaves) (λ t w e. within t w (over_pending old alert.threads true t w e).0)

time_out_within : (old new : State) (u : ℕ) (grants : List Grant) (waits : Pending) → TimeOut old u grants new → IsWithin old.waits waits → IsWithin new.waits waits
time_out_within old new u grants waits out within = subst (λ (s : State). IsWithin s.waits waits) (sym out.leaves) (λ t w e. within t w (over_pending old out.threads false t w e).0)

fair_within : (few many : Pending) → IsWithin few many → AreFair many → AreFair few
fair_within few many within fair t w e = fair t w (within t w e)

call_fair : (old : State) (who : ℕ) (call : Call) (reply : Reply) (grants : List Grant) (new : State) → AreFair old.waits → refusal old who false call ≡ None → Step old who call reply grants new → AreFair new.waits
call_fair old who call reply grants new fair none step =
    let within : IsWithin (change old who call).waits old.waits = λ t w e. subst (λ m. get m t ≡ Some w) (change_waits old who call) e in
    let calm = grants_within (sequence old step.numbers) (change old who call) step.calm step.served old.waits step.serves.0 within in
    let after : IsWithin (after_serving call step.calm).waits old.waits = λ t w e. calm t w (subst (λ m. get m t ≡ Some w) (settled_waits call step.calm) e) in
    let woken = alert_within (after_serving call step.calm) step.woken step.alerted old.waits step.alerts after in
    own call step.woken none (fair_within step.woken.waits old.waits woken fair) step.answers
  where
    own : (call : Call) (woken : State) → refusal old who false call ≡ None → AreFair woken.waits → (reply, new) ≡ answered old woken who call → AreFair new.waits
    own (Call.Wait wait) woken none all is = begun_fair woken who (asked_wait woken.now wait) (timeout_of wait) reply new (fair_call old who wait woken.now none) all is
    own _ woken none all is = subst (λ (s : State). AreFair s.waits) (sym (ap (λ p. p.1) is)) all

-- ---- a tick

plain_taken : (o new : Object) (ts : List ℕ) → TakenBy o ts new → is_plain new ≡ is_plain o
plain_taken o new [] is = ap is_plain is
plain_taken o new (t ∷ ts) is = plain_taken (taken o t) new ts is.1 ∙ once o t
  where
    once : (o : Object) (t : ℕ) → is_plain (taken o t) ≡ is_plain o
    once (Event manual set) t = refl
    once (Semaphore count maximum) t = refl
    once (Mutex None depth abandoned) t = refl
    once (Mutex (Some owner) depth abandoned) t = refl
    once (Timer manual set armed) t = refl
    once (Thread ended) t = refl
    once Gone t = refl

all_expired_object : (v : ℕ) (s : State) (timers : List ℕ) (h : ℕ) → is_plain (object_at (all_expired v s timers).objects h) ≡ true → object_at (all_expired v s timers).objects h ≡ object_at s.objects h
all_expired_object v s [] h plain = refl
all_expired_object v s (timer ∷ timers) h plain =
    let rest = all_expired_object v (expired v s timer) timers h plain in
    rest ∙ expired_object v s timer h (sym (ap is_plain rest) ∙ plain)

all_expired_waits : (v : ℕ) (s : State) (timers : List ℕ) → (all_expired v s timers).waits ≡ s.waits
all_expired_waits v s [] = refl
all_expired_waits v s (timer ∷ timers) = all_expired_waits v (expired v s timer) timers ∙ expired_waits v s timer

moment_within : (old : State) (m u : ℕ) (grants : List Grant) (new : State) (waits : Pending) → MomentPasses old m u grants new → IsWithin old.waits waits → IsWithin new.waits waits
moment_within old m u grants new waits passes within =
    let expired' : IsWithin (all_expired m old passes.timers).waits waits = λ t w e. within t w (subst (λ x. get x t ≡ Some w) (all_expired_waits m old passes.timers) e) in
    let calm = grants_within (sequence old passes.timers) (all_expired m old passes.timers) passes.calm passes.served waits passes.serves.0 expired' in
    time_out_within passes.woken new u passes.timed waits passes.times_out (alert_within passes.calm passes.woken passes.alerted waits passes.alerts calm)

moment_taken : (h : ℕ) (old : State) (m u : ℕ) (grants : List Grant) (new : State) (waits : Pending) → MomentPasses old m u grants new → IsWithin old.waits waits → AreFair waits → is_plain (object_at new.objects h) ≡ true → TakenBy (object_at old.objects h) (takers h (grants_took waits grants)) (object_at new.objects h)
moment_taken h old m u grants new waits passes within fair plain =
    let expired' : IsWithin (all_expired m old passes.timers).waits waits = λ t w e. within t w (subst (λ x. get x t ≡ Some w) (all_expired_waits m old passes.timers) e) in
    let served = grants_taken (sequence old passes.timers) (all_expired m old passes.timers) passes.calm passes.served waits h passes.serves.0 expired' fair in
    let calm = grants_within (sequence old passes.timers) (all_expired m old passes.timers) passes.calm passes.served waits passes.serves.0 expired' in
    let woken = alert_within passes.calm passes.woken passes.alerted waits passes.alerts calm in
    let last : object_at new.objects h ≡ object_at passes.calm.objects h =
    ap (λ (s : State). object_at s.objects h) passes.times_out.leaves ∙ (ap (λ os. object_at os h) (over_same passes.woken passes.times_out.threads false) ∙ (ap (λ (s : State). object_at s.objects h) passes.alerts.leaves ∙ ap (λ os. object_at os h) (over_same passes.calm passes.alerts.threads true))) in
    let alerted : grants_took waits passes.alerted ≡ [] = ap (λ gs. grants_took waits gs) passes.alerts.ends ∙ alerted_told waits passes.alerts.threads in
    let timed : grants_took waits passes.timed ≡ [] = ap (λ gs. grants_took waits gs) passes.times_out.ends ∙ timed_told passes.woken u waits passes.times_out.threads woken (λ t m. (passes.times_out.late.exactly t).0 m) in
    let all : grants_took waits grants ≡ grants_took waits passes.served =
    ap (λ gs. grants_took waits gs) passes.in_order ∙ (grants_took-append waits (passes.served ++ passes.alerted) passes.timed ∙ (ap (λ ks. grants_took waits (passes.served ++ passes.alerted) ++ ks) timed ∙ (append-nil (grants_took waits (passes.served ++ passes.alerted)) ∙ (grants_took-append waits passes.served passes.alerted ∙ (ap (λ ks. grants_took waits passes.served ++ ks) alerted ∙ append-nil (grants_took waits passes.served)))))) in
    let before : is_plain (object_at (all_expired m old passes.timers).objects h) ≡ true = sym (plain_taken (object_at (all_expired m old passes.timers).objects h) (object_at passes.calm.objects h) (takers h (grants_took waits passes.served)) served) ∙ (sym (ap is_plain last) ∙ plain) in
    subst (λ ks. TakenBy (object_at old.objects h) (takers h ks) (object_at new.objects h)) (sym all)
    (subst (λ o. TakenBy (object_at old.objects h) (takers h (grants_took waits passes.served)) o) (sym last)
    (subst (λ o. TakenBy o (takers h (grants_took waits passes.served)) (object_at passes.calm.objects h)) (all_expired_object m old passes.timers h before) served))

moments_within : (us : List ℕ) (old : State) (m : ℕ) (grants : List Grant) (new : State) (waits : Pending) → MomentsPass old m us grants new → IsWithin old.waits waits → IsWithin new.waits waits
moments_within [] old m grants new waits pass within = subst (λ (s : State). IsWithin s.waits waits) (sym pass.2) within
moments_within (u ∷ us) old m grants new waits pass within = moments_within us pass.2 m pass.1 new waits pass.5 (moment_within old m u pass.0 pass.2 waits pass.4 within)

moments_taken : (us : List ℕ) (h : ℕ) (old : State) (m : ℕ) (grants : List Grant) (new : State) (waits : Pending) → MomentsPass old m us grants new → IsWithin old.waits waits → AreFair waits → is_plain (object_at new.objects h) ≡ true → TakenBy (object_at old.objects h) (takers h (grants_took waits grants)) (object_at new.objects h)
moments_taken [] h old m grants new waits pass within fair plain =
    subst (λ gs. TakenBy (object_at old.objects h) (takers h (grants_took waits gs)) (object_at new.objects h)) (sym pass.1) (ap (λ (s : State). object_at s.objects h) pass.2)
moments_taken (u ∷ us) h old m grants new waits pass within fair plain =
    let later = moments_taken us h pass.2 m pass.1 new waits pass.5 (moment_within old m u pass.0 pass.2 waits pass.4 within) fair plain in
    let mid : is_plain (object_at pass.2.objects h) ≡ true = sym (plain_taken (object_at pass.2.objects h) (object_at new.objects h) (takers h (grants_took waits pass.1)) later) ∙ plain in
    let here = moment_taken h old m u pass.0 pass.2 waits pass.4 within fair mid in
    subst (λ ts. TakenBy (object_at old.objects h) ts (object_at new.objects h))
    (sym (ap (λ gs. takers h (grants_took waits gs)) pass.6 ∙ (ap (λ ks. takers h ks) (grants_took-append waits pass.0 pass.1) ∙ takers-append h (grants_took waits pass.0) (grants_took waits pass.1))))
    (TakenBy-append (object_at old.objects h) (object_at pass.2.objects h) (object_at new.objects h) (takers h (grants_took waits pass.0)) (takers h (grants_took waits pass.1)) here later)

-- the object at h in a tick: taken, no more, unless it is a timer
pub in_tick : (h : ℕ) (old : State) (by m : ℕ) (r : Result Reply Refusal) (grants : List Grant) (new : State) → AreFair old.waits → Ticked old m r grants new → is_plain (object_at new.objects h) ≡ true → TakenBy (object_at old.objects h) (takers h (turn_took old (Ticks by m r grants))) (object_at new.objects h)
in_tick h old by m (Ok reply) grants new fair ticked plain =
    let left : State = ticked.2.1 in
    let same = ends_object left new ticked.2.3 h (plain_lives (object_at new.objects h) plain) in
    subst (TakenBy (object_at old.objects h) (takers h (grants_took old.waits grants))) (sym same)
    (moments_taken ticked.2.0 h old m grants left old.waits ticked.2.2 (λ t w e. e) fair (sym (ap is_plain same) ∙ plain))
in_tick h old by m (Err r) grants new fair ticked plain =
    subst (λ gs. TakenBy (object_at old.objects h) (takers h (grants_took old.waits gs)) (object_at new.objects h)) (sym ticked.2) (ap (λ (s : State). object_at s.objects h) ticked.3)

tick_fair : (old : State) (m : ℕ) (r : Result Reply Refusal) (grants : List Grant) (new : State) → AreFair old.waits → Ticked old m r grants new → AreFair new.waits
tick_fair old m (Ok reply) grants new fair ticked =
    let left : State = ticked.2.1 in
    subst AreFair (sym (ends_waits left new ticked.2.3)) (fair_within left.waits old.waits (moments_within ticked.2.0 old m grants left old.waits ticked.2.2 (λ t w e. e)) fair)
tick_fair old m (Err r) grants new fair ticked = subst (λ (s : State). AreFair s.waits) (sym ticked.3) fair

-- ---- pending waits of a run are fair

pub turn_fair : (old : State) (turn : Turn) (new : State) → AreFair old.waits → IsTurn old turn new → AreFair new.waits
turn_fair old (Calls who call (Ok reply) grants) new fair is =
    let none = undenied old who (is_denied old call) (call_named old.handles call) is.1.0 in
    subst AreFair (sym (ends_waits is.0 new is.2)) (call_fair old who (call_named old.handles call) reply grants is.0 fair none is.1.1)
turn_fair old (Calls who call (Err r) grants) new fair is = subst (λ (s : State). AreFair s.waits) (sym is.2) fair
turn_fair old (Ticks by m r grants) new fair is = tick_fair old m r grants new fair is

pub turns_fair : (turns : List Turn) (old new : State) → AreFair old.waits → Turns old turns new → AreFair new.waits
turns_fair [] old new fair run = subst (λ (s : State). AreFair s.waits) (sym run) fair
turns_fair (turn ∷ turns) old new fair run = turns_fair turns run.0 new (turn_fair old turn run.0 fair run.1) run.2

pub opening_fair : (n : ℕ) → AreFair (opening n).waits
opening_fair n t w e = nothing_pends t w e
