-- Each call is answered by a reply that it can have.
use Rattle.std.proofs.Common.{◌≡◌, ℕ, Bool, true, false, cond, ◌&&◌, ◌==◌, List, refl, sym, ap, subst, Result, Ok, Err, IsTrue}
use Rattle.nt_status.specs.declared.refusal.Refusal.{Refusal}
use Rattle.nt_status.specs.Status.{io_completion_code}
use Rattle.nt_waits.specs.declared.wait.Wait.{Wait}
use Rattle.nt_apc.specs.Queues.{has_apc}
use Rattle.nt_calls.specs.declared.call.Act.{Act}
use Rattle.nt_calls.specs.declared.call.Call.{Call}
use Rattle.nt_calls.specs.declared.call.Reply.{Reply}
use Rattle.nt_calls.specs.declared.call.Grant.{Grant}
use Rattle.nt_calls.specs.Naming.{act_named, call_named, wait_named}
use Rattle.nt_calls.specs.Calls.{asked_wait, timeout_of}
use Rattle.nt_calls.specs.Change.{act_reply}
use Rattle.nt_calls.specs.Serving.{fits, status, taken_by, late_status, is_sleep}
use Rattle.nt_calls.specs.State.{State, with_handing, pending_too}
use Rattle.nt_calls.specs.Steps.{Called, Ticked, answered, begun}
use Rattle.nt_answers.specs.Answers.{is_began, is_done}
use Rattle.nt_answers.specs.Kinds.{Kind, kind_of, tells_kind, is_answer}

-- what an accepted call answers
reply_is : (old : State) (who : ℕ) (call : Call) (reply : Reply) (grants : List Grant) (new : State) → Called old who call (Ok reply) grants new
    → (s : State) × (reply ≡ (answered old s who (call_named old.handles call)).0)
reply_is old who call reply grants new (left, made, ends) = (made.1.woken, ap (λ p. p.0) made.1.answers)

begun_tells : (s : State) (t : ℕ) (w : Wait) (ms : ℕ) → IsTrue (is_began (Ok (begun s t w ms).0))
begun_tells s t w ms = first (fits s.objects t w)
  where
    third : (b : Bool) → IsTrue (is_began (Ok (cond {A = Reply × State} b (Reply.Status (late_status (is_sleep w)), with_handing s t false) (Reply.Pended, pending_too s t w)).0))
    third true = refl
    third false = refl

    second : (b : Bool) → IsTrue (is_began (Ok (cond {A = Reply × State} b (Reply.Status io_completion_code, with_handing s t true) (cond {A = Reply × State} (ms == 0) (Reply.Status (late_status (is_sleep w)), with_handing s t false) (Reply.Pended, pending_too s t w))).0))
    second true = refl
    second false = third (ms == 0)

    first : (b : Bool) → IsTrue (is_began (Ok (cond {A = Reply × State} b (Reply.Status (status s.objects t w), taken_by s t w) (cond {A = Reply × State} (w.alertable && has_apc s.apcs t) (Reply.Status io_completion_code, with_handing s t true) (cond {A = Reply × State} (ms == 0) (Reply.Status (late_status (is_sleep w)), with_handing s t false) (Reply.Pended, pending_too s t w)))).0))
    first true = refl
    first false = second (w.alertable && has_apc s.apcs t)

act_tells : (old : State) (t : ℕ) (act : Act) → IsTrue (is_answer (Call.Act act) (Ok (act_reply old t (act_named old.handles act))))
act_tells old t Act.NextApc = refl
act_tells old t _ = refl

refusal_tells : (kind : Kind) (refusal : Refusal) → IsTrue (tells_kind kind (Err refusal))
refusal_tells Kind.Began refusal = refl
refusal_tells _ refusal = refl

-- a call's result is one that it can have
pub call_told : (old new : State) (who : ℕ) (call : Call) (result : Result Reply Refusal) (grants : List Grant) → Called old who call result grants new → IsTrue (is_answer call result)
call_told old new who call (Err refusal) grants made = refusal_tells (kind_of call) refusal
call_told old new who (Call.Act act) (Ok reply) grants made =
    let is = reply_is old who (Call.Act act) reply grants new made in
    subst (λ (r : Reply). IsTrue (is_answer (Call.Act act) (Ok r))) (sym is.1) (act_tells old who act)
call_told old new who (Call.Wait wait) (Ok reply) grants made =
    let is = reply_is old who (Call.Wait wait) reply grants new made in
    let named = wait_named old.handles wait in
    subst (λ (r : Reply). IsTrue (is_began (Ok r))) (sym is.1) (begun_tells is.0 who (asked_wait is.0.now named) (timeout_of named))
call_told old new who Call.Exit (Ok reply) grants made =
    let is = reply_is old who Call.Exit reply grants new made in
    subst (λ (r : Reply). IsTrue (is_answer Call.Exit (Ok r))) (sym is.1) refl

-- a tick's result is done or a refusal
pub tick_told : (old new : State) (m : ℕ) (result : Result Reply Refusal) (grants : List Grant) → Ticked old m result grants new → IsTrue (is_done result)
tick_told old new m (Err refusal) grants made = refl
tick_told old new m (Ok reply) grants made = subst (λ (r : Reply). IsTrue (is_done (Ok r))) (sym made.1) refl
