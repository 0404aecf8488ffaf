-- From a stuck state nothing goes on.
use Rattle.std.proofs.Common.{◌≡◌, ◌≤◌, ◌<◌, ℕ, Bool, true, false, not, List, [], ◌∷◌, refl, sym, ap, ◌∙◌, subst, arith, Some, None}
use Rattle.std.specs.Prelude.{nat_lt, nat_le, is_some}
use Rattle.std.specs.FinMap.{get}
use Rattle.std.specs.declared.result.Result.TheVariants.{Ok, Err}
use Rattle.std.proofs.lemmas.Bool.{false≢true}
use Rattle.std.proofs.lemmas.Bool.Decides.{nat_tests}
use Rattle.nt_status.specs.declared.limits.TheConstants.{MAX_MOMENT}
use Rattle.nt_status.specs.declared.refusal.Refusal.TheVariants.{UnknownThread, ThreadEnded, ThreadWaiting}
use Rattle.nt_objects.specs.Object.{has_ended}
use Rattle.nt_calls.specs.declared.call.Call.{Call}
use Rattle.nt_calls.specs.declared.call.Reply.{Reply}
use Rattle.nt_calls.specs.declared.call.Grant.{Grant}
use Rattle.nt_calls.specs.State.{State, object_at, pends}
use Rattle.nt_calls.specs.Living.{runs, Ends}
use Rattle.nt_calls.specs.Naming.{call_named}
use Rattle.nt_calls.specs.Rights.{is_denied}
use Rattle.nt_calls.specs.Refusals.{first_of_causes, call_causes, refusal}
use Rattle.nt_calls.specs.Steps.{Ticked}
use Rattle.nt_calls.specs.Runs.{Turn, Calls, Ticks, Turns}
use Rattle.nt_machine.proofs.Accepting.{next_causes}
use Rattle.nt_look.specs.Hangs.{IsStuck}
use Rattle.nt_look.specs.Hanging.{AreBy, AreVain}
use Rattle.nt_look.proofs.Parts.{together}
use Rattle.nt_look.proofs.Waiting.{IsLater, later_then, all_gone_later}
use Rattle.nt_look.proofs.Passing.{moments_vain}

-- whose call no cause refuses runs, and does not wait
pub free_to_call : (s : State) (who : ℕ) (denied : Bool) (call : Call) → refusal s who denied call ≡ None → (who < s.threads) × (has_ended (object_at s.objects who) ≡ false) × (pends s who ≡ false)
free_to_call s who denied call none =
    let first = next_causes (nat_le s.threads who) UnknownThread ((has_ended (object_at s.objects who), ThreadEnded) ∷ (pends s who, ThreadWaiting) ∷ call_causes s who denied call) none in
    let second = next_causes (has_ended (object_at s.objects who)) ThreadEnded ((pends s who, ThreadWaiting) ∷ call_causes s who denied call) first.1 in
    let third = next_causes (pends s who) ThreadWaiting (call_causes s who denied call) second.1 in
    let test = first.0 in
    (grind (arith, nat_tests, test), second.0, third.0)

-- the causes of the call itself
pub call_own : (s : State) (who : ℕ) (denied : Bool) (call : Call) → refusal s who denied call ≡ None → first_of_causes (call_causes s who denied call) ≡ None
call_own s who denied call none =
    let first = next_causes (nat_le s.threads who) UnknownThread ((has_ended (object_at s.objects who), ThreadEnded) ∷ (pends s who, ThreadWaiting) ∷ call_causes s who denied call) none in
    let second = next_causes (has_ended (object_at s.objects who)) ThreadEnded ((pends s who, ThreadWaiting) ∷ call_causes s who denied call) first.1 in
    (next_causes (pends s who) ThreadWaiting (call_causes s who denied call) second.1).1

never_accepted : (callers : ℕ → Bool) (s : State) (who : ℕ) (denied : Bool) (call : Call) → IsStuck callers s → callers who ≡ true → refusal s who denied call ≡ None → ⊥
never_accepted callers s who denied call stuck may none =
    let free = free_to_call s who denied call none in
    let below = free.0 in
    let there : nat_lt who s.threads ≡ true = grind (arith, nat_tests, below) in
    let running : runs s who ≡ true = together (nat_lt who s.threads) (not (has_ended (object_at s.objects who))) there (ap (λ b. not b) free.1) in
    false≢true (sym free.2 ∙ stuck.waits who may running)

-- what time leaves is stuck
later_stuck : (callers : ℕ → Bool) (s new : State) → IsStuck callers s → IsLater s new → IsStuck callers new
later_stuck callers s new stuck later = record {
  waits = λ t may running. ap (λ m. is_some (get m t)) later.waits ∙ stuck.waits t may (later.runs t running);
  lasts = later.lasting;
}

tick_vain : (s : State) (m : ℕ) (reply : Reply) (gs : List Grant) (new : State) → m ≤ MAX_MOMENT → ((t : ℕ) (w : _) → get s.waits t ≡ Some w → Rattle.nt_look.specs.Hangs.ends_in_time s t w ≡ false) → Ticked s m (Ok reply) gs new → (gs ≡ []) × IsLater s new
tick_vain s m reply gs new most lasting is =
    let left : State = is.2.1 in
    let passed = moments_vain is.2.0 s m gs left most lasting is.2.2 in
    let ends : Ends left new = is.2.3 in
    (passed.0, later_then s left new passed.1 (subst (IsLater left) (sym ends.leaves) (all_gone_later left ends.objects passed.1.lasting)))

pub stuck_turns : (callers : ℕ → Bool) (turns : List Turn) (old new : State) → IsStuck callers old → AreBy callers turns → Turns old turns new → AreVain turns × (new.waits ≡ old.waits) × IsStuck callers new
stuck_turns callers [] old new stuck by run = (tt, ap (λ (s : State). s.waits) run, subst (IsStuck callers) (sym run) stuck)
stuck_turns callers (Calls who call (Ok reply) grants ∷ turns) old new stuck by run =
    absurd (never_accepted callers old who (is_denied old call) (call_named old.handles call) stuck by.0 run.1.1.0)
stuck_turns callers (Calls who call (Err cause) grants ∷ turns) old new stuck by run =
    let mid : State = run.0 in
    let same : mid ≡ old = run.1.2 in
    let rest = stuck_turns callers turns mid new (subst (IsStuck callers) (sym same) stuck) by.1 run.2 in
    ((refl, run.1.1, rest.0), rest.1 ∙ ap (λ (s : State). s.waits) same, rest.2)
stuck_turns callers (Ticks by' m (Ok reply) grants ∷ turns) old new stuck by run =
    let mid : State = run.0 in
    let passed = tick_vain old m reply grants mid by.0 stuck.lasts run.1 in
    let rest = stuck_turns callers turns mid new (later_stuck callers old mid stuck passed.1) by.1 run.2 in
    ((passed.0, rest.0), rest.1 ∙ passed.1.waits, rest.2)
stuck_turns callers (Ticks by' m (Err cause) grants ∷ turns) old new stuck by run =
    let mid : State = run.0 in
    let same : mid ≡ old = run.1.3 in
    let rest = stuck_turns callers turns mid new (subst (IsStuck callers) (sym same) stuck) by.1 run.2 in
    ((run.1.2, rest.0), rest.1 ∙ ap (λ (s : State). s.waits) same, rest.2)
