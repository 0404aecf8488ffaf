-- From the first cause of a call to its refusal.
use Rattle.std.proofs.Common.{◌≡◌, ℕ, Bool, true, false, refl, sym, subst, Option, Some, None}
use Rattle.std.specs.Prelude.{IsTrue, MatchOption}
use Rattle.nt_status.specs.declared.refusal.Refusal.{Refusal}
use Rattle.nt_status.specs.declared.refusal.Refusal.TheVariants.{Memory}
use Rattle.nt_status.specs.declared.limits.TheConstants.{MAX_WAIT_OBJECTS}
use Rattle.nt_calls.specs.declared.call.Call.{Call}
use Rattle.nt_calls.specs.State.{State}
use Rattle.std.proofs.Common.{[]}
use Rattle.std.proofs.Common.{List, length, ◌∷◌, ◌++◌, ◌||◌, ◌==◌, nat_lt}
use Rattle.std.specs.Prelude.{nat_le, int_le, int_lt, pos}
use Rattle.std.specs.List.{list_any}
use Rattle.nt_status.specs.declared.refusal.Refusal.TheVariants.{AccessDenied, InvalidHandle, InvalidParameter, NotOwner, TooManyPosts, RecursionLimit, HandleLimit, ThreadGone, UnknownThread, ThreadEnded, ThreadWaiting}
use Rattle.nt_objects.specs.declared.object.Object.{Object}
use Rattle.nt_objects.specs.Object.{is_event, is_semaphore, is_timer, is_thread, has_ended, overflows}
use Rattle.nt_calls.specs.declared.call.Act.{Act}
use Rattle.nt_calls.specs.declared.call.WaitCall.{WaitCall}
use Rattle.nt_calls.specs.State.{object_at, pends}
use Rattle.nt_calls.specs.Refusals.{Cause, first_of_causes, is_no, is_unknown, is_full, has_twice, is_at_limit, is_foreign, may_signal}
use Rattle.nt_machine.proofs.Accepting.{next_causes}
use Rattle.nt_calls.specs.Refusals.{refusal, grows, IsRefusal}

-- the first cause that holds is the refusal
pub is_refusal : (s : State) (who : ℕ) (denied : Bool) (call : Call) (r : Refusal) → refusal s who denied call ≡ Some r → IsRefusal s who denied call r
is_refusal s who denied call r is = subst (λ (o : Option Refusal). MatchOption o (IsTrue (grows s who call) × (r ≡ Memory)) (λ first. r ≡ first)) (sym is) refl

-- and where none holds, out of memory
pub is_memory : (s : State) (who : ℕ) (denied : Bool) (call : Call) (r : Refusal) → refusal s who denied call ≡ None → IsTrue (grows s who call) → r ≡ Memory → IsRefusal s who denied call r
is_memory s who denied call r none grown memory = subst (λ (o : Option Refusal). MatchOption o (IsTrue (grows s who call) × (r ≡ Memory)) (λ first. r ≡ first)) (sym none) (grown, memory)

-- ---- a call that no cause refuses lacks no right that it needs

first_there : {P : Type 0} (before after : List Cause) (r : Refusal) → first_of_causes (before ++ (true, r) ∷ after) ≡ None → P
first_there [] after r none = let h : Some r ≡ None = none in (cc)
first_there (c ∷ before) after r none = first_there before after r (next_causes c.0 c.1 (before ++ (true, r) ∷ after) none).1

-- the causes that come before those of the call, and these
abbrev callers : State → ℕ → List Cause → List Cause
callers s who own =
    (nat_le s.threads who, UnknownThread) ∷ (has_ended (object_at s.objects who), ThreadEnded) ∷ (pends s who, ThreadWaiting) ∷ own

kind_denied : (s : State) (who h : ℕ) (kind : Object → Bool) (after : List Cause) {P : Type 0} → first_of_causes (callers s who ((is_no kind s.objects h, InvalidHandle) ∷ (true, AccessDenied) ∷ after)) ≡ None → P
kind_denied s who h kind after none = first_there (callers s who ((is_no kind s.objects h, InvalidHandle) ∷ [])) after AccessDenied none

pub undenied : (s : State) (who : ℕ) (denied : Bool) (call : Call) → refusal s who denied call ≡ None → refusal s who false call ≡ None
undenied s who false call none = none
undenied s who true (Call.Act (Act.SetEvent h)) none = kind_denied s who h is_event [] none
undenied s who true (Call.Act (Act.ResetEvent h)) none = kind_denied s who h is_event [] none
undenied s who true (Call.Act (Act.PulseEvent h)) none = kind_denied s who h is_event [] none
undenied s who true (Call.Act (Act.ReleaseSemaphore h n)) none = kind_denied s who h is_semaphore ((int_le n (pos 0), InvalidParameter) ∷ (overflows n (object_at s.objects h), TooManyPosts) ∷ []) none
undenied s who true (Call.Act (Act.SetTimer h due period routine)) none = kind_denied s who h is_timer ((int_lt period (pos 0), InvalidParameter) ∷ []) none
undenied s who true (Call.Act (Act.CancelTimer h)) none = kind_denied s who h is_timer [] none
undenied s who true (Call.Act (Act.QueueApc h routine arg)) none =
    first_there (callers s who ((is_unknown s.objects h || is_no is_thread s.objects h, InvalidHandle) ∷ [])) ((has_ended (object_at s.objects h), ThreadGone) ∷ []) AccessDenied none
undenied s who true (Call.Act (Act.Duplicate object access)) none =
    first_there (callers s who ((is_unknown s.objects object, InvalidHandle) ∷ [])) ((is_full s.handles, HandleLimit) ∷ []) AccessDenied none
undenied s who true (Call.Act (Act.CreateEvent flags)) none = none
undenied s who true (Call.Act (Act.CreateSemaphore initial maximum)) none = none
undenied s who true (Call.Act (Act.CreateMutex flags)) none = none
undenied s who true (Call.Act (Act.CreateTimer flags)) none = none
undenied s who true (Call.Act (Act.ReleaseMutex h)) none = none
undenied s who true (Call.Act Act.NextApc) none = none
undenied s who true (Call.Act (Act.Close h)) none = none
undenied s who true (Call.Wait (WaitCall.Sleep mode)) none = none
undenied s who true (Call.Wait (WaitCall.Objects all mode named)) none =
    first_there (callers s who ((length named == 0 || nat_lt MAX_WAIT_OBJECTS (length named), InvalidParameter) ∷ (list_any (is_unknown s.objects) named, InvalidHandle) ∷ []))
    ((has_twice named, InvalidParameter) ∷ (list_any (is_at_limit s.objects who) named, RecursionLimit) ∷ []) AccessDenied none
undenied s who true (Call.Wait (WaitCall.Swap h object mode)) none =
    first_there (callers s who ((is_no may_signal s.objects h, InvalidHandle) ∷ (is_unknown s.objects object, InvalidHandle) ∷ []))
    ((is_foreign s.objects who h, NotOwner) ∷ (overflows (pos 1) (object_at s.objects h), TooManyPosts) ∷ (is_at_limit s.objects who object, RecursionLimit) ∷ []) AccessDenied none
undenied s who true Call.Exit none = none
