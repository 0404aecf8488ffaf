-- When a call is refused: the first cause that holds is the answer.
use Rattle.std.specs.Prelude.{◌≡◌, ℕ, ℤ, pos, Bool, false, not, ◌&&◌, ◌||◌, nat_le, nat_lt, int_lt, int_le, List, [], ◌∷◌, length, if◌then◌else◌, ◌==◌, IsTrue, MatchOption, is_none, Result, Ok, Err}
use Rattle.std.specs.List.{list_any}
use Rattle.std.specs.declared.option.Option.{Option}
use Rattle.std.specs.declared.option.Option.TheVariants.{None, Some}
use Rattle.nt_status.specs.declared.limits.TheConstants.{MAX_HANDLES, MAX_WAIT_OBJECTS}
use Rattle.nt_status.specs.Flags.{only_known, event_bits, mutex_bits, timer_bits}
use Rattle.nt_status.specs.Access.{access_bits}
use Rattle.nt_status.specs.declared.refusal.Refusal.{Refusal}
use Rattle.nt_status.specs.declared.refusal.Refusal.TheVariants.{AccessDenied, InvalidHandle, Memory, ThreadGone, InvalidParameter, NotOwner, TooManyPosts, ThreadWaiting, ThreadEnded, UnknownThread, RecursionLimit, HandleLimit}
use Rattle.nt_tables.specs.declared.handles.Opened.{Opened}
use Rattle.nt_tables.specs.Handles.{opened_at}
use Rattle.nt_objects.specs.declared.object.Object.{Object}
use Rattle.nt_objects.specs.Object.{is_event, is_semaphore, is_mutex, is_timer, is_thread, has_ended, owned_by, has_room, overflows, may_count}
use Rattle.nt_waits.specs.declared.wait.Wait.{Wait}
use Rattle.nt_apc.specs.Queues.{has_apc}
use Rattle.nt_calls.specs.declared.call.Call.{Call}
use Rattle.nt_calls.specs.declared.call.Act.{Act}
use Rattle.nt_calls.specs.declared.call.WaitCall.{WaitCall}
use Rattle.nt_calls.specs.Calls.{act_grows, asked_wait, timeout_of}
use Rattle.nt_calls.specs.Naming.{object_named, lacks}
use Rattle.nt_calls.specs.State.{State, object_at, pends}
use Rattle.nt_calls.specs.Serving.{fits}

-- a cause, and the refusal that answers it
abbrev pub Cause : Type 0
Cause = Bool × Refusal

abbrev pub first_of_causes : List Cause → Option Refusal
first_of_causes [] = None
first_of_causes (c ∷ cs) = if c.0 then Some c.1 else first_of_causes cs

-- no handle number is left
abbrev pub is_full : List (Option Opened) → Bool
is_full handles = nat_le MAX_HANDLES (length handles)

-- no object has this number
abbrev pub is_unknown : List Object → ℕ → Bool
is_unknown objects h = nat_le (length objects) h

-- no object has this number, or none of this kind
abbrev pub is_no : (Object → Bool) → List Object → ℕ → Bool
is_no kind objects h = not (kind (object_at objects h))

abbrev pub has_twice : List ℕ → Bool
has_twice [] = false
has_twice (h ∷ hs) = list_any (λ other. other == h) hs || has_twice hs

-- a mutex that t holds at the greatest depth
abbrev pub is_at_limit : List Object → ℕ → ℕ → Bool
is_at_limit objects t h = owned_by (object_at objects h) t && not (has_room (object_at objects h))

-- a mutex that t does not own
abbrev pub is_foreign : List Object → ℕ → ℕ → Bool
is_foreign objects t h = is_mutex (object_at objects h) && not (owned_by (object_at objects h) t)

-- SignalObjectAndWait signals events, semaphores and mutexes
abbrev pub may_signal : Object → Bool
may_signal o = is_event o || is_semaphore o || is_mutex o

-- ---- the causes of each kind of call on numbers of objects, in order; `denied` tells that a handle of the call lacks a right that
-- the call needs, which comes right after the handles that name nothing fit

-- a creation whose arguments are lawful or not
abbrev pub creation_causes : List (Option Opened) → Bool → List Cause
creation_causes handles lawful = (not lawful, InvalidParameter) ∷ (is_full handles, HandleLimit) ∷ []

abbrev pub kind_causes : (Object → Bool) → List Object → Bool → ℕ → List Cause
kind_causes kind objects denied h = (is_no kind objects h, InvalidHandle) ∷ (denied, AccessDenied) ∷ []

abbrev pub release_causes : List Object → Bool → ℕ → ℤ → List Cause
release_causes objects denied h n =
    (is_no is_semaphore objects h, InvalidHandle)
    ∷ (denied, AccessDenied)
    ∷ (int_le n (pos 0), InvalidParameter)
    ∷ (overflows n (object_at objects h), TooManyPosts)
    ∷ []

-- ReleaseMutex needs no right
abbrev pub unlock_causes : List Object → ℕ → ℕ → List Cause
unlock_causes objects t h = (is_no is_mutex objects h, InvalidHandle) ∷ (is_foreign objects t h, NotOwner) ∷ []

abbrev pub arm_causes : List Object → Bool → ℕ → ℤ → List Cause
arm_causes objects denied h period =
    (is_no is_timer objects h, InvalidHandle) ∷ (denied, AccessDenied) ∷ (int_lt period (pos 0), InvalidParameter) ∷ []

abbrev pub apc_causes : List Object → Bool → ℕ → List Cause
apc_causes objects denied h =
    (is_unknown objects h || is_no is_thread objects h, InvalidHandle) ∷ (denied, AccessDenied) ∷ (has_ended (object_at objects h), ThreadGone) ∷ []

-- a duplicate has no right that its handle lacks, and a bit that names no right is one that each lacks
abbrev pub duplicate_causes : List (Option Opened) → List Object → Bool → ℕ → ℕ → List Cause
duplicate_causes handles objects denied object access =
    (is_unknown objects object, InvalidHandle)
    ∷ (denied || not (only_known access_bits access), AccessDenied)
    ∷ (is_full handles, HandleLimit)
    ∷ []

-- the handle was closed before, or never handed out; whatever its rights, it may be closed
abbrev pub close_causes : List (Option Opened) → ℕ → List Cause
close_causes handles h = (is_none (opened_at handles h), InvalidHandle) ∷ []

-- two handles of one object name it twice
abbrev pub objects_causes : List Object → ℕ → Bool → List ℕ → List Cause
objects_causes objects t denied named =
    (length named == 0 || nat_lt MAX_WAIT_OBJECTS (length named), InvalidParameter)
    ∷ (list_any (is_unknown objects) named, InvalidHandle)
    ∷ (denied, AccessDenied)
    ∷ (has_twice named, InvalidParameter)
    ∷ (list_any (is_at_limit objects t) named, RecursionLimit)
    ∷ []

-- both objects are judged as they are before the signal
abbrev pub swap_causes : List Object → ℕ → Bool → ℕ → ℕ → List Cause
swap_causes objects t denied h object =
    (is_no may_signal objects h, InvalidHandle)
    ∷ (is_unknown objects object, InvalidHandle)
    ∷ (denied, AccessDenied)
    ∷ (is_foreign objects t h, NotOwner)
    ∷ (overflows (pos 1) (object_at objects h), TooManyPosts)
    ∷ (is_at_limit objects t object, RecursionLimit)
    ∷ []

-- the number of the object that a handle names, or the first cause that holds of it, and of whether the handle lacks these rights
abbrev pub IsJudged : List (Option Opened) → ℕ → ℕ → (Bool → ℕ → List Cause) → Result ℕ Refusal → Type 0
IsJudged handles handle access causes (Ok object) =
    (object ≡ object_named handles handle) × (first_of_causes (causes (lacks access handles handle) object) ≡ None)
IsJudged handles handle access causes (Err cause) =
    first_of_causes (causes (lacks access handles handle) (object_named handles handle)) ≡ Some cause

-- ---- the table of calls

abbrev pub act_causes : List (Option Opened) → List Object → ℕ → Bool → Act → List Cause
act_causes handles objects t denied (Act.CreateEvent flags) = creation_causes handles (only_known event_bits flags)
act_causes handles objects t denied (Act.CreateSemaphore initial maximum) = creation_causes handles (may_count initial maximum)
act_causes handles objects t denied (Act.CreateMutex flags) = creation_causes handles (only_known mutex_bits flags)
act_causes handles objects t denied (Act.SetEvent h) = kind_causes is_event objects denied h
act_causes handles objects t denied (Act.ResetEvent h) = kind_causes is_event objects denied h
act_causes handles objects t denied (Act.PulseEvent h) = kind_causes is_event objects denied h
act_causes handles objects t denied (Act.ReleaseSemaphore h n) = release_causes objects denied h n
act_causes handles objects t denied (Act.ReleaseMutex h) = unlock_causes objects t h
act_causes handles objects t denied (Act.CreateTimer flags) = creation_causes handles (only_known timer_bits flags)
act_causes handles objects t denied (Act.SetTimer h due period routine) = arm_causes objects denied h period
act_causes handles objects t denied (Act.CancelTimer h) = kind_causes is_timer objects denied h
act_causes handles objects t denied (Act.QueueApc h routine arg) = apc_causes objects denied h
act_causes handles objects t denied Act.NextApc = []
act_causes handles objects t denied (Act.Duplicate object access) = duplicate_causes handles objects denied object access
act_causes handles objects t denied (Act.Close h) = close_causes handles h

abbrev pub wait_causes : List Object → ℕ → Bool → WaitCall → List Cause
wait_causes objects t denied (WaitCall.Objects all mode named) = objects_causes objects t denied named
wait_causes objects t denied (WaitCall.Sleep mode) = []
wait_causes objects t denied (WaitCall.Swap h object mode) = swap_causes objects t denied h object

abbrev pub call_causes : State → ℕ → Bool → Call → List Cause
call_causes s t denied (Call.Act act) = act_causes s.handles s.objects t denied act
call_causes s t denied (Call.Wait wait) = wait_causes s.objects t denied wait
call_causes s t denied Call.Exit = []

-- the causes of every call come first
abbrev pub causes : State → ℕ → Bool → Call → List Cause
causes s who denied call =
    (nat_le s.threads who, UnknownThread)
    ∷ (has_ended (object_at s.objects who), ThreadEnded)
    ∷ (pends s who, ThreadWaiting)
    ∷ call_causes s who denied call

-- the refusal that a call must meet, if any
abbrev pub refusal : State → ℕ → Bool → Call → Option Refusal
refusal s who denied call = first_of_causes (causes s who denied call)

-- nothing ends t's wait at once: it does not fit, no APC is queued for it, and its timeout is not 0
abbrev pub would_pend : State → ℕ → Wait → ℕ → Bool
would_pend s t w ms = not (fits s.objects t w) && not (w.alertable && has_apc s.apcs t) && not (ms == 0)

-- whether a call may want memory: an act that may, and a wait that would pend, unless it names one object: for such a wait, as of a swap, there is room
abbrev pub grows : State → ℕ → Call → Bool
grows s t (Call.Act act) = act_grows act
grows s t (Call.Wait wait) = would_pend s t (asked_wait s.now wait) (timeout_of wait) && not (length (asked_wait s.now wait).objects == 1)
grows s t Call.Exit = false

-- out of memory is the last cause, of the calls that may take memory
abbrev pub IsRefusal : State → ℕ → Bool → Call → Refusal → Type 0
IsRefusal s who denied call r =
    MatchOption (refusal s who denied call) (IsTrue (grows s who call) × (r ≡ Memory)) (λ first. r ≡ first)
