-- Numbers that are given again: how a dispatcher goes on without an end, though its numbers have one. No call of the machine does this
-- by itself; whoever drives it asks for it, and says which numbers.
use Rattle.std.specs.Prelude.{◌≡◌, ℕ, Bool, true, false, not, ◌&&◌, ◌||◌, nat_le, nat_lt, List, [], ◌∷◌, ◌++◌, length, slice_set, is_none, Option, Some, None, Result, Ok, Err, if◌then◌else◌}
use Rattle.nt_status.specs.Access.{access_bits}
use Rattle.nt_status.specs.Flags.{only_known, event_bits, mutex_bits, timer_bits}
use Rattle.nt_status.specs.declared.refusal.Refusal.{Refusal}
use Rattle.nt_status.specs.declared.refusal.Refusal.TheVariants.{AccessDenied, HandleLimit, InvalidHandle, InvalidParameter, Memory}
use Rattle.nt_objects.specs.declared.object.Object.{Object}
use Rattle.nt_objects.specs.declared.object.Object.TheVariants.{Semaphore, Thread, Gone}
use Rattle.nt_tables.specs.Handles.{opened_at}
use Rattle.nt_objects.specs.Object.{event_of, mutex_of, timer_of, may_count, is_gone, full_access}
use Rattle.nt_apc.specs.Queues.{has_apc, is_queued}
use Rattle.nt_calls.specs.declared.call.Call.{Call}
use Rattle.nt_calls.specs.declared.call.Act.{Act}
use Rattle.nt_calls.specs.declared.call.Reply.{Reply}
use Rattle.nt_calls.specs.declared.call.Grant.{Grant}
use Rattle.nt_calls.specs.Naming.{object_named, lacks}
use Rattle.nt_calls.specs.State.{State, object_at}
use Rattle.nt_calls.specs.Refusals.{Cause, first_of_causes, refusal}
use Rattle.nt_machine.specs.declared.standing.Standing.{Standing}
use Rattle.nt_machine.specs.Dispatcher.{Dispatcher}

-- ---- which numbers may be given again

-- the number of a handle that was closed
abbrev pub is_closed : State → ℕ → Bool
is_closed s h = nat_lt h (length s.handles) && is_none (opened_at s.handles h)

-- the number of an object that is gone and was no thread's; no APC of it is queued
abbrev pub is_vacant : State → ℕ → Bool
is_vacant s o = nat_le s.threads o && (nat_lt o (length s.objects) && (is_gone (object_at s.objects o) && not (is_queued s.apcs o)))

-- the number of a thread that has ended and whose object is gone; no APC is queued to it
abbrev pub is_left : State → ℕ → Bool
is_left s t = nat_lt t s.threads && (is_gone (object_at s.objects t) && not (has_apc s.apcs t))

-- ---- what gets them

-- the handle with this number, which was closed, names the object with these rights
abbrev pub opened_again : State → ℕ → ℕ → ℕ → State
opened_again s h o access = record s { handles = slice_set s.handles h (Some (record { object = o; access = access })) }

-- a new object gets the number o, and its handle, with all rights of its kind, the number h
abbrev pub created_again : State → ℕ → ℕ → Object → State
created_again s o h object = opened_again (record s { objects = slice_set s.objects o object }) h o (full_access object)

-- a thread begins with the number t, and its handle with the number h
abbrev pub begun_again : State → ℕ → ℕ → State
begun_again s t h = created_again (record s { handing = slice_set s.handing t false }) t h (Thread false)

-- what an act creates for its thread, where it is a creation and its arguments are lawful
abbrev pub creation : ℕ → Act → Option Object
creation t (Act.CreateEvent flags) = if only_known event_bits flags then Some (event_of flags) else None
creation t (Act.CreateSemaphore initial maximum) = if may_count initial maximum then Some (Semaphore initial maximum) else None
creation t (Act.CreateMutex flags) = if only_known mutex_bits flags then Some (mutex_of flags t) else None
creation t (Act.CreateTimer flags) = if only_known timer_bits flags then Some (timer_of flags) else None
creation t act = None

-- ---- the refusals: those of every call come first

-- the first of two
abbrev pub or_else : Option Refusal → Option Refusal → Option Refusal
or_else None later = later
or_else (Some first) later = Some first

abbrev pub with_caller : State → ℕ → List Cause → Option Refusal
with_caller s who causes = or_else (refusal s who false Call.Exit) (first_of_causes causes)

abbrev pub creation_refusal : State → ℕ → Act → ℕ → ℕ → Option Refusal
creation_refusal s who act o h = with_caller s who ((is_none (creation who act), InvalidParameter) ∷ (not (is_vacant s o && is_closed s h), InvalidHandle) ∷ [])

abbrev pub duplicate_refusal : State → ℕ → ℕ → ℕ → ℕ → Option Refusal
duplicate_refusal s who source access h =
    with_caller s who ((is_none (opened_at s.handles source), InvalidHandle) ∷ (lacks access s.handles source || not (only_known access_bits access), AccessDenied) ∷ (not (is_closed s h), InvalidHandle) ∷ [])

-- a thread that begins is no caller yet
abbrev pub thread_refusal : State → ℕ → ℕ → Option Refusal
thread_refusal s t h = first_of_causes ((not (is_left s t && is_closed s h), InvalidHandle) ∷ [])

-- ---- the calls. None of them ends a wait, and none takes memory

-- a refusal, the first that there is, changes nothing; else this becomes of the state, and the reply is the handle
abbrev pub Renews : State → Option Refusal → ℕ → State → Result Reply Refusal → List Grant → State → Type 0
Renews old refused h becomes (Ok reply) grants new = (refused ≡ None) × (reply ≡ Reply.Handle h) × (grants ≡ []) × (new ≡ becomes)
Renews old refused h becomes (Err cause) grants new = (refused ≡ Some cause) × (grants ≡ []) × (new ≡ old)

-- what an act creates, or a thread that runs where it creates nothing
abbrev pub created_by : Option Object → Object
created_by None = Thread false
created_by (Some object) = object

-- the creation `act` of thread `who`, with the number o for its object and h for its handle
abbrev pub CreatesAgain : State → ℕ → Act → ℕ → ℕ → Result Reply Refusal → List Grant → State → Type 0
CreatesAgain old who act o h result grants new = Renews old (creation_refusal old who act o h) h (created_again old o h (created_by (creation who act))) result grants new

-- one handle more for the object that a handle names, with these rights and the number h
abbrev pub DuplicatesAgain : State → ℕ → ℕ → ℕ → ℕ → Result Reply Refusal → List Grant → State → Type 0
DuplicatesAgain old who source access h result grants new =
    Renews old (duplicate_refusal old who source access h) h (opened_again old h (object_named old.handles source) access) result grants new

-- a thread begins with the number t, and its handle has the number h
abbrev pub BeginsAgain : State → ℕ → ℕ → Result Reply Refusal → List Grant → State → Type 0
BeginsAgain old t h result grants new = Renews old (thread_refusal old t h) h (begun_again old t h) result grants new

-- one object number more, with no handle, of an object that is gone: so that it can be given. Refused where there are as many as handle
-- numbers, or for memory
abbrev pub AddsVacant : State → Result ℕ Refusal → List Grant → State → Type 0
AddsVacant old (Ok number) grants new =
    (nat_lt (length old.objects) (length old.handles) ≡ true) × (number ≡ length old.objects) × (grants ≡ []) × (new ≡ record old { objects = old.objects ++ Gone ∷ [] })
AddsVacant old (Err cause) grants new =
    (cause ≡ (if nat_lt (length old.objects) (length old.handles) then Memory else HandleLimit)) × (grants ≡ []) × (new ≡ old)

-- the dispatcher with the number o given to this object, and the number h to its handle
abbrev pub with_again : Dispatcher → ℕ → ℕ → Object → List Bool → List Standing → List (List ℕ) → Dispatcher
with_again d o h object handing standings owned =
    record d {
      handles = slice_set d.handles h (Some (record { object = o; access = full_access object }));
      objects = slice_set d.objects o object;
      handing = handing;
      standings = standings;
      owned = owned;
    }
