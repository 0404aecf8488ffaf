-- What a call changes before waits are served.
use Rattle.std.specs.Prelude.{◌≡◌, ℕ, ◌+◌, ℤ, pos, negsuc, unsigned_abs, Bool, true, false, ◌&&◌, nat_le, List, [], ◌∷◌, ◌++◌, map, slice_set, slice_index_or, length, if◌then◌else◌}
use Rattle.std.specs.declared.option.Option.{Option}
use Rattle.std.specs.declared.option.Option.TheVariants.{None, Some}
use Rattle.nt_objects.specs.declared.object.Object.{Object}
use Rattle.nt_objects.specs.declared.object.Object.TheVariants.{Event, Semaphore, Mutex, Thread}
use Rattle.nt_objects.specs.declared.object.Armed.{Armed}
use Rattle.nt_objects.specs.declared.object.Routine.{Routine}
use Rattle.nt_objects.specs.Object.{event_of, mutex_of, timer_of, with_set, released, unlocked, abandoned_by, unset_by, armed_with, setting_of, due_of, rearmed, count_of, full_access}
use Rattle.nt_apc.specs.declared.apc.Queued.{Queued}
use Rattle.nt_apc.specs.Queues.{apc_queue_of, has_apc, is_queued, pushed, withdrawn, cleared, oldest, oldest_taken, apc_of}
use Rattle.nt_calls.specs.declared.call.Call.{Call}
use Rattle.nt_calls.specs.declared.call.Act.{Act}
use Rattle.nt_calls.specs.declared.call.WaitCall.{WaitCall}
use Rattle.nt_calls.specs.declared.call.Reply.{Reply}
use Rattle.nt_calls.specs.State.{State, object_at, with_object, with_handing}

-- the state with one object changed
abbrev pub at : State → ℕ → (Object → Object) → State
at s h f = record s { objects = with_object s.objects h f }

-- one handle more, with the next number (Win32 reference: DuplicateHandle)
abbrev pub opened_too : State → ℕ → ℕ → State
opened_too s object access = record s { handles = s.handles ++ Some (record { object = object; access = access }) ∷ [] }

-- the handle names nothing any more, and no other gets its number (Win32 reference: CloseHandle)
abbrev pub handle_closed : State → ℕ → State
handle_closed s h = record s { handles = slice_set s.handles h None }

-- one object more, with the next number, and a handle of it with all rights that its kind has
abbrev pub created : State → Object → State
created s o = opened_too (record s { objects = s.objects ++ o ∷ [] }) (length s.objects) (full_access o)

-- ---- timers (Win32 reference: SetWaitableTimer, CancelWaitableTimer)

-- the APC that a timer's expiry queues, unless one of its is queued already
abbrev pub notified : List (List Queued) → ℕ → ℕ → Option Routine → List (List Queued)
notified apcs timer due None = apcs
notified apcs timer due (Some r) =
    if is_queued apcs timer
    then apcs
    else pushed apcs r.thread (record { apc = record { routine = r.routine; arg = r.arg; at = Some due }; timer = Some timer })

abbrev pub expired_as : State → ℕ → ℕ → Option Armed → State
expired_as s v timer None = s
expired_as s v timer (Some armed) =
    record s {
      objects = with_object s.objects timer (λ o. armed_with (rearmed v armed) (with_set true o));
      apcs = notified s.apcs timer armed.due armed.routine;
    }

-- the timer expires, seen from moment v: it is set, its APC queued, and it is armed anew where it has a period
abbrev pub expired : ℕ → State → ℕ → State
expired v s timer = expired_as s v timer (setting_of (object_at s.objects timer))

abbrev pub all_expired : ℕ → State → List ℕ → State
all_expired v s [] = s
all_expired v s (timer ∷ timers) = all_expired v (expired v s timer) timers

-- the timer of this number is armed for this moment
abbrev pub IsTimerDue : State → ℕ → ℕ → Type 0
IsTimerDue s u h = due_of (object_at s.objects h) ≡ Some u

-- the due moment of a due time in units of 100 ns: from now on where it is negative
abbrev pub due_moment : ℕ → ℤ → ℕ
due_moment now (pos moment) = moment
due_moment now (negsuc n) = now + (n + 1)

abbrev pub routine_for : ℕ → Option (ℕ × ℕ) → Option Routine
routine_for t None = None
routine_for t (Some r) = Some (record { routine = r.0; arg = r.1; thread = t })

-- the timer is stopped, its queued APC withdrawn, not set, and armed anew
abbrev pub armed_anew : State → ℕ → Armed → State
armed_anew s timer armed =
    record s {
      objects = with_object s.objects timer (λ o. armed_with (Some armed) (with_set false o));
      apcs = withdrawn s.apcs timer;
    }

-- where the due moment is not ahead, it expires at once
abbrev pub timer_set : State → ℕ → Armed → State
timer_set s timer armed =
    if nat_le armed.due s.now
    then expired s.now (armed_anew s timer armed) timer
    else armed_anew s timer armed

-- the timer is stopped, and its queued APC withdrawn; whether it is set stays
abbrev pub timer_cancelled : State → ℕ → State
timer_cancelled s timer =
    record s { objects = with_object s.objects timer (armed_with None); apcs = withdrawn s.apcs timer }

-- ---- APCs (Win32 reference: QueueUserAPC)

abbrev pub apc_queued : State → ℕ → ℕ → ℕ → State
apc_queued s t routine arg =
    record s { apcs = pushed s.apcs t (record { apc = record { routine = routine; arg = arg; at = None }; timer = None }) }

-- t's last ended wait ended for its APCs, it has taken APCs since without finding none, and one is queued
abbrev pub may_take : State → ℕ → Bool
may_take s t = slice_index_or s.handing t false && has_apc s.apcs t

-- t takes its oldest APC, or finds none
abbrev pub apc_taken : State → ℕ → State
apc_taken s t =
    if may_take s t
    then record s { apcs = oldest_taken s.apcs t }
    else with_handing s t false

-- what it finds
abbrev pub apc_answered : State → ℕ → Reply
apc_answered s t = Reply.Apc (if may_take s t then apc_of (oldest (apc_queue_of s.apcs t)) else None)

-- ---- signals of SignalObjectAndWait, and exit (Win32 reference: SignalObjectAndWait, Mutex Objects)

-- an event is set, a semaphore released by one, a mutex released once
abbrev pub signal : Object → Object
signal (Event manual set) = Event manual true
signal (Semaphore count maximum) = released (pos 1) (Semaphore count maximum)
signal (Mutex owner depth abandoned) = unlocked (Mutex owner depth abandoned)
signal o = o

-- thread t ends: its mutexes are free and marked, its timers with a routine stop, its APCs are gone, its object is signaled
abbrev pub exited : State → ℕ → State
exited s t =
    record s {
      objects = slice_set (map (λ o. unset_by t (abandoned_by t o)) s.objects) t (Thread true);
      apcs = cleared s.apcs t;
    }

-- ---- the table of calls

abbrev pub act_change : State → ℕ → Act → State
act_change s t (Act.CreateEvent flags) = created s (event_of flags)
act_change s t (Act.CreateSemaphore initial maximum) = created s (Semaphore initial maximum)
act_change s t (Act.CreateMutex flags) = created s (mutex_of flags t)
act_change s t (Act.SetEvent h) = at s h (with_set true)
act_change s t (Act.ResetEvent h) = at s h (with_set false)
act_change s t (Act.PulseEvent h) = at s h (with_set true)
act_change s t (Act.ReleaseSemaphore h n) = at s h (released n)
act_change s t (Act.ReleaseMutex h) = at s h unlocked
act_change s t (Act.CreateTimer flags) = created s (timer_of flags)
act_change s t (Act.SetTimer h due period routine) = timer_set s h (record { due = due_moment s.now due; period = unsigned_abs period; routine = routine_for t routine })
act_change s t (Act.CancelTimer h) = timer_cancelled s h
act_change s t (Act.QueueApc h routine arg) = apc_queued s h routine arg
act_change s t Act.NextApc = apc_taken s t
act_change s t (Act.Duplicate object access) = opened_too s object access
act_change s t (Act.Close h) = handle_closed s h

abbrev pub wait_change : State → WaitCall → State
wait_change s (WaitCall.Swap h object mode) = at s h signal
wait_change s (WaitCall.Objects all mode named) = s
wait_change s (WaitCall.Sleep mode) = s

-- what a call changes before waits are served
abbrev pub change : State → ℕ → Call → State
change s t (Call.Act act) = act_change s t act
change s t (Call.Wait wait) = wait_change s wait
change s t Call.Exit = exited s t

-- what a call that can't pend answers, by the state before it
abbrev pub act_reply : State → ℕ → Act → Reply
act_reply s t (Act.CreateEvent flags) = Reply.Handle (length s.handles)
act_reply s t (Act.CreateSemaphore initial maximum) = Reply.Handle (length s.handles)
act_reply s t (Act.CreateMutex flags) = Reply.Handle (length s.handles)
act_reply s t (Act.SetEvent h) = Reply.Done
act_reply s t (Act.ResetEvent h) = Reply.Done
act_reply s t (Act.PulseEvent h) = Reply.Done
act_reply s t (Act.ReleaseSemaphore h n) = Reply.Previous (count_of (object_at s.objects h))
act_reply s t (Act.ReleaseMutex h) = Reply.Done
act_reply s t (Act.CreateTimer flags) = Reply.Handle (length s.handles)
act_reply s t (Act.SetTimer h due period routine) = Reply.Done
act_reply s t (Act.CancelTimer h) = Reply.Done
act_reply s t (Act.QueueApc h routine arg) = Reply.Done
act_reply s t Act.NextApc = apc_answered s t
act_reply s t (Act.Duplicate object access) = Reply.Handle (length s.handles)
act_reply s t (Act.Close h) = Reply.Done
