-- What the handles of a call name. From there on all speaks of objects by their own numbers.
use Rattle.std.specs.Prelude.{ℕ, Bool, not, List, map, Option, Some, None}
use Rattle.nt_status.specs.declared.limits.TheConstants.{MAX_HANDLES}
use Rattle.nt_status.specs.Flags.{has_flag}
use Rattle.nt_tables.specs.declared.handles.Opened.{Opened}
use Rattle.nt_tables.specs.Handles.{opened_at}
use Rattle.nt_calls.specs.declared.call.Call.{Call}
use Rattle.nt_calls.specs.declared.call.Act.{Act}
use Rattle.nt_calls.specs.declared.call.WaitCall.{WaitCall}

-- a number that no object has, since the numbers of objects are below it
abbrev pub no_object : ℕ
no_object = MAX_HANDLES

-- the number of the object that is opened, and one that no object has where none is
abbrev pub object_in : Option Opened → ℕ
object_in None = no_object
object_in (Some opened) = opened.object

-- the number of the object that a handle names, and one that no object has where it names none
abbrev pub object_named : List (Option Opened) → ℕ → ℕ
object_named handles h = object_in (opened_at handles h)

-- the rights of a handle, and none where it names nothing
abbrev pub access_in : Option Opened → ℕ
access_in None = 0
access_in (Some opened) = opened.access

-- the handle has not each of these rights
abbrev pub lacks : ℕ → List (Option Opened) → ℕ → Bool
lacks access handles h = not (has_flag (access_in (opened_at handles h)) access)

-- ---- a call with the numbers of the objects in the place of their handles

-- the act, with the numbers of the objects in the place of their handles; creations name nothing, and Close is about the handle itself
abbrev pub act_named : List (Option Opened) → Act → Act
act_named handles (Act.CreateEvent flags) = Act.CreateEvent flags
act_named handles (Act.CreateSemaphore initial maximum) = Act.CreateSemaphore initial maximum
act_named handles (Act.CreateMutex flags) = Act.CreateMutex flags
act_named handles (Act.SetEvent h) = Act.SetEvent (object_named handles h)
act_named handles (Act.ResetEvent h) = Act.ResetEvent (object_named handles h)
act_named handles (Act.PulseEvent h) = Act.PulseEvent (object_named handles h)
act_named handles (Act.ReleaseSemaphore h n) = Act.ReleaseSemaphore (object_named handles h) n
act_named handles (Act.ReleaseMutex h) = Act.ReleaseMutex (object_named handles h)
act_named handles (Act.CreateTimer flags) = Act.CreateTimer flags
act_named handles (Act.SetTimer h due period routine) = Act.SetTimer (object_named handles h) due period routine
act_named handles (Act.CancelTimer h) = Act.CancelTimer (object_named handles h)
act_named handles (Act.QueueApc h routine arg) = Act.QueueApc (object_named handles h) routine arg
act_named handles Act.NextApc = Act.NextApc
act_named handles (Act.Duplicate h access) = Act.Duplicate (object_named handles h) access
act_named handles (Act.Close h) = Act.Close h

-- the wait, with the numbers of the objects in the place of their handles
abbrev pub wait_named : List (Option Opened) → WaitCall → WaitCall
wait_named handles (WaitCall.Objects all mode hs) = WaitCall.Objects all mode (map (object_named handles) hs)
wait_named handles (WaitCall.Sleep mode) = WaitCall.Sleep mode
wait_named handles (WaitCall.Swap h object mode) = WaitCall.Swap (object_named handles h) (object_named handles object) mode

-- the call, with the numbers of the objects in the place of their handles
abbrev pub call_named : List (Option Opened) → Call → Call
call_named handles (Call.Act act) = Call.Act (act_named handles act)
call_named handles (Call.Wait wait) = Call.Wait (wait_named handles wait)
call_named handles Call.Exit = Call.Exit
