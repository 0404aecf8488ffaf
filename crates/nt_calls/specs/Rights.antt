-- Which rights the handles of a call need (Win32 reference: Synchronization Object Security and Access Rights).
use Rattle.std.specs.Prelude.{ℕ, Bool, false, not, ◌&&◌, ◌||◌, List, Option}
use Rattle.std.specs.List.{list_any}
use Rattle.nt_status.specs.Access.{synchronize, modify_state, set_context}
use Rattle.nt_tables.specs.declared.handles.Opened.{Opened}
use Rattle.nt_objects.specs.declared.object.Object.{Object}
use Rattle.nt_objects.specs.Object.{is_mutex}
use Rattle.nt_calls.specs.declared.call.Call.{Call}
use Rattle.nt_calls.specs.declared.call.Act.{Act}
use Rattle.nt_calls.specs.declared.call.WaitCall.{WaitCall}
use Rattle.nt_calls.specs.Naming.{lacks, object_named}
use Rattle.nt_calls.specs.State.{State, object_at}

-- an act is denied where its handle lacks a right that the act needs; ReleaseMutex and Close need none,
-- and a duplicate those that it is to have
abbrev pub act_denied : List (Option Opened) → Act → Bool
act_denied handles (Act.CreateEvent flags) = false
act_denied handles (Act.CreateSemaphore initial maximum) = false
act_denied handles (Act.CreateMutex flags) = false
act_denied handles (Act.SetEvent h) = lacks modify_state handles h
act_denied handles (Act.ResetEvent h) = lacks modify_state handles h
act_denied handles (Act.PulseEvent h) = lacks modify_state handles h
act_denied handles (Act.ReleaseSemaphore h n) = lacks modify_state handles h
act_denied handles (Act.ReleaseMutex h) = false
act_denied handles (Act.CreateTimer flags) = false
act_denied handles (Act.SetTimer h due period routine) = lacks modify_state handles h
act_denied handles (Act.CancelTimer h) = lacks modify_state handles h
act_denied handles (Act.QueueApc h routine arg) = lacks set_context handles h
act_denied handles Act.NextApc = false
act_denied handles (Act.Duplicate h access) = lacks access handles h
act_denied handles (Act.Close h) = false

-- to signal an event or a semaphore needs a right, to release a mutex none
abbrev pub signal_denied : List (Option Opened) → List Object → ℕ → Bool
signal_denied handles objects h = not (is_mutex (object_at objects (object_named handles h))) && lacks modify_state handles h

-- each object that is waited for needs a right
abbrev pub wait_denied : List (Option Opened) → List Object → WaitCall → Bool
wait_denied handles objects (WaitCall.Objects all mode hs) = list_any (lacks synchronize handles) hs
wait_denied handles objects (WaitCall.Sleep mode) = false
wait_denied handles objects (WaitCall.Swap h object mode) = signal_denied handles objects h || lacks synchronize handles object

-- whether a handle of the call lacks a right that the call needs
abbrev pub is_denied : State → Call → Bool
is_denied s (Call.Act act) = act_denied s.handles act
is_denied s (Call.Wait wait) = wait_denied s.handles s.objects wait
is_denied s Call.Exit = false
