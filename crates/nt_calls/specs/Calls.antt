-- What a call alone says.
use Rattle.std.specs.Prelude.{ℕ, Bool, true, false, [], ◌∷◌, is_some}
use Rattle.nt_waits.specs.declared.wait.Wait.{Wait}
use Rattle.nt_calls.specs.declared.call.Act.{Act}
use Rattle.nt_calls.specs.declared.call.WaitCall.{WaitCall}
use Rattle.nt_calls.specs.State.{deadline_after}

-- the acts that may want memory: creations, duplicates, queued APCs, and timers set with a routine, whose APC gets a place
abbrev pub act_grows : Act → Bool
act_grows (Act.CreateEvent flags) = true
act_grows (Act.CreateSemaphore initial maximum) = true
act_grows (Act.CreateMutex flags) = true
act_grows (Act.SetEvent event) = false
act_grows (Act.ResetEvent event) = false
act_grows (Act.PulseEvent event) = false
act_grows (Act.ReleaseSemaphore semaphore count) = false
act_grows (Act.ReleaseMutex mutex) = false
act_grows (Act.CreateTimer flags) = true
act_grows (Act.SetTimer timer due period routine) = is_some routine
act_grows (Act.CancelTimer timer) = false
act_grows (Act.QueueApc thread routine arg) = true
act_grows Act.NextApc = false
act_grows (Act.Duplicate h access) = true
act_grows (Act.Close h) = false

-- the timeout that a waiting call names, in milliseconds
abbrev pub timeout_of : WaitCall → ℕ
timeout_of (WaitCall.Objects all mode handles) = mode.ms
timeout_of (WaitCall.Sleep mode) = mode.ms
timeout_of (WaitCall.Swap h object mode) = mode.ms

-- the wait that a waiting call asks for at this moment
abbrev pub asked_wait : ℕ → WaitCall → Wait
asked_wait now (WaitCall.Objects all mode named) = record { objects = named; all = all; alertable = mode.alertable; deadline = deadline_after now mode.ms }
asked_wait now (WaitCall.Sleep mode) = record { objects = []; all = false; alertable = mode.alertable; deadline = deadline_after now mode.ms }
asked_wait now (WaitCall.Swap h object mode) = record { objects = object ∷ []; all = false; alertable = mode.alertable; deadline = deadline_after now mode.ms }
