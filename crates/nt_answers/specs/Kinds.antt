-- Which replies a call can have.
use Rattle.std.specs.Prelude.{Bool, Result}
use Rattle.nt_status.specs.declared.refusal.Refusal.{Refusal}
use Rattle.nt_calls.specs.declared.call.Act.{Act}
use Rattle.nt_calls.specs.declared.call.Call.{Call}
use Rattle.nt_calls.specs.declared.call.Reply.{Reply}
use Rattle.nt_answers.specs.Answers.{is_done, is_handle, is_previous, is_apc, is_began}

-- what a call has to tell: nothing, a handle, the count before, an APC or none, or how a wait began
pub data Kind : Type 0 where
  Done : Kind
  Handle : Kind
  Previous : Kind
  Apc : Kind
  Began : Kind

abbrev pub act_kind : Act → Kind
act_kind (Act.CreateEvent flags) = Handle
act_kind (Act.CreateSemaphore initial maximum) = Handle
act_kind (Act.CreateMutex flags) = Handle
act_kind (Act.SetEvent h) = Done
act_kind (Act.ResetEvent h) = Done
act_kind (Act.PulseEvent h) = Done
act_kind (Act.ReleaseSemaphore h n) = Previous
act_kind (Act.ReleaseMutex h) = Done
act_kind (Act.CreateTimer flags) = Handle
act_kind (Act.SetTimer h due period routine) = Done
act_kind (Act.CancelTimer h) = Done
act_kind (Act.QueueApc h routine arg) = Done
act_kind Act.NextApc = Apc
act_kind (Act.Duplicate h access) = Handle
act_kind (Act.Close h) = Done

abbrev pub kind_of : Call → Kind
kind_of (Call.Act act) = act_kind act
kind_of (Call.Wait wait) = Began
kind_of Call.Exit = Done

-- the result is a refusal, or a reply that tells this
abbrev pub tells_kind : Kind → Result Reply Refusal → Bool
tells_kind Done result = is_done result
tells_kind Handle result = is_handle result
tells_kind Previous result = is_previous result
tells_kind Apc result = is_apc result
tells_kind Began result = is_began result

-- the result is one that the call can have: a refusal, or a reply that tells what the call has to tell
abbrev pub is_answer : Call → Result Reply Refusal → Bool
is_answer call result = tells_kind (kind_of call) result
