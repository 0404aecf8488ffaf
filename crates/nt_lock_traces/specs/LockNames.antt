-- The names of the lock's events: those of the protocol's steps, with what a step of one kind does in two ways told apart.
use Rattle.std.specs.Prelude.{ℕ, List, codes, ◌≢◌}
use Rattle.nt_lock_traces.specs.declared.lock.Frame.{Frame}
use Rattle.nt_lock_traces.specs.declared.lock_kinds.LockKind.{LockKind}
use Rattle.nt_lock_traces.specs.declared.lock_kinds.HandlingStep.{HandlingStep}
use Rattle.nt_lock_traces.specs.declared.lock_kinds.FavouredStep.{FavouredStep}
use Rattle.nt_lock_traces.specs.declared.lock_kinds.TakingStep.{TakingStep}
use Rattle.nt_lock_traces.specs.declared.lock_kinds.SleepingStep.{SleepingStep}
use Rattle.nt_lock_traces.specs.declared.lock_kinds.RevokingStep.{RevokingStep}
use Rattle.nt_lock_traces.specs.declared.lock_kinds.OwningStep.{OwningStep}
use Rattle.nt_lock_traces.specs.declared.lock_kinds.ArrivingStep.{ArrivingStep}

abbrev pub favoured_text : FavouredStep → List ℕ
favoured_text FavouredStep.SeesFavour = codes "SeesFavour"
favoured_text FavouredStep.StoresInside = codes "StoresInside"
favoured_text FavouredStep.Enters = codes "Enters"
favoured_text FavouredStep.MissesFavour = codes "MissesFavour"
favoured_text FavouredStep.StepsBack = codes "StepsBack"
favoured_text FavouredStep.StepsOut = codes "StepsOut"
favoured_text FavouredStep.KeepsFavour = codes "KeepsFavour"
favoured_text FavouredStep.FindsRevoked = codes "FindsRevoked"
favoured_text FavouredStep.WakesRevoker = codes "WakesRevoker"
favoured_text FavouredStep.WakesNoRevoker = codes "WakesNoRevoker"

abbrev pub taking_text : TakingStep → List ℕ
taking_text TakingStep.Asks = codes "Asks"
taking_text TakingStep.TakesFree = codes "TakesFree"
taking_text TakingStep.TriesFree = codes "TriesFree"
taking_text TakingStep.Revokes = codes "Revokes"
taking_text TakingStep.TriesFavoured = codes "TriesFavoured"
taking_text TakingStep.StopsLooking = codes "StopsLooking"
taking_text TakingStep.MarksFree = codes "MarksFree"
taking_text TakingStep.MarksFavoured = codes "MarksFavoured"
taking_text TakingStep.MarksHeld = codes "MarksHeld"

abbrev pub sleeping_text : SleepingStep → List ℕ
sleeping_text SleepingStep.PaysOne = codes "PaysOne"
sleeping_text SleepingStep.PaysNobody = codes "PaysNobody"
sleeping_text SleepingStep.FallsAsleep = codes "FallsAsleep"
sleeping_text SleepingStep.FindsUnwanted = codes "FindsUnwanted"
sleeping_text SleepingStep.Stirs = codes "Stirs"
sleeping_text SleepingStep.Restarts = codes "Restarts"

abbrev pub revoking_text : RevokingStep → List ℕ
revoking_text RevokingStep.PassesBarrier = codes "PassesBarrier"
revoking_text RevokingStep.PassesBarrierOnce = codes "PassesBarrierOnce"
revoking_text RevokingStep.FindsOutside = codes "FindsOutside"
revoking_text RevokingStep.FindsOutsideOnce = codes "FindsOutsideOnce"
revoking_text RevokingStep.FindsInside = codes "FindsInside"
revoking_text RevokingStep.Declines = codes "Declines"
revoking_text RevokingStep.FallsAsleepOn = codes "FallsAsleepOn"
revoking_text RevokingStep.FindsLeft = codes "FindsLeft"
revoking_text RevokingStep.StirsOn = codes "StirsOn"
revoking_text RevokingStep.RestartsOn = codes "RestartsOn"
revoking_text RevokingStep.PutsBack = codes "PutsBack"

abbrev pub owning_text : OwningStep → List ℕ
owning_text OwningStep.StoresFirst = codes "StoresFirst"
owning_text OwningStep.GainsFavour = codes "GainsFavour"
owning_text OwningStep.MissesTaken = codes "MissesTaken"
owning_text OwningStep.UnstoresInside = codes "UnstoresInside"
owning_text OwningStep.GivesBack = codes "GivesBack"
owning_text OwningStep.WakesOne = codes "WakesOne"
owning_text OwningStep.WakesNobody = codes "WakesNobody"

abbrev pub arriving_text : ArrivingStep → List ℕ
arriving_text ArrivingStep.SetArrives = codes "SetArrives"
arriving_text ArrivingStep.ClearArrives = codes "ClearArrives"

abbrev pub interrupts_text : Frame → List ℕ
interrupts_text Frame.AtStore = codes "InterruptsAtStore"
interrupts_text Frame.AtReload = codes "InterruptsAtReload"
interrupts_text Frame.AtWakeRevoker = codes "InterruptsAtWakeRevoker"
interrupts_text Frame.AtMark = codes "InterruptsAtMark"
interrupts_text Frame.AtPay = codes "InterruptsAtPay"
interrupts_text Frame.AtSleep = codes "InterruptsAtSleep"
interrupts_text Frame.AtWake = codes "InterruptsAtWake"

abbrev pub resumes_text : Frame → List ℕ
resumes_text Frame.AtStore = codes "ResumesAtStore"
resumes_text Frame.AtReload = codes "ResumesAtReload"
resumes_text Frame.AtWakeRevoker = codes "ResumesAtWakeRevoker"
resumes_text Frame.AtMark = codes "ResumesAtMark"
resumes_text Frame.AtPay = codes "ResumesAtPay"
resumes_text Frame.AtSleep = codes "ResumesAtSleep"
resumes_text Frame.AtWake = codes "ResumesAtWake"

abbrev pub handling_text : HandlingStep → List ℕ
handling_text (HandlingStep.Interrupts frame) = interrupts_text frame
handling_text (HandlingStep.Resumes frame) = resumes_text frame

abbrev pub kind_text : LockKind → List ℕ
kind_text (LockKind.Favoured step) = favoured_text step
kind_text (LockKind.Taking step) = taking_text step
kind_text (LockKind.Sleeping step) = sleeping_text step
kind_text (LockKind.Revoking step) = revoking_text step
kind_text (LockKind.Owning step) = owning_text step
kind_text (LockKind.Arriving step) = arriving_text step
kind_text (LockKind.Handling step) = handling_text step

-- no kind has this name
abbrev pub IsNoName : List ℕ → Type 0
IsNoName name = (kind : LockKind) → kind_text kind ≢ name
