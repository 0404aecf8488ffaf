-- Each kind of event stands in the list of names.
use Rattle.std.proofs.Common.{ℕ, ◌<◌, ◌≤◌, get_or, arith}
use Rattle.nt_lock_traces.specs.declared.lock.Frame.{Frame}
use Rattle.nt_lock_traces.specs.declared.lock_kinds.LockKind.{LockKind}
use Rattle.nt_lock_traces.specs.declared.lock_kinds.HandlingStep.{HandlingStep}
use Rattle.nt_lock_traces.specs.declared.lock_kinds.FavouredStep.{FavouredStep}
use Rattle.nt_lock_traces.specs.declared.lock_kinds.TakingStep.{TakingStep}
use Rattle.nt_lock_traces.specs.declared.lock_kinds.SleepingStep.{SleepingStep}
use Rattle.nt_lock_traces.specs.declared.lock_kinds.RevokingStep.{RevokingStep}
use Rattle.nt_lock_traces.specs.declared.lock_kinds.OwningStep.{OwningStep}
use Rattle.nt_lock_traces.specs.declared.lock_kinds.ArrivingStep.{ArrivingStep}
use Rattle.nt_lock_traces.specs.declared.lock_names.TheConstants.{KINDS}

-- what is read beyond the list
abbrev pub any_kind : LockKind
any_kind = LockKind.Favoured FavouredStep.SeesFavour

-- what holds of each that is listed holds of each kind
pub of_each_kind : (P : LockKind → Type 0) (n : ℕ) → 59 ≤ n
    → ((k : ℕ) → k < n → P (get_or KINDS k any_kind)) → (kind : LockKind) → P kind
of_each_kind P n all holds (LockKind.Taking TakingStep.Asks) = holds 0 (omega arith)
of_each_kind P n all holds (LockKind.Owning OwningStep.GivesBack) = holds 1 (omega arith)
of_each_kind P n all holds (LockKind.Taking TakingStep.TakesFree) = holds 2 (omega arith)
of_each_kind P n all holds (LockKind.Arriving ArrivingStep.SetArrives) = holds 3 (omega arith)
of_each_kind P n all holds (LockKind.Favoured FavouredStep.StepsOut) = holds 4 (omega arith)
of_each_kind P n all holds (LockKind.Favoured FavouredStep.KeepsFavour) = holds 5 (omega arith)
of_each_kind P n all holds (LockKind.Favoured FavouredStep.StoresInside) = holds 6 (omega arith)
of_each_kind P n all holds (LockKind.Favoured FavouredStep.SeesFavour) = holds 7 (omega arith)
of_each_kind P n all holds (LockKind.Favoured FavouredStep.Enters) = holds 8 (omega arith)
of_each_kind P n all holds (LockKind.Sleeping SleepingStep.PaysNobody) = holds 9 (omega arith)
of_each_kind P n all holds (LockKind.Taking TakingStep.MarksHeld) = holds 10 (omega arith)
of_each_kind P n all holds (LockKind.Sleeping SleepingStep.FallsAsleep) = holds 11 (omega arith)
of_each_kind P n all holds (LockKind.Owning OwningStep.WakesOne) = holds 12 (omega arith)
of_each_kind P n all holds (LockKind.Taking TakingStep.StopsLooking) = holds 13 (omega arith)
of_each_kind P n all holds (LockKind.Taking TakingStep.MarksFree) = holds 14 (omega arith)
of_each_kind P n all holds (LockKind.Favoured FavouredStep.MissesFavour) = holds 15 (omega arith)
of_each_kind P n all holds (LockKind.Favoured FavouredStep.StepsBack) = holds 16 (omega arith)
of_each_kind P n all holds (LockKind.Favoured FavouredStep.FindsRevoked) = holds 17 (omega arith)
of_each_kind P n all holds (LockKind.Favoured FavouredStep.WakesRevoker) = holds 18 (omega arith)
of_each_kind P n all holds (LockKind.Favoured FavouredStep.WakesNoRevoker) = holds 19 (omega arith)
of_each_kind P n all holds (LockKind.Taking TakingStep.TriesFree) = holds 20 (omega arith)
of_each_kind P n all holds (LockKind.Taking TakingStep.Revokes) = holds 21 (omega arith)
of_each_kind P n all holds (LockKind.Taking TakingStep.TriesFavoured) = holds 22 (omega arith)
of_each_kind P n all holds (LockKind.Taking TakingStep.MarksFavoured) = holds 23 (omega arith)
of_each_kind P n all holds (LockKind.Sleeping SleepingStep.PaysOne) = holds 24 (omega arith)
of_each_kind P n all holds (LockKind.Sleeping SleepingStep.FindsUnwanted) = holds 25 (omega arith)
of_each_kind P n all holds (LockKind.Sleeping SleepingStep.Stirs) = holds 26 (omega arith)
of_each_kind P n all holds (LockKind.Sleeping SleepingStep.Restarts) = holds 27 (omega arith)
of_each_kind P n all holds (LockKind.Revoking RevokingStep.PassesBarrier) = holds 28 (omega arith)
of_each_kind P n all holds (LockKind.Revoking RevokingStep.PassesBarrierOnce) = holds 29 (omega arith)
of_each_kind P n all holds (LockKind.Revoking RevokingStep.FindsOutside) = holds 30 (omega arith)
of_each_kind P n all holds (LockKind.Revoking RevokingStep.FindsOutsideOnce) = holds 31 (omega arith)
of_each_kind P n all holds (LockKind.Revoking RevokingStep.FindsInside) = holds 32 (omega arith)
of_each_kind P n all holds (LockKind.Revoking RevokingStep.Declines) = holds 33 (omega arith)
of_each_kind P n all holds (LockKind.Revoking RevokingStep.FallsAsleepOn) = holds 34 (omega arith)
of_each_kind P n all holds (LockKind.Revoking RevokingStep.FindsLeft) = holds 35 (omega arith)
of_each_kind P n all holds (LockKind.Revoking RevokingStep.StirsOn) = holds 36 (omega arith)
of_each_kind P n all holds (LockKind.Revoking RevokingStep.RestartsOn) = holds 37 (omega arith)
of_each_kind P n all holds (LockKind.Revoking RevokingStep.PutsBack) = holds 38 (omega arith)
of_each_kind P n all holds (LockKind.Owning OwningStep.StoresFirst) = holds 39 (omega arith)
of_each_kind P n all holds (LockKind.Owning OwningStep.GainsFavour) = holds 40 (omega arith)
of_each_kind P n all holds (LockKind.Owning OwningStep.MissesTaken) = holds 41 (omega arith)
of_each_kind P n all holds (LockKind.Owning OwningStep.UnstoresInside) = holds 42 (omega arith)
of_each_kind P n all holds (LockKind.Owning OwningStep.WakesNobody) = holds 43 (omega arith)
of_each_kind P n all holds (LockKind.Arriving ArrivingStep.ClearArrives) = holds 44 (omega arith)
of_each_kind P n all holds (LockKind.Handling (HandlingStep.Interrupts Frame.AtStore)) = holds 45 (omega arith)
of_each_kind P n all holds (LockKind.Handling (HandlingStep.Interrupts Frame.AtReload)) = holds 46 (omega arith)
of_each_kind P n all holds (LockKind.Handling (HandlingStep.Interrupts Frame.AtWakeRevoker)) = holds 47 (omega arith)
of_each_kind P n all holds (LockKind.Handling (HandlingStep.Interrupts Frame.AtMark)) = holds 48 (omega arith)
of_each_kind P n all holds (LockKind.Handling (HandlingStep.Interrupts Frame.AtPay)) = holds 49 (omega arith)
of_each_kind P n all holds (LockKind.Handling (HandlingStep.Interrupts Frame.AtSleep)) = holds 50 (omega arith)
of_each_kind P n all holds (LockKind.Handling (HandlingStep.Interrupts Frame.AtWake)) = holds 51 (omega arith)
of_each_kind P n all holds (LockKind.Handling (HandlingStep.Resumes Frame.AtStore)) = holds 52 (omega arith)
of_each_kind P n all holds (LockKind.Handling (HandlingStep.Resumes Frame.AtReload)) = holds 53 (omega arith)
of_each_kind P n all holds (LockKind.Handling (HandlingStep.Resumes Frame.AtWakeRevoker)) = holds 54 (omega arith)
of_each_kind P n all holds (LockKind.Handling (HandlingStep.Resumes Frame.AtMark)) = holds 55 (omega arith)
of_each_kind P n all holds (LockKind.Handling (HandlingStep.Resumes Frame.AtPay)) = holds 56 (omega arith)
of_each_kind P n all holds (LockKind.Handling (HandlingStep.Resumes Frame.AtSleep)) = holds 57 (omega arith)
of_each_kind P n all holds (LockKind.Handling (HandlingStep.Resumes Frame.AtWake)) = holds 58 (omega arith)
