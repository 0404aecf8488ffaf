-- Two calls that touch nothing in common, kind by kind, and that these commute.
use Rattle.std.specs.Prelude.{Contains, ◌≡◌, ◌≢◌, ℕ, Bool, true, false, List, Some, Ok, ◌⊎◌, not, nat_le}
use Rattle.std.specs.FinMap.{get}
use Rattle.nt_objects.specs.declared.object.Object.{Object}
use Rattle.nt_waits.specs.declared.wait.Wait.{Wait}
use Rattle.nt_calls.specs.declared.call.Call.{Call}
use Rattle.nt_calls.specs.declared.call.Act.{Act}
use Rattle.nt_calls.specs.declared.call.WaitCall.{WaitCall}
use Rattle.nt_calls.specs.declared.call.Reply.{Reply}
use Rattle.nt_calls.specs.declared.call.Grant.{Grant}
use Rattle.nt_calls.specs.State.{State, wait_names}
use Rattle.nt_calls.specs.Serving.{IsServed, IsAlerted}
use Rattle.nt_calls.specs.Change.{at, due_moment}
use Rattle.nt_calls.specs.Living.{LivesWhileKept}
use Rattle.nt_calls.specs.Naming.{act_named}
use Rattle.nt_calls.specs.Steps.{Step, Called, begun, asked_wait}

-- ---- acts that change one object

-- the act changes one object, and nothing else but the waits on it
abbrev pub changes_one : Act → Bool
changes_one (Act.SetEvent h) = true
changes_one (Act.ResetEvent h) = true
changes_one (Act.ReleaseSemaphore h n) = true
changes_one (Act.ReleaseMutex h) = true
changes_one _ = false

-- the number of that object
abbrev pub changed_one : Act → ℕ
changed_one (Act.SetEvent h) = h
changed_one (Act.ResetEvent h) = h
changed_one (Act.ReleaseSemaphore h n) = h
changed_one (Act.ReleaseMutex h) = h
changed_one _ = 0

-- no pending wait names the object
abbrev pub IsUnawaited : State → ℕ → Type 0
IsUnawaited s h = (t : ℕ) (w : Wait) → get s.waits t ≡ Some w → wait_names w h ≡ false

-- between two calls no pending wait fits, and none is to be alerted
pub record IsQuiet (s : State) : Type 0 where
  pub served : IsServed s
  pub calm : (t : ℕ) → IsAlerted s t → ⊥

-- ---- steps

-- two such acts are steps, one after the other, on two objects that no pending wait names
pub record AreStepsOnTwoObjects (s mid new : State) (t u : ℕ) (a b : Act) (ra rb : Reply) (ga gb : List Grant) : Type 0 where
  pub quiet : IsQuiet s
  pub first_kind : changes_one a ≡ true
  pub second_kind : changes_one b ≡ true
  pub differ : changed_one a ≢ changed_one b
  pub first_free : IsUnawaited s (changed_one a)
  pub second_free : IsUnawaited s (changed_one b)
  pub first : Step s t (Call.Act a) ra ga mid
  pub second : Step mid u (Call.Act b) rb gb new

-- they are steps in the other order too: with the same replies, the same waits ended by each, and the same state after both
pub record StepsGoOtherwise (s new : State) (t u : ℕ) (a b : Act) (ra rb : Reply) (ga gb : List Grant) : Type 0 where
  pub mid : State
  pub first : Step s u (Call.Act b) rb gb mid
  pub second : Step mid t (Call.Act a) ra ga new

-- such steps commute
abbrev pub ChangesOfTwoObjectsCommute : Type 0
ChangesOfTwoObjectsCommute =
    (s mid new : State) (t u : ℕ) (a b : Act) (ra rb : Reply) (ga gb : List Grant)
    → AreStepsOnTwoObjects s mid new t u a b ra rb ga gb
    → StepsGoOtherwise s new t u a b ra rb ga gb

-- two such acts are steps, of which the first may end waits: no pending wait names the object of the second
pub record AreStepsOfWhichOneWakes (s mid new : State) (t u : ℕ) (a b : Act) (ra rb : Reply) (ga gb : List Grant) : Type 0 where
  pub quiet : IsQuiet s
  pub first_kind : changes_one a ≡ true
  pub second_kind : changes_one b ≡ true
  pub differ : changed_one a ≢ changed_one b
  pub second_free : IsUnawaited s (changed_one b)
  pub first : Step s t (Call.Act a) ra ga mid
  pub second : Step mid u (Call.Act b) rb gb new

-- these commute too
abbrev pub WakingCommutes : Type 0
WakingCommutes =
    (s mid new : State) (t u : ℕ) (a b : Act) (ra rb : Reply) (ga gb : List Grant)
    → AreStepsOfWhichOneWakes s mid new t u a b ra rb ga gb
    → StepsGoOtherwise s new t u a b ra rb ga gb

-- ---- whole calls

-- two such acts are accepted, one after the other, by handles of two objects that no pending wait names
pub record AreCallsOnTwoObjects (s mid new : State) (t u : ℕ) (a b : Act) (ra rb : Reply) (ga gb : List Grant) : Type 0 where
  pub quiet : IsQuiet s
  pub living : LivesWhileKept s
  pub first_kind : changes_one (act_named s.handles a) ≡ true
  pub second_kind : changes_one (act_named s.handles b) ≡ true
  pub differ : changed_one (act_named s.handles a) ≢ changed_one (act_named s.handles b)
  pub first_free : IsUnawaited s (changed_one (act_named s.handles a))
  pub second_free : IsUnawaited s (changed_one (act_named s.handles b))
  pub first : Called s t (Call.Act a) (Ok ra) ga mid
  pub second : Called mid u (Call.Act b) (Ok rb) gb new

-- they are accepted in the other order too: with the same replies, the same waits ended by each, and the same state after both
pub record CallsGoOtherwise (s new : State) (t u : ℕ) (a b : Act) (ra rb : Reply) (ga gb : List Grant) : Type 0 where
  pub mid : State
  pub first : Called s u (Call.Act b) (Ok rb) gb mid
  pub second : Called mid t (Call.Act a) (Ok ra) ga new

-- such calls commute, with the end of objects that nothing keeps
abbrev pub CallsOnTwoObjectsCommute : Type 0
CallsOnTwoObjectsCommute =
    (s mid new : State) (t u : ℕ) (a b : Act) (ra rb : Reply) (ga gb : List Grant)
    → AreCallsOnTwoObjects s mid new t u a b ra rb ga gb
    → CallsGoOtherwise s new t u a b ra rb ga gb

-- ---- waits that begin

-- no object of the first wait is one of the second
abbrev pub NameNothingInCommon : Wait → Wait → Type 0
NameNothingInCommon v w = (o : ℕ) → Contains v.objects o → wait_names w o ≡ false

-- one thread's wait begins, and then another's: where they name no object in common, each is answered as alone, and their order does not matter
abbrev pub WaitsBeginInEitherOrder : Type 0
WaitsBeginInEitherOrder =
    (s : State) (t u : ℕ) (v w : Wait) (m n : ℕ)
    → t ≢ u → NameNothingInCommon v w → NameNothingInCommon w v
    → ((begun (begun s t v m).1 u w n).0 ≡ (begun s u w n).0)
    × ((begun (begun s u w n).1 t v m).0 ≡ (begun s t v m).0)
    × ((begun (begun s t v m).1 u w n).1 ≡ (begun (begun s u w n).1 t v m).1)

-- an object is changed, and then a wait begins that does not name it: it is answered as alone, and their order does not matter
abbrev pub WaitsBeginBesideChanges : Type 0
WaitsBeginBesideChanges =
    (s : State) (t h : ℕ) (w : Wait) (ms : ℕ) (f : Object → Object)
    → wait_names w h ≡ false
    → ((begun (at s h f) t w ms).0 ≡ (begun s t w ms).0)
    × ((begun (at s h f) t w ms).1 ≡ at (begun s t w ms).1 h f)

-- ---- a wait and a change, as steps

-- the call waits, and signals no object before
abbrev pub only_waits : WaitCall → Bool
only_waits (WaitCall.Objects all mode handles) = true
only_waits (WaitCall.Sleep mode) = true
only_waits (WaitCall.Swap signal object mode) = false

-- an act is a step, on an object that no pending wait names, and then a wait, which does not name it either
pub record AreChangeAndWait (s mid new : State) (t u : ℕ) (a : Act) (wait : WaitCall) (ra rb : Reply) (ga gb : List Grant) : Type 0 where
  pub quiet : IsQuiet s
  pub kind : changes_one a ≡ true
  pub waits : only_waits wait ≡ true
  pub free : IsUnawaited s (changed_one a)
  pub unnamed : wait_names (asked_wait s.now wait) (changed_one a) ≡ false
  pub first : Step s t (Call.Act a) ra ga mid
  pub second : Step mid u (Call.Wait wait) rb gb new

-- they are steps in the other order too, with the same replies and grants, and the same state after both
pub record WaitGoesFirst (s new : State) (t u : ℕ) (a : Act) (wait : WaitCall) (ra rb : Reply) (ga gb : List Grant) : Type 0 where
  pub mid : State
  pub first : Step s u (Call.Wait wait) rb gb mid
  pub second : Step mid t (Call.Act a) ra ga new

-- such steps commute
abbrev pub WaitsCommuteWithChanges : Type 0
WaitsCommuteWithChanges =
    (s mid new : State) (t u : ℕ) (a : Act) (wait : WaitCall) (ra rb : Reply) (ga gb : List Grant)
    → AreChangeAndWait s mid new t u a wait ra rb ga gb
    → WaitGoesFirst s new t u a wait ra rb ga gb

-- the act signals one object or unsets it, and touches all else only by the waits that it ends
abbrev pub signals_one : Act → Bool
signals_one (Act.SetEvent h) = true
signals_one (Act.ResetEvent h) = true
signals_one (Act.PulseEvent h) = true
signals_one (Act.ReleaseSemaphore h n) = true
signals_one (Act.ReleaseMutex h) = true
signals_one _ = false

-- the number of that object
abbrev pub signaled_one : Act → ℕ
signaled_one (Act.SetEvent h) = h
signaled_one (Act.ResetEvent h) = h
signaled_one (Act.PulseEvent h) = h
signaled_one (Act.ReleaseSemaphore h n) = h
signaled_one (Act.ReleaseMutex h) = h
signaled_one _ = 0

-- o is within reach of h: it is h, or some pending wait names both
abbrev pub IsInReach : State → ℕ → ℕ → Type 0
IsInReach s h o = (o ≡ h) ⊎ ((t : ℕ) × (w : Wait) × (get s.waits t ≡ Some w) × (wait_names w h ≡ true) × (wait_names w o ≡ true))

-- o is not within reach of h
abbrev pub IsOutOfReach : State → ℕ → ℕ → Type 0
IsOutOfReach s h o = IsInReach s h o → ⊥

-- no object is within reach of both
abbrev pub ReachNothingInCommon : State → ℕ → ℕ → Type 0
ReachNothingInCommon s h k = (o : ℕ) → IsInReach s h o → IsInReach s k o → ⊥

-- two such acts are steps, one after the other, and each may end waits: no object is within reach of the objects of both
pub record AreStepsThatWake (s mid new : State) (t u : ℕ) (a b : Act) (ra rb : Reply) (ga gb : List Grant) : Type 0 where
  pub quiet : IsQuiet s
  pub first_kind : signals_one a ≡ true
  pub second_kind : signals_one b ≡ true
  pub apart : ReachNothingInCommon s (signaled_one a) (signaled_one b)
  pub first : Step s t (Call.Act a) ra ga mid
  pub second : Step mid u (Call.Act b) rb gb new

-- such steps commute
abbrev pub SignalsCommute : Type 0
SignalsCommute =
    (s mid new : State) (t u : ℕ) (a b : Act) (ra rb : Reply) (ga gb : List Grant)
    → AreStepsThatWake s mid new t u a b ra rb ga gb
    → StepsGoOtherwise s new t u a b ra rb ga gb

-- the act queues an APC to a thread
abbrev pub queues_one : Act → Bool
queues_one (Act.QueueApc h routine arg) = true
queues_one _ = false

-- the number of that thread
abbrev pub queued_to : Act → ℕ
queued_to (Act.QueueApc h routine arg) = h
queued_to _ = 0

-- two such acts are steps, one after the other, to two threads; each may end the wait of its thread
pub record AreApcsToTwoThreads (s mid new : State) (t u : ℕ) (a b : Act) (ra rb : Reply) (ga gb : List Grant) : Type 0 where
  pub quiet : IsQuiet s
  pub first_kind : queues_one a ≡ true
  pub second_kind : queues_one b ≡ true
  pub differ : queued_to a ≢ queued_to b
  pub first : Step s t (Call.Act a) ra ga mid
  pub second : Step mid u (Call.Act b) rb gb new

-- such steps commute
abbrev pub ApcsToTwoThreadsCommute : Type 0
ApcsToTwoThreadsCommute =
    (s mid new : State) (t u : ℕ) (a b : Act) (ra rb : Reply) (ga gb : List Grant)
    → AreApcsToTwoThreads s mid new t u a b ra rb ga gb
    → StepsGoOtherwise s new t u a b ra rb ga gb

-- ---- beside an act that may end waits of other threads

-- no wait of thread k pends that names object h
abbrev pub WaitsNotFor : State → ℕ → ℕ → Type 0
WaitsNotFor s k h = (w : Wait) → get s.waits k ≡ Some w → wait_names w h ≡ false

-- an act on one object is a step, and then an APC is queued to a thread that does not wait for that object
pub record AreSignalAndApc (s mid new : State) (t u : ℕ) (a b : Act) (ra rb : Reply) (ga gb : List Grant) : Type 0 where
  pub quiet : IsQuiet s
  pub first_kind : signals_one a ≡ true
  pub second_kind : queues_one b ≡ true
  pub apart : WaitsNotFor s (queued_to b) (signaled_one a)
  pub first : Step s t (Call.Act a) ra ga mid
  pub second : Step mid u (Call.Act b) rb gb new

-- such steps commute
abbrev pub SignalsCommuteWithApcs : Type 0
SignalsCommuteWithApcs =
    (s mid new : State) (t u : ℕ) (a b : Act) (ra rb : Reply) (ga gb : List Grant)
    → AreSignalAndApc s mid new t u a b ra rb ga gb
    → StepsGoOtherwise s new t u a b ra rb ga gb

-- the APC is queued first, and then the act is a step
pub record AreApcAndSignal (s mid new : State) (t u : ℕ) (b a : Act) (rb ra : Reply) (gb ga : List Grant) : Type 0 where
  pub quiet : IsQuiet s
  pub first_kind : queues_one b ≡ true
  pub second_kind : signals_one a ≡ true
  pub apart : WaitsNotFor s (queued_to b) (signaled_one a)
  pub first : Step s t (Call.Act b) rb gb mid
  pub second : Step mid u (Call.Act a) ra ga new

-- such steps commute too
abbrev pub ApcsCommuteWithSignals : Type 0
ApcsCommuteWithSignals =
    (s mid new : State) (t u : ℕ) (b a : Act) (rb ra : Reply) (gb ga : List Grant)
    → AreApcAndSignal s mid new t u b a rb ra gb ga
    → StepsGoOtherwise s new t u b a rb ra gb ga

-- at this moment the act sets a timer for a later one, or cancels a timer
abbrev pub times_one : ℕ → Act → Bool
times_one now (Act.SetTimer h due period routine) = not (nat_le (due_moment now due) now)
times_one now (Act.CancelTimer h) = true
times_one now _ = false

-- the number of that timer
abbrev pub timed_one : Act → ℕ
timed_one (Act.SetTimer h due period routine) = h
timed_one (Act.CancelTimer h) = h
timed_one _ = 0

-- two such acts are steps, one after the other, on two timers; waits for these may pend, and their APCs be queued
pub record AreStepsOnTwoTimers (s mid new : State) (t u : ℕ) (a b : Act) (ra rb : Reply) (ga gb : List Grant) : Type 0 where
  pub quiet : IsQuiet s
  pub first_kind : times_one s.now a ≡ true
  pub second_kind : times_one s.now b ≡ true
  pub differ : timed_one a ≢ timed_one b
  pub first : Step s t (Call.Act a) ra ga mid
  pub second : Step mid u (Call.Act b) rb gb new

-- such steps commute
abbrev pub TwoTimersCommute : Type 0
TwoTimersCommute =
    (s mid new : State) (t u : ℕ) (a b : Act) (ra rb : Reply) (ga gb : List Grant)
    → AreStepsOnTwoTimers s mid new t u a b ra rb ga gb
    → StepsGoOtherwise s new t u a b ra rb ga gb

-- ---- beside an act that may end waits

-- an act on one object is a step, and then a timer is set for later or cancelled that is not within reach of that object
pub record AreSignalAndTimer (s mid new : State) (t u : ℕ) (a b : Act) (ra rb : Reply) (ga gb : List Grant) : Type 0 where
  pub quiet : IsQuiet s
  pub first_kind : signals_one a ≡ true
  pub second_kind : times_one s.now b ≡ true
  pub apart : IsOutOfReach s (signaled_one a) (timed_one b)
  pub first : Step s t (Call.Act a) ra ga mid
  pub second : Step mid u (Call.Act b) rb gb new

-- such steps commute
abbrev pub SignalsCommuteWithTimers : Type 0
SignalsCommuteWithTimers =
    (s mid new : State) (t u : ℕ) (a b : Act) (ra rb : Reply) (ga gb : List Grant)
    → AreSignalAndTimer s mid new t u a b ra rb ga gb
    → StepsGoOtherwise s new t u a b ra rb ga gb

-- the timer is set or cancelled first, and then the act is a step
pub record AreTimerAndSignal (s mid new : State) (t u : ℕ) (b a : Act) (rb ra : Reply) (gb ga : List Grant) : Type 0 where
  pub quiet : IsQuiet s
  pub first_kind : times_one s.now b ≡ true
  pub second_kind : signals_one a ≡ true
  pub apart : IsOutOfReach s (signaled_one a) (timed_one b)
  pub first : Step s t (Call.Act b) rb gb mid
  pub second : Step mid u (Call.Act a) ra ga new

-- such steps commute too
abbrev pub TimersCommuteWithSignals : Type 0
TimersCommuteWithSignals =
    (s mid new : State) (t u : ℕ) (b a : Act) (rb ra : Reply) (gb ga : List Grant)
    → AreTimerAndSignal s mid new t u b a rb ra gb ga
    → StepsGoOtherwise s new t u b a rb ra gb ga
