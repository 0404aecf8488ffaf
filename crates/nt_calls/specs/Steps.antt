-- The steps of the machine.
use Rattle.std.specs.Prelude.{◌≡◌, ◌⊎◌, ℕ, ◌≤◌, ◌<◌, Bool, true, false, ◌&&◌, List, [], ◌∷◌, ◌++◌, if◌then◌else◌, ◌==◌}
use Rattle.std.specs.FinMap.{get}
use Rattle.std.specs.declared.option.Option.TheVariants.{None, Some}
use Rattle.std.specs.declared.result.Result.{Result}
use Rattle.std.specs.declared.result.Result.TheVariants.{Ok, Err}
use Rattle.nt_status.specs.declared.refusal.Refusal.{Refusal}
use Rattle.nt_status.specs.declared.refusal.Refusal.TheVariants.{MomentBack}
use Rattle.nt_status.specs.Status.{io_completion_code}
use Rattle.nt_objects.specs.Object.{with_set}
use Rattle.nt_waits.specs.declared.wait.Wait.{Wait}
use Rattle.nt_apc.specs.Queues.{has_apc}
use Rattle.nt_calls.specs.declared.call.Call.{Call}
use Rattle.nt_calls.specs.declared.call.Act.{Act}
use Rattle.nt_calls.specs.declared.call.Reply.{Reply}
use Rattle.nt_calls.specs.declared.call.Grant.{Grant}
pub use Rattle.nt_calls.specs.Calls.{asked_wait, timeout_of}
use Rattle.nt_calls.specs.Naming.{call_named}
use Rattle.nt_calls.specs.Rights.{is_denied}
use Rattle.nt_calls.specs.Rising.{AreRising}
use Rattle.nt_calls.specs.State.{State, with_handing, pending_too}
use Rattle.nt_calls.specs.Serving.{fits, status, taken_by, IsChanged, sequence, Serve, Alert, TimeOut, late_status, is_sleep}
use Rattle.nt_calls.specs.Change.{at, change, act_reply, all_expired, IsTimerDue}
use Rattle.nt_calls.specs.Living.{Ends}
use Rattle.nt_calls.specs.Refusals.{refusal, IsRefusal}

-- ---- a wait begins

-- how t's wait begins, the first case that holds: it fits, an APC is queued, the timeout is 0, it pends
abbrev pub begun : State → ℕ → Wait → ℕ → Reply × State
begun s t w ms =
    if fits s.objects t w then (Reply.Status (status s.objects t w), taken_by s t w)
    else if w.alertable && has_apc s.apcs t then (Reply.Status io_completion_code, with_handing s t true)
    else if ms == 0 then (Reply.Status (late_status (is_sleep w)), with_handing s t false)
    else (Reply.Pended, pending_too s t w)

-- ---- a call

-- the event of a pulse is not set once waits are served
abbrev pub after_serving : Call → State → State
after_serving (Call.Act (Act.PulseEvent h)) s = at s h (with_set false)
after_serving _ s = s

-- what comes last: the answer, and for a waiting call its wait
abbrev pub answered : State → State → ℕ → Call → Reply × State
answered old s t (Call.Act act) = (act_reply old t act, s)
answered old s t (Call.Wait wait) = begun s t (asked_wait s.now wait) (timeout_of wait)
answered old s t Call.Exit = (Reply.Done, s)

-- one accepted call, whose handles are the numbers of their objects here: its change, serving of the waits on changed objects, alerts, and the caller's own wait
pub record Step (old : State) (t : ℕ) (call : Call) (reply : Reply) (grants : List Grant) (new : State) : Type 0 where
  pub numbers : List ℕ
  pub served : List Grant
  pub calm : State
  pub alerted : List Grant
  pub woken : State
  pub changed : AreRising (IsChanged old.objects (change old t call).objects) numbers
  pub serves : Serve (sequence old numbers) (change old t call) served calm
  pub alerts : Alert (after_serving call calm) alerted woken
  pub in_order : grants ≡ served ++ alerted
  pub answers : (reply, new) ≡ answered old woken t call

-- a call on numbers of objects with its result: a step of the machine, or a refusal that leaves everything as it was; `denied` tells
-- that one of its handles lacked a right that it needs
abbrev pub Made : State → ℕ → Bool → Call → Result Reply Refusal → List Grant → State → Type 0
Made old who denied call (Ok reply) grants new = (refusal old who denied call ≡ None) × Step old who call reply grants new
Made old who denied call (Err r) grants new = IsRefusal old who denied call r × (grants ≡ []) × (new ≡ old)

-- a call with its result: it is made on the objects that its handles name, and where it is accepted, last of all the objects end that
-- nothing keeps any more
abbrev pub Called : State → ℕ → Call → Result Reply Refusal → List Grant → State → Type 0
Called old who call (Ok reply) grants new =
    (left : State) × Made old who (is_denied old call) (call_named old.handles call) (Ok reply) grants left × Ends left new
Called old who call (Err r) grants new = Made old who (is_denied old call) (call_named old.handles call) (Err r) grants new

-- ---- a tick

-- a timer is armed for this moment, or a pending wait has this deadline
abbrev pub IsAwaited : State → ℕ → Type 0
IsAwaited s u = ((h : ℕ) × IsTimerDue s u h) ⊎ ((t : ℕ) × (w : Wait) × (get s.waits t ≡ Some w) × (w.deadline ≡ Some u))

-- the next moment up to m at which something is due
abbrev pub IsNextMoment : State → ℕ → ℕ → Type 0
IsNextMoment s m u = IsAwaited s u × (u ≤ m) × ((v : ℕ) → IsAwaited s v → u ≤ v)

-- nothing is due up to m
abbrev pub NothingDue : State → ℕ → Type 0
NothingDue s m = (v : ℕ) → IsAwaited s v → m < v

-- what happens at moment u of a tick to m: all timers due then expire, waits are served, alerted and timed out
pub record MomentPasses (old : State) (m u : ℕ) (grants : List Grant) (new : State) : Type 0 where
  pub timers : List ℕ
  pub served : List Grant
  pub calm : State
  pub alerted : List Grant
  pub woken : State
  pub timed : List Grant
  pub due : AreRising (IsTimerDue old u) timers
  pub serves : Serve (sequence old timers) (all_expired m old timers) served calm
  pub alerts : Alert calm alerted woken
  pub times_out : TimeOut woken u timed new
  pub in_order : grants ≡ served ++ alerted ++ timed

-- these moments pass, one after another, and then nothing up to m is due
abbrev pub MomentsPass : State → ℕ → List ℕ → List Grant → State → Type 0
MomentsPass old m [] grants new = NothingDue old m × (grants ≡ []) × (new ≡ record old { now = m })
MomentsPass old m (u ∷ us) grants new =
    (here later : List Grant) × (mid : State)
    × IsNextMoment old m u
    × MomentPasses old m u here mid
    × MomentsPass mid m us later new
    × (grants ≡ here ++ later)

-- one accepted tick to moment m; after its last moment the objects end that nothing keeps any more
abbrev pub Tick : State → ℕ → List Grant → State → Type 0
Tick old m grants new = (moments : List ℕ) × (left : State) × MomentsPass old m moments grants left × Ends left new

-- a tick with its result: what is due up to m happens, or the moment is past and everything stays
abbrev pub Ticked : State → ℕ → Result Reply Refusal → List Grant → State → Type 0
Ticked old m (Ok reply) grants new = (old.now ≤ m) × (reply ≡ Reply.Done) × Tick old m grants new
Ticked old m (Err r) grants new = (m < old.now) × (r ≡ MomentBack) × (grants ≡ []) × (new ≡ old)
