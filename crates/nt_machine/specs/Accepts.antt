-- What an accepted call does to the dispatcher.
use Rattle.std.specs.Prelude.{◌≡◌, ℕ, ◌+◌, ◌≢◌, ◌<◌, ◌≤◌, ◌⊎◌, ◌↔◌, Bool, true, false, not, ◌&&◌, ◌==◌, List, [], ◌∷◌, ◌++◌, length, Option, Some, None, IfSome, Result, Ok, Err, IfErr, OnOk, OnErr, ⊤, if◌then◌else◌}
use Rattle.std.specs.List.{filter}
use Rattle.std.specs.FinMap.{len, get}
use Rattle.nt_status.specs.Status.{io_completion_code, timeout_code}
use Rattle.nt_status.specs.declared.refusal.Refusal.{Refusal}
use Rattle.nt_calls.specs.declared.call.Act.{Act}
use Rattle.nt_calls.specs.declared.call.Call.{Call}
use Rattle.nt_calls.specs.declared.call.WaitCall.{WaitCall}
use Rattle.nt_calls.specs.declared.call.Reply.{Reply}
use Rattle.nt_calls.specs.declared.call.Grant.{Grant}
use Rattle.nt_calls.specs.Rising.{AreRising}
use Rattle.nt_objects.specs.declared.object.Object.{Object}
use Rattle.nt_objects.specs.Object.{armed_with, has_ended, setter_of}
use Rattle.nt_waits.specs.declared.wait.Wait.{Wait}
use Rattle.nt_objects.specs.declared.object.Routine.{Routine}
use Rattle.nt_marks.specs.Marks.{is_marked, AddsMarks}
use Rattle.nt_apc.specs.Queues.{withdrawn, place_of}
use Rattle.std.specs.List.{Contains}
use Rattle.nt_calls.specs.State.{State, object_at, wait_over, pending_too}
use Rattle.nt_calls.specs.Serving.{late_status, IsChanged, sequence, sleeps, Serve, IsAlerted, Alert, ending, TimeOut, IsLate}
use Rattle.nt_calls.specs.Change.{change, all_expired, exited, IsTimerDue}
use Rattle.nt_calls.specs.Naming.{act_named, wait_named}
use Rattle.nt_calls.specs.Rights.{act_denied, wait_denied}
use Rattle.nt_calls.specs.Refusals.{first_of_causes, call_causes, refusal}
use Rattle.nt_calls.specs.Steps.{Step, MomentPasses, Made, begun, asked_wait, timeout_of}
use Rattle.nt_machine.specs.Dispatcher.{Dispatcher, state}
use Rattle.nt_machine.specs.Due.{due_weight, total_weight}
use Rattle.nt_machine.specs.Lawful.{IsMachineSound, IsSoundWait, IsSteady, IsUnmarked}

-- whether the wait ended by objects: neither by an APC nor by its deadline
abbrev pub is_by_objects : Grant → Bool
is_by_objects g = not (g.status == io_completion_code) && not (g.status == timeout_code)

-- local wake-ups: the call tested no more pending waits than stand in the queues of the objects that it changed, and
-- each wait that it ended by objects was tested
pub record IsLocal (old : State) (t : ℕ) (call : Call) (tested : ℕ) (grants : List Grant) : Type 0 where
  pub numbers : List ℕ
  pub changed : AreRising (IsChanged old.objects (change old t call).objects) numbers
  pub most : tested ≤ length (sequence old numbers)
  pub least : length (filter is_by_objects grants) ≤ tested

-- after a change to this state the waits on the changed objects were served, object by object, and no others tested
pub record IsServedAfter (old : Dispatcher) (changed_to : State) (new : Dispatcher) : Type 0 where
  pub numbers : List ℕ
  pub changed : AreRising (IsChanged old.objects changed_to.objects) numbers
  pub serves : Serve (sequence (state old) numbers) changed_to new.grants (state new)
  pub sound : IsMachineSound new
  pub most : new.table.looked ≤ length (sequence (state old) numbers)
  pub least : length new.grants ≤ new.table.looked
  pub unmarked : IsUnmarked new.marked

-- the waits that were to be alerted have ended, and no pending wait was tested for it
pub record IsAlertedAfter (old new : Dispatcher) : Type 0 where
  pub ended : List Grant
  pub alerts : Alert (state old) ended (state new)
  pub grants : new.grants ≡ old.grants ++ ended
  pub looked : new.table.looked ≡ old.table.looked
  pub unmarked : IsUnmarked new.marked

-- the pending waits with this deadline have ended, and there were some where one was late
pub record IsTimedOutAfter (old : Dispatcher) (deadline : ℕ) (new : Dispatcher) : Type 0 where
  pub ended : List Grant
  pub timed : TimeOut (state old) deadline ended (state new)
  pub grants : new.grants ≡ old.grants ++ ended
  pub looked : new.table.looked ≡ old.table.looked
  pub marked : new.marked ≡ old.marked
  pub fewer : (t : ℕ) → IsLate (state old) deadline t → len (state new).waits < len (state old).waits

-- the APC of the routine, if there is one, has a place in its thread's queue; of the queues only the timer's own APC may be gone
pub record IsPromised (old : Dispatcher) (timer : ℕ) (routine : Option Routine) (new : Dispatcher) : Type 0 where
  pub rest : new ≡ record old { apcs = new.apcs }
  pub queues : withdrawn new.apcs.queues timer ≡ withdrawn old.apcs.queues timer
  pub place : IfSome routine (λ r. place_of new.apcs.places timer ≡ Some r.thread)
  pub others : (m : ℕ) → m ≢ timer → place_of new.apcs.places m ≡ place_of old.apcs.places m

-- these are the timers due at moment u of a tick to m, and have expired; of these marks whoever is to be alerted has one
pub record IsExpiredAfter (old : Dispatcher) (m u : ℕ) (new : Dispatcher) (timers : List ℕ) (marks : List Bool) : Type 0 where
  pub due : AreRising (IsTimerDue (state old) u) timers
  pub expired : state new ≡ all_expired m (state old) timers
  pub marked : (t : ℕ) → IsAlerted (state new) t → is_marked marks t ≡ true
  pub others : (h : ℕ) → (Contains timers h → ⊥) → object_at new.objects h ≡ object_at old.objects h
  -- of the timers that are due up to m these are gone
  pub fewer : (weight : ℕ → ℕ) → due_weight weight m 0 new.objects + total_weight weight timers ≡ due_weight weight m 0 old.objects
  pub grants : new.grants ≡ old.grants
  pub table : new.table ≡ old.table

-- the status of a wait that ends for queued APCs, or else since its interval has passed
abbrev pub unmet_status : Bool → Bool → ℕ
unmet_status alerted sleeps = if alerted then io_completion_code else late_status sleeps

-- the thread was to be alerted and its wait has ended, or it was not and nothing changed
abbrev pub IsRoused : Dispatcher → Dispatcher → ℕ → Type 0
IsRoused old new t =
    (IsAlerted (state old) t × (state new ≡ wait_over (state old) t true) × (new.grants ≡ old.grants ++ ending io_completion_code t ∷ []) × (new.table.looked ≡ old.table.looked) × (new.marked ≡ old.marked))
    ⊎ ((IsAlerted (state old) t → ⊥) × (new ≡ old))

-- moment u of a tick to m has passed; no more pending waits were tested than stood in the queues of the timers due then, and
-- each wait that ended by objects was tested
pub record IsPassedAfter (old : Dispatcher) (m u : ℕ) (new : Dispatcher) : Type 0 where
  pub here : List Grant
  pub passes : MomentPasses (state old) m u here (state new)
  pub grants : new.grants ≡ old.grants ++ here
  pub most : new.table.looked ≤ old.table.looked + length (sequence (state old) passes.timers)
  pub least : old.table.looked + length passes.served ≤ new.table.looked
  pub fewer : (weight : ℕ → ℕ) → due_weight weight m 0 new.objects + total_weight weight passes.timers ≡ due_weight weight m 0 old.objects
  pub late : (t : ℕ) → IsLate (state old) u t → len (state new).waits < len (state old).waits
  pub sound : IsMachineSound new
  pub unmarked : IsUnmarked new.marked

-- the timer of this number is armed for a moment up to m
abbrev pub IsDueBy : State → ℕ → ℕ → Type 0
IsDueBy s m h = (u : ℕ) × IsTimerDue s u h × (u ≤ m)

-- whether it ended the wait that its thread had in this state by objects
abbrev pub ended_by_objects : State → Grant → Bool
ended_by_objects s g = is_by_objects g && not (sleeps (get s.waits g.thread))

-- local wake-ups of a tick: it tested no more pending waits than stood in the queues of the timers that were due up to m, and
-- each wait that it ended by objects was tested
pub record IsTickLocal (old : State) (m tested : ℕ) (grants : List Grant) : Type 0 where
  pub timers : List ℕ
  pub due : AreRising (IsDueBy old m) timers
  pub most : tested ≤ length (sequence old timers)
  pub least : length (filter (ended_by_objects old) grants) ≤ tested

-- the thread armed the timer of this number with a routine
abbrev pub IsSetBy : List Object → ℕ → ℕ → Type 0
IsSetBy objects t h = setter_of (object_at objects h) ≡ Some t

-- this is one of these timers, and the thread armed it with a routine
abbrev pub IsSetAmong : List ℕ → List Object → ℕ → ℕ → Type 0
IsSetAmong timers objects t h = Contains timers h × IsSetBy objects t h

-- the timers with this property are not armed any more, and no other object changed
pub record AreStopped (property : ℕ → Type 0) (old new : List Object) : Type 0 where
  pub count : length new ≡ length old
  pub stopped : (h : ℕ) → property h → object_at new h ≡ armed_with None (object_at old h)
  pub others : (h : ℕ) → (property h → ⊥) → object_at new h ≡ object_at old h

-- the timers that the thread armed with a routine are stopped and marked, and nothing else changed
pub record IsStoppedAfter (old : Dispatcher) (t : ℕ) (new : Dispatcher) : Type 0 where
  pub rest : new ≡ record old { objects = new.objects; alarms = new.alarms; marked = record old.marked { changed = new.marked.changed } }
  pub stopped : AreStopped (IsSetBy old.objects t) old.objects new.objects
  pub marks : AddsMarks (IsSetBy old.objects t) old.marked.changed new.marked.changed

-- the thread has ended and exactly the objects that this changed are marked, but no wait was served yet
pub record IsExitedAfter (old : Dispatcher) (t : ℕ) (new : Dispatcher) : Type 0 where
  pub becomes : state new ≡ exited (state old) t
  pub changed : (h : ℕ) → (is_marked new.marked.changed h ≡ true) ↔ IsChanged old.objects new.objects h
  pub grants : new.grants ≡ old.grants
  pub table : new.table ≡ old.table
  pub alerted : new.marked.alerted ≡ old.marked.alerted

-- steady, and nothing told yet of the call that comes
pub record IsFresh (d : Dispatcher) : Type 0 where
  pub steady : IsSteady d
  pub no_grants : d.grants ≡ []
  pub untested : d.table.looked ≡ 0

-- the wait that the thread asks for pends from now on, or memory was refused and nothing has changed
pub record HasPended (old new : Dispatcher) (t : ℕ) (wait : WaitCall) (result : Result ⊤ Refusal) : Type 0 where
  pub state : OnOk result (state new ≡ pending_too (state old) t (asked_wait old.now wait))
  pub sound : IsMachineSound new
  pub grants : new.grants ≡ old.grants
  pub looked : new.table.looked ≡ old.table.looked
  pub marked : new.marked ≡ old.marked
  pub memory : IfErr result (λ refusal. refusal ≡ Refusal.Memory)
  pub err : OnErr result (new ≡ old)

-- the reply of a wait that ended with this status, or pends
abbrev pub reply_of : Option ℕ → Reply
reply_of None = Reply.Pended
reply_of (Some status) = Reply.Status status

-- the same for a waiting call, which may be refused
abbrev pub replied : Result (Option ℕ) Refusal → Result Reply Refusal
replied (Ok ended) = Ok (reply_of ended)
replied (Err refusal) = Err refusal

-- the wait that the thread asks for has begun, and this is its reply
abbrev pub HasBegun : State → State → ℕ → WaitCall → Reply → Type 0
HasBegun old new t wait reply = (reply, new) ≡ begun old t (asked_wait old.now wait) (timeout_of wait)

-- the thread is known, runs, and waits for nothing
pub record IsRunning (d : Dispatcher) (t : ℕ) : Type 0 where
  pub known : t < d.threads
  pub runs : has_ended (object_at d.objects t) ≡ false
  pub idle : get d.table.pending t ≡ None

-- the thread waits for nothing, this wait can be its own, and there is room for its grant
pub record CanBegin (d : Dispatcher) (t : ℕ) (w : Wait) : Type 0 where
  pub idle : get d.table.pending t ≡ None
  pub able : IsSoundWait d.threads d.objects t w
  pub room : length d.grants + len d.table.pending < d.threads

-- no wait has ended, and the table of waits and the marks are as they were
pub record KeepsWaits (old new : Dispatcher) : Type 0 where
  pub grants : new.grants ≡ old.grants
  pub table : new.table ≡ old.table
  pub marked : new.marked ≡ old.marked

-- the call is a step of the machine, local, and leaves the dispatcher steady
pub record Accepts (old new : Dispatcher) (t : ℕ) (call : Call) (reply : Reply) : Type 0 where
  pub step : Step (state old) t call reply new.grants (state new)
  pub steady : IsSteady new
  pub local : IsLocal (state old) t call new.table.looked new.grants

-- a call of this thread is refused by its own causes alone: the thread is known, it runs, and waits for nothing
abbrev pub IsFreeToCall : State → ℕ → Type 0
IsFreeToCall s t = (denied : Bool) (call : Call) → refusal s t denied call ≡ first_of_causes (call_causes s t denied call)

-- a call on numbers of objects is a step of the machine, local, or is refused; either way the dispatcher is steady
pub record IsCallMade (old new : Dispatcher) (t : ℕ) (denied : Bool) (call : Call) (result : Result Reply Refusal) : Type 0 where
  pub made : Made (state old) t denied call result new.grants (state new)
  pub steady : IsSteady new
  pub local : OnOk result (IsLocal (state old) t call new.table.looked new.grants)
  pub untested : OnErr result (new.table.looked ≡ 0)

-- an act is made on the object that its handle names, or refused
abbrev pub IsActMade : Dispatcher → Dispatcher → ℕ → Act → Result Reply Refusal → Type 0
IsActMade old new t act result = IsCallMade old new t (act_denied old.handles act) (Call.Act (act_named old.handles act)) result

-- the act is made or refused in one way, whoever makes it
abbrev pub IsActOfAny : Dispatcher → Dispatcher → Act → Result Reply Refusal → Type 0
IsActOfAny old new act result = (t : ℕ) → IsFreeToCall (state old) t → IsActMade old new t act result

-- a waiting call is made on the objects that its handles name, or refused
abbrev pub IsWaitMade : Dispatcher → Dispatcher → ℕ → WaitCall → Result Reply Refusal → Type 0
IsWaitMade old new t wait result = IsCallMade old new t (wait_denied old.handles old.objects wait) (Call.Wait (wait_named old.handles wait)) result
