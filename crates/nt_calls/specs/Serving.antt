-- Which pending waits the objects satisfy, what ends waits, and in which order (Win32 reference: WaitForMultipleObjects).
use Rattle.std.specs.Prelude.{◌≡◌, ◌≢◌, ℕ, ◌<◌, Bool, true, false, not, ◌&&◌, List, [], ◌∷◌, map, slice_index, MatchOption, if◌then◌else◌, ◌==◌, length}
use Rattle.std.specs.List.{list_any, list_all, position_or_len, find, flat_map}
use Rattle.std.specs.FinMap.{get}
use Rattle.std.specs.declared.option.Option.{Option}
use Rattle.std.specs.declared.option.Option.TheVariants.{None, Some}
use Rattle.nt_status.specs.Status.{object_code, abandoned_code, io_completion_code, timeout_code, slept_code}
use Rattle.nt_objects.specs.declared.object.Object.{Object}
use Rattle.nt_objects.specs.Object.{signaled, taken, is_abandoned, has_room}
use Rattle.nt_waits.specs.declared.wait.Wait.{Wait}
use Rattle.nt_apc.specs.Queues.{has_apc}
use Rattle.nt_calls.specs.declared.call.Grant.{Grant}
use Rattle.nt_calls.specs.State.{State, object_at, with_object, pending_no_more, with_handing, waits_over}
use Rattle.nt_calls.specs.Rising.{AreRising}

-- whether the object of this number is signaled for thread t
abbrev pub is_ready : List Object → ℕ → ℕ → Bool
is_ready objects t h = signaled (object_at objects h) t

-- a wait for no object
abbrev pub is_sleep : Wait → Bool
is_sleep w = length w.objects == 0

-- whether the objects satisfy this wait of thread t: some object that it names is signaled, or for a wait-all each is
abbrev pub fits : List Object → ℕ → Wait → Bool
fits objects t w =
    if w.all
    then not (is_sleep w) && list_all (is_ready objects t) w.objects
    else list_any (is_ready objects t) w.objects

-- the smallest index whose object is signaled for t
abbrev pub least : List Object → ℕ → Wait → ℕ
least objects t w = position_or_len (is_ready objects t) w.objects

-- whether the object of this number is an abandoned mutex
abbrev pub is_abandoned_at : List Object → ℕ → Bool
is_abandoned_at objects h = is_abandoned (object_at objects h)

abbrev pub status_at : Bool → ℕ → ℕ
status_at abandoned i = if abandoned then abandoned_code i else object_code i

-- the status with which the objects end the wait
abbrev pub status : List Object → ℕ → Wait → ℕ
status objects t w =
    if w.all
    then status_at (list_any (is_abandoned_at objects) w.objects) 0
    else status_at (is_abandoned_at objects (slice_index w.objects (least objects t w))) (least objects t w)

-- the objects once t has taken the one of this number
abbrev pub take_at : List Object → ℕ → ℕ → List Object
take_at objects t h = with_object objects h (λ o. taken o t)

abbrev pub take_each : List Object → ℕ → List ℕ → List Object
take_each objects t [] = objects
take_each objects t (h ∷ hs) = take_each (take_at objects t h) t hs

-- the objects once the wait has taken them: each named one, or the one at the least index alone
abbrev pub objects_taken : List Object → ℕ → Wait → List Object
objects_taken objects t w =
    if w.all
    then take_each objects t w.objects
    else take_at objects t (slice_index w.objects (least objects t w))

-- a wait for these objects, as far as the objects are concerned
abbrev pub wait_on : List ℕ → Bool → Wait
wait_on objects all = record { objects = objects; all = all; alertable = false; deadline = None }

-- t can take each of these objects that is signaled for it: none is a mutex at the greatest depth
abbrev pub CanTake : List Object → ℕ → List ℕ → Type 0
CanTake objects t hs = (j : ℕ) → j < length hs → is_ready objects t (slice_index hs j) ≡ true → has_room (object_at objects (slice_index hs j)) ≡ true

-- the wait was tried on the objects: where it fits it has taken them and the answer is its status, else nothing changed
abbrev pub IsTried : List Object → List Object → ℕ → Wait → Option ℕ → Type 0
IsTried old new t w result =
    MatchOption result
    ((fits old t w ≡ false) × (new ≡ old))
    (λ ended. (fits old t w ≡ true) × (ended ≡ status old t w) × (new ≡ objects_taken old t w))

-- t's wait has taken its objects
abbrev pub taken_by : State → ℕ → Wait → State
taken_by s t w = with_handing (record s { objects = objects_taken s.objects t w }) t false

-- t's pending wait is granted
abbrev pub wait_granted : State → ℕ → Wait → State
wait_granted s t w = pending_no_more (taken_by s t w) t

-- whether the objects satisfy what is pending of thread t
abbrev pub satisfied : List Object → ℕ → Option Wait → Bool
satisfied objects t None = false
satisfied objects t (Some w) = fits objects t w

-- whether the thread's wait pends and fits
abbrev pub is_due : State → ℕ → Bool
is_due s t = satisfied s.objects t (get s.waits t)

-- the grant that t's wait is due
abbrev pub grant_of : State → ℕ → Wait → Grant
grant_of s t w = record { thread = t; status = status s.objects t w }

-- the wait of this thread pends and fits, and the grant has its status
pub record IsDue (s : State) (g : Grant) (w : Wait) : Type 0 where
  pub pends : get s.waits g.thread ≡ Some w
  pub fits : fits s.objects g.thread w ≡ true
  pub status : g.status ≡ status s.objects g.thread w

-- ---- serving

-- the numbers of the objects that the change altered
abbrev pub IsChanged : List Object → List Object → ℕ → Type 0
IsChanged old new h = (h < length old) × (object_at new h ≢ object_at old h)

-- the waits that may be served after these objects changed: object by object, on each in the order in which they began
abbrev pub sequence : State → List ℕ → List ℕ
sequence s changed = flat_map s.queues changed

-- the grants lead from the old state to the new one, each to the first thread in the sequence whose wait pends and
-- fits at that point; who was granted pends no more, so the sequence stays the same
abbrev pub Grants : List ℕ → State → List Grant → State → Type 0
Grants threads old [] new = new ≡ old
Grants threads old (g ∷ gs) new =
    (find (is_due old) threads ≡ Some g.thread) × (w : Wait) × IsDue old g w × Grants threads (wait_granted old g.thread w) gs new

-- no pending wait fits
abbrev pub IsServed : State → Type 0
IsServed s = (t : ℕ) → is_due s t ≡ false

-- the waits of the sequence are granted in its order, until no pending wait fits, in the sequence or elsewhere
abbrev pub Serve : List ℕ → State → List Grant → State → Type 0
Serve threads old grants new = Grants threads old grants new × IsServed new

-- ---- alerts (Win32 reference: SleepEx, QueueUserAPC)

abbrev pub ending : ℕ → ℕ → Grant
ending code t = record { thread = t; status = code }

-- t's wait pends and is alertable, and t has a queued APC
abbrev pub IsAlerted : State → ℕ → Type 0
IsAlerted s t = (w : Wait) × (get s.waits t ≡ Some w) × ((w.alertable && has_apc s.apcs t) ≡ true)

-- every pending alertable wait whose thread has a queued APC ends with WAIT_IO_COMPLETION, by rising thread number;
-- these threads may take their APCs
pub record Alert (old : State) (grants : List Grant) (new : State) : Type 0 where
  pub threads : List ℕ
  pub alerted : AreRising (IsAlerted old) threads
  pub ends : grants ≡ map (ending io_completion_code) threads
  pub leaves : new ≡ waits_over old threads true

-- ---- deadlines

-- t's wait pends and has this deadline
abbrev pub IsLate : State → ℕ → ℕ → Type 0
IsLate s u t = (w : Wait) × (get s.waits t ≡ Some w) × (w.deadline ≡ Some u)

abbrev pub late_status : Bool → ℕ
late_status sleeps = if sleeps then slept_code else timeout_code

abbrev pub sleeps : Option Wait → Bool
sleeps None = false
sleeps (Some w) = is_sleep w

-- the pending waits with this deadline end with WAIT_TIMEOUT, sleeps with 0, by rising thread number
pub record TimeOut (old : State) (u : ℕ) (grants : List Grant) (new : State) : Type 0 where
  pub threads : List ℕ
  pub late : AreRising (IsLate old u) threads
  pub ends : grants ≡ map (λ t. ending (late_status (sleeps (get old.waits t))) t) threads
  pub leaves : new ≡ waits_over old threads false
