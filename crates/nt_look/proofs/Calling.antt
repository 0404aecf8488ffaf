-- To whom no APC can come, none comes by what others do.
use Rattle.std.proofs.Common.{◌≡◌, ◌≢◌, ◌<◌, ℕ, Bool, true, false, cond, ◌||◌, ◌==◌, List, [], ◌∷◌, ◌++◌, refl, sym, ap, ◌∙◌, arith, Option, Some, None}
use Rattle.std.specs.Prelude.{ℤ, ◌-◌, nat_le, map, slice_set, slice_index, unsigned_abs}
use Rattle.std.specs.List.{list_any}
use Rattle.std.proofs.lemmas.Bool.Decides.{nat_tests}
use Rattle.std.proofs.lemmas.List.{get_or-set_other}
use Rattle.nt_status.specs.declared.limits.TheConstants.{MAX_MOMENT}
use Rattle.nt_status.specs.Access.{set_context}
use Rattle.nt_status.specs.Flags.{has_flag, mutex_initial_owner}
use Rattle.nt_status.specs.declared.refusal.Refusal.TheVariants.{InvalidHandle, ThreadGone}
use Rattle.nt_objects.specs.declared.object.Object.{Object}
use Rattle.nt_objects.specs.declared.object.Object.TheVariants.{Event, Semaphore, Mutex, Timer, Thread, Gone}
use Rattle.nt_objects.specs.declared.object.Armed.{Armed}
use Rattle.nt_objects.specs.Object.{taken, is_thread, has_ended, setter_of, with_set, released, unlocked, armed_with, unset_by, set_by, event_of, mutex_of, timer_of}
use Rattle.nt_waits.specs.declared.wait.Wait.{Wait}
use Rattle.nt_apc.specs.declared.apc.Queued.{Queued}
use Rattle.nt_apc.specs.Queues.{has_apc, apc_queue_of, oldest_taken, withdrawn, without_oldest}
use Rattle.nt_calls.specs.declared.call.Call.{Call}
use Rattle.nt_calls.specs.declared.call.Act.{Act}
use Rattle.nt_calls.specs.declared.call.WaitCall.{WaitCall}
use Rattle.nt_calls.specs.State.{State, object_at, with_handing}
use Rattle.nt_calls.specs.Serving.{take_at, take_each, objects_taken, least}
use Rattle.nt_calls.specs.Change.{at, created, signal, change, act_change, may_take, expired, armed_anew, timer_set, due_moment, routine_for}
use Rattle.nt_calls.specs.Naming.{no_object, object_named, act_named, call_named}
use Rattle.nt_calls.specs.Rights.{act_denied, is_denied}
use Rattle.nt_calls.specs.Refusals.{refusal, is_no, is_unknown}
use Rattle.nt_calls.specs.Steps.{after_serving}
use Rattle.nt_machine.proofs.Exiting.{left}
use Rattle.nt_look.specs.Hangs.{will_call, is_by, is_called_in_time, is_given}
use Rattle.nt_look.proofs.Parts.{neither, none_of, not_second, any_push, any_mapped, any_set, at_own}
use Rattle.nt_look.proofs.Standstill.{call_own}
use Rattle.nt_look.proofs.Allowing.{not_here, undenied}
use Rattle.nt_look.proofs.Waiting.{is_called, expired_uncalled, withdrawn_fewer}

-- what leaves thread t without an APC that comes
abbrev pub StaysUncalled : ℕ → State → State → Type 0
StaysUncalled t s new = is_called s.apcs s.objects t ≡ false → is_called new.apcs new.objects t ≡ false

-- ---- objects

-- a change of an object that has it call nobody
abbrev pub CallsNoMore : ℕ → (Object → Object) → Type 0
CallsNoMore t f = (x : Object) → will_call t x ≡ false → will_call t (f x) ≡ false

set_calls : (t : ℕ) (set : Bool) → CallsNoMore t (with_set set)
set_calls t set (Event manual own) e = e
set_calls t set (Semaphore count maximum) e = e
set_calls t set (Mutex owner depth abandoned) e = e
set_calls t set (Timer manual own None) e = e
set_calls t set (Timer manual own (Some armed)) e = e
set_calls t set (Thread ended) e = e
set_calls t set Gone e = e

released_calls : (t : ℕ) (count : ℤ) → CallsNoMore t (released count)
released_calls t count (Event manual own) e = e
released_calls t count (Semaphore own maximum) e = e
released_calls t count (Mutex owner depth abandoned) e = e
released_calls t count (Timer manual own armed) e = e
released_calls t count (Thread ended) e = e
released_calls t count Gone e = e

unlocked_calls : (t : ℕ) → CallsNoMore t unlocked
unlocked_calls t (Event manual own) e = e
unlocked_calls t (Semaphore count maximum) e = e
unlocked_calls t (Mutex owner depth abandoned) e = go (nat_le depth 1)
  where
    go : (b : Bool) → will_call t (cond b (Mutex None 0 false) (Mutex owner (depth - 1) abandoned)) ≡ false
    go true = refl
    go false = refl
unlocked_calls t (Timer manual own armed) e = e
unlocked_calls t (Thread ended) e = e
unlocked_calls t Gone e = e

signal_calls : (t : ℕ) → CallsNoMore t signal
signal_calls t (Event manual own) e = e
signal_calls t (Semaphore count maximum) e = e
signal_calls t (Mutex owner depth abandoned) e = unlocked_calls t (Mutex owner depth abandoned) e
signal_calls t (Timer manual own armed) e = e
signal_calls t (Thread ended) e = e
signal_calls t Gone e = e

taken_calls : (t u : ℕ) → CallsNoMore t (λ x. taken x u)
taken_calls t u (Event manual own) e = e
taken_calls t u (Semaphore count maximum) e = e
taken_calls t u (Mutex None depth abandoned) e = e
taken_calls t u (Mutex (Some owner) depth abandoned) e = e
taken_calls t u (Timer manual own None) e = e
taken_calls t u (Timer manual own (Some armed)) e = e
taken_calls t u (Thread ended) e = e
taken_calls t u Gone e = e

stopped_calls : (t : ℕ) → CallsNoMore t (armed_with None)
stopped_calls t (Event manual own) e = e
stopped_calls t (Semaphore count maximum) e = e
stopped_calls t (Mutex owner depth abandoned) e = e
stopped_calls t (Timer manual own armed) e = refl
stopped_calls t (Thread ended) e = e
stopped_calls t Gone e = e

-- a timer that another armed
set_by_other : (t : ℕ) (armed : Armed) (set : Bool) → is_by t (setter_of (Timer false false (Some armed))) ≡ false → CallsNoMore t (λ x. armed_with (Some armed) (with_set set x))
set_by_other t armed set apart (Event manual own) e = e
set_by_other t armed set apart (Semaphore count maximum) e = e
set_by_other t armed set apart (Mutex owner depth abandoned) e = e
set_by_other t armed set apart (Timer manual own old) e = not_second (nat_le armed.due MAX_MOMENT) (is_by t (setter_of (Timer false false (Some armed)))) apart
set_by_other t armed set apart (Thread ended) e = e
set_by_other t armed set apart Gone e = e

-- nobody armed what is no timer
by_none : (t : ℕ) (armed : Armed) (x : Object) → is_by t (setter_of (Timer false false (Some armed))) ≡ false → is_by t (setter_of (armed_with (Some armed) (with_set false x))) ≡ false
by_none t armed (Event manual own) apart = refl
by_none t armed (Semaphore count maximum) apart = refl
by_none t armed (Mutex owner depth abandoned) apart = refl
by_none t armed (Timer manual own old) apart = apart
by_none t armed (Thread ended) apart = refl
by_none t armed Gone apart = refl

left_calls : (t who : ℕ) → CallsNoMore t (left who)
left_calls t who (Event manual own) e = e
left_calls t who (Semaphore count maximum) e = e
left_calls t who (Mutex None depth abandoned) e = e
left_calls t who (Mutex (Some owner) depth abandoned) e = go (owner == who)
  where
    go : (b : Bool) → will_call t (unset_by who (cond b (Mutex None 0 true) (Mutex (Some owner) depth abandoned))) ≡ false
    go true = refl
    go false = refl
left_calls t who (Timer manual own None) e = e
left_calls t who (Timer manual own (Some armed)) e = go (set_by armed.routine who)
  where
    go : (b : Bool) → will_call t (cond b (Timer manual own None) (Timer manual own (Some armed))) ≡ false
    go true = refl
    go false = e
left_calls t who (Thread ended) e = e
left_calls t who Gone e = e

mutex_calls : (t who flags : ℕ) → will_call t (mutex_of flags who) ≡ false
mutex_calls t who flags = go (has_flag flags mutex_initial_owner)
  where
    go : (b : Bool) → will_call t (cond b (Mutex (Some who) 1 false) (Mutex None 0 false)) ≡ false
    go true = refl
    go false = refl

-- ---- states

-- other objects, and the same APCs
objects_uncalled : (s new : State) (t : ℕ) → new.apcs ≡ s.apcs → (is_called_in_time s.objects t ≡ false → is_called_in_time new.objects t ≡ false) → StaysUncalled t s new
objects_uncalled s new t same less none =
    let two = neither (has_apc s.apcs t) (is_called_in_time s.objects t) none in
    none_of (has_apc new.apcs t) (is_called_in_time new.objects t) (ap (λ q. has_apc q t) same ∙ two.0) (less two.1)

at_uncalled : (s : State) (g t : ℕ) (f : Object → Object) → CallsNoMore t f → StaysUncalled t s (at s g f)
at_uncalled s g t f less none = objects_uncalled s (at s g f) t refl (any_set (will_call t) s.objects g (f (object_at s.objects g)) (λ was. less (object_at s.objects g) was)) none

created_uncalled : (s : State) (x : Object) (t : ℕ) → will_call t x ≡ false → StaysUncalled t s (created s x)
created_uncalled s x t calls none = objects_uncalled s (created s x) t refl (λ e. any_push (will_call t) s.objects x e calls) none

-- other APCs, and the same objects
other_queue : (apcs : List (List Queued)) (u t : ℕ) (queue : List Queued) → t ≢ u → has_apc apcs t ≡ false → has_apc (slice_set apcs u queue) t ≡ false
other_queue apcs u t queue differs none = ap (λ q. list_any (λ _. true) q) (get_or-set_other apcs u t queue [] differs) ∙ none

queue_uncalled : (s : State) (u t : ℕ) (queue : List Queued) → t ≢ u → StaysUncalled t s (record s { apcs = slice_set s.apcs u queue })
queue_uncalled s u t queue differs none =
    let two = neither (has_apc s.apcs t) (is_called_in_time s.objects t) none in
    none_of (has_apc (slice_set s.apcs u queue) t) (is_called_in_time s.objects t) (other_queue s.apcs u t queue differs two.0) two.1

withdrawn_uncalled : (s : State) (timer t : ℕ) (x : Object) → (will_call t (object_at s.objects timer) ≡ false → will_call t x ≡ false) → is_called s.apcs s.objects t ≡ false → is_called (withdrawn s.apcs timer) (slice_set s.objects timer x) t ≡ false
withdrawn_uncalled s timer t x less none =
    let two = neither (has_apc s.apcs t) (is_called_in_time s.objects t) none in
    none_of (has_apc (withdrawn s.apcs timer) t) (is_called_in_time (slice_set s.objects timer x) t) (withdrawn_fewer s.apcs timer t two.0) (any_set (will_call t) s.objects timer x less two.1)

timer_set_uncalled : (s : State) (timer t : ℕ) (armed : Armed) → is_by t (setter_of (Timer false false (Some armed))) ≡ false → StaysUncalled t s (timer_set s timer armed)
timer_set_uncalled s timer t armed apart none = go (nat_le armed.due s.now)
  where
    anew : is_called (armed_anew s timer armed).apcs (armed_anew s timer armed).objects t ≡ false
    anew = withdrawn_uncalled s timer t (armed_with (Some armed) (with_set false (object_at s.objects timer))) (set_by_other t armed false apart (object_at s.objects timer)) none

    by : is_by t (setter_of (object_at (armed_anew s timer armed).objects timer)) ≡ false
    by = at_own (λ x. is_by t (setter_of x) ≡ false) s.objects timer (armed_with (Some armed) (with_set false (object_at s.objects timer))) (by_none t armed (object_at s.objects timer) apart) refl

    go : (b : Bool) → is_called (cond b (expired s.now (armed_anew s timer armed) timer) (armed_anew s timer armed)).apcs (cond b (expired s.now (armed_anew s timer armed) timer) (armed_anew s timer armed)).objects t ≡ false
    go true = expired_uncalled s.now (armed_anew s timer armed) timer t by anew
    go false = anew

pub taken_uncalled : (t : ℕ) (os : List Object) (u : ℕ) (w : Wait) → is_called_in_time os t ≡ false → is_called_in_time (objects_taken os u w) t ≡ false
taken_uncalled t os u w none = go w.all
  where
    one : (xs : List Object) (h : ℕ) → is_called_in_time xs t ≡ false → is_called_in_time (take_at xs u h) t ≡ false
    one xs h = any_set (will_call t) xs h (taken (object_at xs h) u) (taken_calls t u (object_at xs h))

    each : (hs : List ℕ) (xs : List Object) → is_called_in_time xs t ≡ false → is_called_in_time (take_each xs u hs) t ≡ false
    each [] xs is = is
    each (h ∷ hs) xs is = each hs (take_at xs u h) (one xs h is)

    go : (all : Bool) → is_called_in_time (cond all (take_each os u w.objects) (take_at os u (slice_index w.objects (least os u w)))) t ≡ false
    go true = each w.objects os none
    go false = one os (slice_index w.objects (least os u w)) none

pub after_uncalled : (call : Call) (s : State) (t : ℕ) → StaysUncalled t s (after_serving call s)
after_uncalled (Call.Act (Act.PulseEvent h)) s t none = at_uncalled s h t (with_set false) (set_calls t false) none
after_uncalled _ s t none = none

-- ---- calls

-- the routine is another's
routine_apart : (t who : ℕ) (due period : ℕ) (routine : Option (ℕ × ℕ)) → t ≢ who → is_by t (setter_of (Timer false false (Some (record { due = due; period = period; routine = routine_for who routine })))) ≡ false
routine_apart t who due period None differs = refl
routine_apart t who due period (Some r) differs = let test : (who == t) ≡ false = grind (arith, nat_tests, differs) in test

act_uncalled : (t who : ℕ) (s : State) (denied : Bool) (act : Act) → t ≢ who → t < no_object → is_given s set_context t ≡ false → denied ≡ act_denied s.handles act → refusal s who denied (Call.Act (act_named s.handles act)) ≡ None
    → StaysUncalled t s (act_change s who (act_named s.handles act))
act_uncalled t who s denied (Act.CreateEvent flags) differs known given so none = created_uncalled s (event_of flags) t refl
act_uncalled t who s denied (Act.CreateSemaphore initial maximum) differs known given so none = created_uncalled s (Semaphore initial maximum) t refl
act_uncalled t who s denied (Act.CreateMutex flags) differs known given so none = created_uncalled s (mutex_of flags who) t (mutex_calls t who flags)
act_uncalled t who s denied (Act.CreateTimer flags) differs known given so none = created_uncalled s (timer_of flags) t refl
act_uncalled t who s denied (Act.SetEvent h) differs known given so none = at_uncalled s (object_named s.handles h) t (with_set true) (set_calls t true)
act_uncalled t who s denied (Act.ResetEvent h) differs known given so none = at_uncalled s (object_named s.handles h) t (with_set false) (set_calls t false)
act_uncalled t who s denied (Act.PulseEvent h) differs known given so none = at_uncalled s (object_named s.handles h) t (with_set true) (set_calls t true)
act_uncalled t who s denied (Act.ReleaseSemaphore h count) differs known given so none = at_uncalled s (object_named s.handles h) t (released count) (released_calls t count)
act_uncalled t who s denied (Act.ReleaseMutex h) differs known given so none = at_uncalled s (object_named s.handles h) t unlocked (unlocked_calls t)
act_uncalled t who s denied (Act.SetTimer h due period routine) differs known given so none =
    timer_set_uncalled s (object_named s.handles h) t (record { due = due_moment s.now due; period = unsigned_abs period; routine = routine_for who routine }) (routine_apart t who (due_moment s.now due) (unsigned_abs period) routine differs)
act_uncalled t who s denied (Act.CancelTimer h) differs known given so none = λ calls.
    withdrawn_uncalled s (object_named s.handles h) t (armed_with None (object_at s.objects (object_named s.handles h))) (stopped_calls t (object_at s.objects (object_named s.handles h))) calls
act_uncalled t who s denied (Act.QueueApc h routine arg) differs known given so none =
    let g = object_named s.handles h in
    let allowed = undenied (is_unknown s.objects g || is_no is_thread s.objects g) InvalidHandle denied ((has_ended (object_at s.objects g), ThreadGone) ∷ []) (call_own s who denied (Call.Act (Act.QueueApc g routine arg)) none) in
    queue_uncalled s g t (apc_queue_of s.apcs g ++ record { apc = record { routine = routine; arg = arg; at = None }; timer = None } ∷ [])
    (λ same. not_here set_context s t h known given (sym so ∙ allowed) (sym same))
act_uncalled t who s denied (Act.Duplicate h access) differs known given so none = λ calls. calls
act_uncalled t who s denied (Act.Close closed) differs known given so none = λ calls. calls
act_uncalled t who s denied Act.NextApc differs known given so none = λ calls. go (may_take s who) calls
  where
    go : (b : Bool) → is_called s.apcs s.objects t ≡ false → is_called (cond b (record s { apcs = oldest_taken s.apcs who }) (with_handing s who false)).apcs (cond b (record s { apcs = oldest_taken s.apcs who }) (with_handing s who false)).objects t ≡ false
    go true calls = queue_uncalled s who t (without_oldest (apc_queue_of s.apcs who)) differs calls
    go false calls = calls

-- a call of another has no APC come to a thread that no handle gives the right to call
pub change_uncalled : (t who : ℕ) (s : State) (denied : Bool) (call : Call) → t ≢ who → t < no_object → is_given s set_context t ≡ false → denied ≡ is_denied s call → refusal s who denied (call_named s.handles call) ≡ None
    → StaysUncalled t s (change s who (call_named s.handles call))
change_uncalled t who s denied (Call.Act act) differs known given so none = act_uncalled t who s denied act differs known given so none
change_uncalled t who s denied (Call.Wait (WaitCall.Objects all mode handles)) differs known given so none = λ calls. calls
change_uncalled t who s denied (Call.Wait (WaitCall.Sleep mode)) differs known given so none = λ calls. calls
change_uncalled t who s denied (Call.Wait (WaitCall.Swap h waited mode)) differs known given so none = at_uncalled s (object_named s.handles h) t signal (signal_calls t)
change_uncalled t who s denied Call.Exit differs known given so none = λ calls.
    let two = neither (has_apc s.apcs t) (is_called_in_time s.objects t) calls in
    none_of (has_apc (slice_set s.apcs who []) t) (is_called_in_time (slice_set (map (left who) s.objects) who (Thread true)) t)
    (other_queue s.apcs who t [] differs two.0)
    (any_set (will_call t) (map (left who) s.objects) who (Thread true) (λ was. refl) (any_mapped (will_call t) (left who) (left_calls t who) s.objects two.1))
