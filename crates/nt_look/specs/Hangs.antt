-- When threads wait, and nothing can end it.
use Rattle.std.specs.Prelude.{pos, int_lt, nat_le, ◌≡◌, ◌<◌, ℕ, ◌==◌, Bool, true, false, not, ◌&&◌, ◌||◌, List, Option, None, Some, if◌then◌else◌, slice_index_or}
use Rattle.std.specs.List.{list_any, list_all}
use Rattle.std.specs.FinMap.{get}
use Rattle.nt_status.specs.declared.limits.TheConstants.{MAX_MOMENT}
use Rattle.nt_status.specs.Access.{modify_state, set_context}
use Rattle.nt_status.specs.Flags.{has_flag}
use Rattle.nt_objects.specs.declared.object.Object.{Object}
use Rattle.nt_objects.specs.declared.object.Object.TheVariants.{Event, Semaphore, Mutex, Timer, Thread, Gone}
use Rattle.nt_objects.specs.Object.{due_of, setter_of}
use Rattle.nt_tables.specs.declared.handles.Opened.{Opened}
use Rattle.nt_waits.specs.declared.wait.Wait.{Wait}
use Rattle.nt_apc.specs.Queues.{has_apc}
use Rattle.nt_calls.specs.State.{State, object_at, pends}
use Rattle.nt_calls.specs.Serving.{is_ready, is_sleep}
use Rattle.nt_calls.specs.Living.{runs}

-- ---- what time alone can do

-- there is such a moment, and it comes: no tick is to one beyond the greatest
abbrev pub will_come : Option ℕ → Bool
will_come None = false
will_come (Some moment) = nat_le moment MAX_MOMENT

-- the object is signaled for thread t, or it is a timer that is armed and will be set
abbrev pub comes_in_time : List Object → ℕ → ℕ → Bool
comes_in_time objects t o = is_ready objects t o || will_come (due_of (object_at objects o))

-- the objects satisfy the wait of thread t, as they are or once armed timers have expired
abbrev pub fits_in_time : List Object → ℕ → Wait → Bool
fits_in_time objects t w =
    if w.all
    then not (is_sleep w) && list_all (comes_in_time objects t) w.objects
    else list_any (comes_in_time objects t) w.objects

-- this thread armed the timer, with a routine
abbrev pub is_by : ℕ → Option ℕ → Bool
is_by t None = false
is_by t (Some setter) = setter == t

-- the object is a timer that is armed and will be set, and its routine is thread t's
abbrev pub will_call : ℕ → Object → Bool
will_call t o = will_come (due_of o) && is_by t (setter_of o)

-- a timer will queue an APC to thread t
abbrev pub is_called_in_time : List Object → ℕ → Bool
is_called_in_time objects t = list_any (will_call t) objects

-- time alone can end this wait of thread t: its deadline comes, armed timers can satisfy it, or it is alertable and an APC is queued
-- for t or will be by an armed timer
abbrev pub ends_in_time : State → ℕ → Wait → Bool
ends_in_time s t w =
    will_come w.deadline
    || (fits_in_time s.objects t w || (w.alertable && (has_apc s.apcs t || is_called_in_time s.objects t)))

-- ---- stuck

-- of the threads that may call, each that runs waits, and time alone ends no wait
pub record IsStuck (callers : ℕ → Bool) (s : State) : Type 0 where
  pub waits : (t : ℕ) → callers t ≡ true → runs s t ≡ true → pends s t ≡ true
  pub lasts : (t : ℕ) (w : Wait) → get s.waits t ≡ Some w → ends_in_time s t w ≡ false

-- ---- what handles allow

-- the handle names the object, and has this right
abbrev pub gives : ℕ → ℕ → Option Opened → Bool
gives right o None = false
gives right o (Some opened) = (opened.object == o) && has_flag opened.access right

-- some handle of the object has this right. Where none has, none ever will: a duplicate has no right that its handle lacks
abbrev pub is_given : State → ℕ → ℕ → Bool
is_given s right o = list_any (gives right o) s.handles

-- an APC can come to thread t while its wait pends: one is queued, a timer will queue one, or a handle has the right to
abbrev pub can_be_called : State → ℕ → Bool
can_be_called s t = has_apc s.apcs t || (is_called_in_time s.objects t || is_given s set_context t)

-- ---- knots

-- the object with number o is not signaled for thread t, and only a thread of the knot can change that: it is a mutex that another
-- of them owns, or one of them, which runs; or nothing can: it is an event, a semaphore or a timer that will not expire, and free,
-- as no handle has the right to signal it, or it is gone
abbrev pub holds : (ℕ → Bool) → Bool → ℕ → ℕ → Object → Bool
holds knot free t o (Mutex (Some owner) depth abandoned) = knot owner && not (owner == t)
holds knot free t o (Thread ended) = knot o && not ended
holds knot free t o (Event manual set) = not set && free
holds knot free t o (Semaphore count maximum) = not (int_lt (pos 0) count) && free
holds knot free t o (Timer manual set armed) = not (will_come (due_of (Timer manual set armed)) || set) && free
holds knot free t o Gone = true
holds knot free t o _ = false

-- of the object with this number
abbrev pub held_at : State → (ℕ → Bool) → ℕ → ℕ → Bool
held_at s knot t o = holds knot (not (is_given s modify_state o)) t o (object_at s.objects o)

-- the knot holds what the wait of thread t needs: each object that it names, or of a wait for all one of them
abbrev pub is_held : State → (ℕ → Bool) → ℕ → Wait → Bool
is_held s knot t w = if w.all then list_any (held_at s knot t) w.objects else list_all (held_at s knot t) w.objects

-- thread t waits for what the knot holds; no deadline of its wait comes, and where that is alertable, no APC can come
pub record IsTied (knot : ℕ → Bool) (s : State) (t : ℕ) : Type 0 where
  pub wait : Wait
  pub pends : get s.waits t ≡ Some wait
  pub endless : will_come wait.deadline ≡ false
  pub plain : (wait.alertable && can_be_called s t) ≡ false
  pub held : is_held s knot t wait ≡ true

-- each thread of the knot is tied, or makes no call any more. An event, a semaphore or a timer that a handle may signal is in no
-- knot: any thread may use that handle
abbrev pub IsKnot : (ℕ → Bool) → (ℕ → Bool) → State → Type 0
IsKnot callers knot s = (t : ℕ) → knot t ≡ true → callers t ≡ true → IsTied knot s t

-- ---- threads by their marks

-- whether the thread has a mark
abbrev pub marked : List Bool → ℕ → Bool
marked marks t = slice_index_or marks t false

-- whether it has none
abbrev pub unmarked : List Bool → ℕ → Bool
unmarked marks t = not (marked marks t)

-- the marked threads are a knot, and each thread of any knot is among them
pub record IsGreatestKnot (callers : ℕ → Bool) (s : State) (marks : List Bool) : Type 0 where
  pub knot : IsKnot callers (marked marks) s
  pub greatest : (other : ℕ → Bool) → ((t : ℕ) → other t ≡ true → t < s.threads) → IsKnot callers other s → (t : ℕ) → other t ≡ true → marked marks t ≡ true
