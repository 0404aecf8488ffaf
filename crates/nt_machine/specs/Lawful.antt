-- What every call and tick leaves true.
use Rattle.std.specs.declared.option.Option.{Option}
use Rattle.std.specs.Prelude.{◌≡◌, ℕ, ◌<◌, ◌≤◌, ◌+◌, ◌⊎◌, Bool, true, false, not, ◌&&◌, List, [], length, Some, is_some, nat_eq, slice_index_or, if◌then◌else◌}
use Rattle.std.specs.FinMap as map
use Rattle.std.specs.FinMap.{get}
use Rattle.nt_status.specs.declared.limits.TheConstants.{MAX_HANDLES, MAX_MANY_THREADS, MAX_WAIT_OBJECTS}
use Rattle.nt_objects.specs.declared.object.Object.{Object}
use Rattle.nt_tables.specs.declared.handles.Opened.{Opened}
use Rattle.nt_tables.specs.Handles.{opened_at, count_named}
use Rattle.nt_tables.specs.Objects.{OwnersAgree}
use Rattle.nt_objects.specs.Object.{IsLawfulObject, owned_by, has_room, has_ended, is_thread, is_gone, due_of, setter_of}
use Rattle.nt_waits.specs.declared.wait.Wait.{Wait}
use Rattle.std.specs.List.{Contains}
use Rattle.nt_waits.specs.Waits.{Names, Agrees}
use Rattle.std.specs.List.{IsDistinct}
use Rattle.nt_alarms.specs.Alarms.{alarm_at}
use Rattle.nt_marks.specs.Marks.{is_marked, NoneMarked}
use Rattle.nt_apc.specs.Queues.{place_of}
use Rattle.nt_calls.specs.State.{State, Pending, object_at}
use Rattle.nt_calls.specs.Serving.{IsServed, IsAlerted}
use Rattle.nt_calls.specs.Refusals.{is_at_limit}
use Rattle.nt_calls.specs.Steps.{NothingDue}
use Rattle.nt_machine.specs.declared.standing.Standing.{Standing}
use Rattle.nt_machine.specs.declared.standing.Standing.TheVariants.{Free, Waiting, Ended}
use Rattle.nt_machine.specs.Dispatcher.{Dispatcher, Marked, state}
use Rattle.nt_calls.specs.Living.{is_forgotten, LivesWhileKept}

-- no pending wait could end now: none fits, none is to be alerted, none has timed out, and no timer is to expire
pub record IsSettled (s : State) : Type 0 where
  pub served : IsServed s
  pub alerted : (t : ℕ) → IsAlerted s t → ⊥
  pub passed : NothingDue s s.now

-- a running thread waits, for distinct objects that live, no more than a wait may name; it can take each of them
pub record IsSoundWait (threads : ℕ) (objects : List Object) (t : ℕ) (w : Wait) : Type 0 where
  pub known : t < threads
  pub runs : has_ended (object_at objects t) ≡ false
  pub few : length w.objects ≤ MAX_WAIT_OBJECTS
  pub apart : IsDistinct nat_eq w.objects
  pub named : (h : ℕ) → Names w h → (h < length objects) × (is_at_limit objects t h ≡ false)
  pub living : (h : ℕ) → Names w h → is_gone (object_at objects h) ≡ false

-- each armed timer has its alarm, and where it has a routine a place for its APC in the queue of the thread that armed it; each place is that of an object
-- that there is
pub record TimersAgree (threads : ℕ) (objects : List Object) (alarms places : List (Option ℕ)) : Type 0 where
  pub count : length alarms ≡ length objects
  pub alarm : (h : ℕ) → alarm_at alarms h ≡ due_of (object_at objects h)
  pub placed : (h t : ℕ) → setter_of (object_at objects h) ≡ Some t → place_of places h ≡ Some t
  pub known : (h t : ℕ) → place_of places h ≡ Some t → h < length objects
  -- who armed it runs
  pub runs : (h t : ℕ) → setter_of (object_at objects h) ≡ Some t → (t < threads) × (has_ended (object_at objects t) ≡ false)

-- handles name objects that there are, of which there are so many: each was created with a handle
pub record HandlesAgree (count : ℕ) (handles : List (Option Opened)) : Type 0 where
  pub few : length handles ≤ MAX_HANDLES
  pub enough : count ≤ length handles
  pub named : (h : ℕ) (opened : Opened) → opened_at handles h ≡ Some opened → opened.object < count

-- no handle names an object that is gone, and each object that lives while nothing keeps it has a mark, but for these
pub record MarksAgreeBut (unmarked : List ℕ) (d : Dispatcher) : Type 0 where
  pub living : (h : ℕ) (opened : Opened) → opened_at d.handles h ≡ Some opened → is_gone (object_at d.objects opened.object) ≡ false
  pub count : length d.leaving ≡ length d.objects
  pub marked : (o : ℕ) → is_forgotten (state d) o ≡ true → (is_marked d.leaving o ≡ true) ⊎ Contains unmarked o
  pub known : (o : ℕ) → Contains unmarked o → o < length d.objects

-- each of these objects that no handle names has a mark now, but for those that are left; no mark is gone
pub record LetsGoBut (left : List ℕ) (handles : List (Option Opened)) (ended : List ℕ) (old new : List Bool) : Type 0 where
  pub count : length new ≡ length old
  pub marked : (o : ℕ) → Contains ended o → count_named handles o ≡ 0 → (is_marked new o ≡ true) ⊎ Contains left o
  pub kept : (o : ℕ) → is_marked old o ≡ true → is_marked new o ≡ true

-- there is a place for the mark of each object and of each thread
pub record HasPlaces (threads : ℕ) (objects : List Object) (marked : Marked) : Type 0 where
  pub changed : length marked.changed ≡ length objects
  pub alerted : length marked.alerted ≡ threads

-- no object is to be served, and no thread to be alerted
pub record IsUnmarked (marked : Marked) : Type 0 where
  pub changed : NoneMarked marked.changed
  pub alerted : NoneMarked marked.alerted

-- whether the thread may call: it has ended, or its wait pends, or it is free to
abbrev pub standing_of : List Object → Pending → ℕ → Standing
standing_of objects waits t = if has_ended (object_at objects t) then Ended else if is_some (get waits t) then Waiting else Free

-- what is kept of each thread says whether it may call
pub record StandingsAgree (threads : ℕ) (objects : List Object) (waits : Pending) (standings : List Standing) : Type 0 where
  pub count : length standings ≡ threads
  pub each : (t : ℕ) → t < threads → slice_index_or standings t Free ≡ standing_of objects waits t

-- what holds also between a change and the serving after it
pub record IsMachineSound (d : Dispatcher) : Type 0 where
  pub few : d.threads ≤ MAX_MANY_THREADS
  pub waits : (t : ℕ) (w : Wait) → get (state d).waits t ≡ Some w → IsSoundWait d.threads d.objects t w
  -- wait blocks and pending waits name each other exactly
  pub blocks : Agrees d.table.pending d.table.queues
  pub hands : length d.handing ≡ d.threads
  pub standings : StandingsAgree d.threads d.objects d.table.pending d.standings
  pub inboxes : length d.apcs.queues ≡ d.threads
  pub objects : (h : ℕ) → IsLawfulObject (object_at d.objects h)
  -- the first objects are the threads' own, as long as they live
  pub own : (t : ℕ) → t < d.threads → (t < length d.objects) × ((is_thread (object_at d.objects t) ≡ true) ⊎ (is_gone (object_at d.objects t) ≡ true))
  -- no other object is a thread that runs; one that has ended may be set aside there
  pub none_else : (h : ℕ) → d.threads ≤ h → h < length d.objects → (is_thread (object_at d.objects h) && not (has_ended (object_at d.objects h))) ≡ false
  pub timers : TimersAgree d.threads d.objects d.alarms d.apcs.places
  pub handles : HandlesAgree (length d.objects) d.handles
  pub marks : MarksAgreeBut [] d
  pub places : HasPlaces d.threads d.objects d.marked
  -- each pending wait can be granted
  pub room : length d.grants + map.len (state d).waits ≤ d.threads

-- what holds also before the objects end that nothing keeps any more; the table of the objects keeps the owners' lists by itself
pub record IsSteady (d : Dispatcher) : Type 0 where
  pub sound : IsMachineSound d
  pub settled : IsSettled (state d)
  -- no mark is left
  pub unmarked : IsUnmarked d.marked

-- what holds between any two calls
pub record IsLawful (d : Dispatcher) : Type 0 where
  pub steady : IsSteady d
  pub living : LivesWhileKept (state d)
  -- mutexes and the lists of their owners name each other exactly
  pub owners : OwnersAgree d.objects d.owned

-- the object may take the place of the other: it is lawful, none of the two is gone without the other, a thread's object stays one, a timer stays armed as it is, and
-- no thread comes to hold a mutex at the greatest depth
pub record MayReplace (old new : Object) : Type 0 where
  pub lawful : IsLawfulObject new
  pub gone : is_gone new ≡ is_gone old
  pub thread : is_thread new ≡ is_thread old
  pub ended : has_ended new ≡ has_ended old
  pub due : due_of new ≡ due_of old
  pub setter : setter_of new ≡ setter_of old
  -- who owns it owned it
  pub owner : (t : ℕ) → owned_by new t ≡ true → owned_by old t ≡ true
  pub unlimited : (u : ℕ) → (owned_by old u && not (has_room old)) ≡ false → (owned_by new u && not (has_room new)) ≡ false
