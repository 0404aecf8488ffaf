-- The dispatcher as its callers see it.
use Rattle.std.specs.Prelude.{ℕ, Bool, true, false, List, [], ◌+◌, ◌∷◌, ◌++◌, length, slice_set, Option, Some, None}
use Rattle.nt_waits.specs.Waits.{Waits, queue_of}
use Rattle.nt_apc.specs.declared.apc.Queued.{Queued}
use Rattle.nt_apc.specs.Queues.{Apcs}
use Rattle.nt_objects.specs.declared.object.Object.{Object}
use Rattle.nt_tables.specs.declared.handles.Opened.{Opened}
use Rattle.nt_objects.specs.Object.{setter_of, full_access}
use Rattle.nt_marks.specs.Marks.{with_mark}
use Rattle.nt_calls.specs.declared.call.Grant.{Grant}
use Rattle.nt_calls.specs.State.{State, object_at}
use Rattle.nt_machine.specs.declared.standing.Standing.{Standing}

-- what is to be served or alerted still; between two calls nothing is
pub record Marked : Type 0 where
  -- by object number, a mark where the waits on the object are to be served
  pub changed : List Bool
  -- by thread number, a mark where the thread may have to be alerted
  pub alerted : List Bool

pub record Dispatcher : Type 0 where
  pub threads : ℕ
  -- what each handle names, with its rights
  pub handles : List (Option Opened)
  pub objects : List Object
  -- for each thread the mutexes that it owns
  pub owned : List (List ℕ)
  -- the pending waits, their queues, and how many pending waits the last call tested
  pub table : Waits
  -- each thread's queued APCs, and the places promised to timers
  pub apcs : Apcs
  pub handing : List Bool
  -- whether each thread may call
  pub standings : List Standing
  pub now : ℕ
  -- the waits that the last call or tick ended
  pub grants : List Grant
  -- by number, the due moment of an armed timer
  pub alarms : List (Option ℕ)
  -- by object number, a mark where nothing may keep the object any more
  pub leaving : List Bool
  pub marked : Marked

-- the state of the machine
abbrev pub state : Dispatcher → State
state d = record {
  threads = d.threads;
  handles = d.handles;
  objects = d.objects;
  waits = d.table.pending;
  queues = λ h. queue_of d.table h;
  apcs = d.apcs.queues;
  handing = d.handing;
  now = d.now;
}

-- the table with room for waits on one object more
abbrev pub with_queue : Waits → Waits
with_queue table = record table { room = record table.room { objects = table.room.objects + 1 } }

-- the dispatcher with other queues of APCs, and the places of timers as they were
abbrev pub with_queues : Dispatcher → List (List Queued) → Dispatcher
with_queues d queues = record d { apcs = record d.apcs { queues = queues } }

-- the dispatcher with other marks of what is to be served
abbrev pub with_marked : Dispatcher → Marked → Dispatcher
with_marked d marked = record d { marked = marked }

-- the waits on a timer that expires are to be served, and the thread that armed it with a routine may have to be alerted
abbrev pub due_marked : Dispatcher → ℕ → Dispatcher
due_marked d timer =
    with_marked d (record {
      changed = slice_set d.marked.changed timer true;
      alerted = with_mark (setter_of (object_at d.objects timer)) d.marked.alerted;
    })

-- one object more, last, with a handle, no alarm and no mark; it may stand in its owner's list
abbrev pub with_created : Dispatcher → Object → List (List ℕ) → Dispatcher
with_created d o owned =
    record d {
      handles = d.handles ++ Some (record { object = length d.objects; access = full_access o }) ∷ [];
      objects = d.objects ++ o ∷ [];
      owned = owned;
      table = with_queue d.table;
      alarms = d.alarms ++ None ∷ [];
      leaving = d.leaving ++ false ∷ [];
      marked = record d.marked { changed = d.marked.changed ++ false ∷ [] };
    }

-- one object number more, last, with no handle, no alarm and no mark; the object may stand in its owner's list
abbrev pub with_object_added : Dispatcher → Object → List (List ℕ) → Dispatcher
with_object_added d o owned =
    record d {
      objects = d.objects ++ o ∷ [];
      owned = owned;
      table = with_queue d.table;
      alarms = d.alarms ++ None ∷ [];
      leaving = d.leaving ++ false ∷ [];
      marked = record d.marked { changed = d.marked.changed ++ false ∷ [] };
    }

abbrev pub dispatcher_of : ℕ → List (Option Opened) → List Object → List (List ℕ) → Waits → Apcs → List Bool → List Standing → ℕ → List Grant → List (Option ℕ) → List Bool → List Bool → List Bool → Dispatcher
dispatcher_of threads handles objects owned table apcs handing standings now grants alarms leaving changed alerted = record {
  threads = threads;
  handles = handles;
  objects = objects;
  owned = owned;
  table = table;
  apcs = apcs;
  handing = handing;
  standings = standings;
  now = now;
  grants = grants;
  alarms = alarms;
  leaving = leaving;
  marked = record { changed = changed; alerted = alerted };
}
