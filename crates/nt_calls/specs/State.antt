-- The state of the machine, as plain data.
use Rattle.std.specs.Prelude.{ℕ, ◌+◌, ◌++◌, Bool, false, List, [], ◌∷◌, slice_set, replicate, is_some, ◌==◌, if◌then◌else◌}
use Rattle.std.specs.List.{list_any}
use Rattle.std.specs.Ordering.{nat_cmp}
use Rattle.std.specs.FinMap.{FinMap, empty, get, insert, remove}
use Rattle.std.specs.declared.option.Option.{Option}
use Rattle.std.specs.declared.option.Option.TheVariants.{None, Some}
use Rattle.nt_status.specs.declared.limits.TheConstants.{INFINITE}
use Rattle.nt_objects.specs.Object.{units, full_access}
use Rattle.nt_objects.specs.declared.object.Object.{Object}
use Rattle.nt_objects.specs.declared.object.Object.TheVariants.{Thread}
use Rattle.nt_tables.specs.declared.handles.Opened.{Opened}
use Rattle.nt_tables.specs.Handles.{own_handles}
pub use Rattle.nt_tables.specs.Objects.{object_at}
use Rattle.nt_waits.specs.declared.wait.Wait.{Wait}
use Rattle.nt_waits.specs.Waits.{others}
use Rattle.nt_apc.specs.declared.apc.Queued.{Queued}

-- the waits that pend, by their thread
abbrev pub Pending : Type 0
Pending = FinMap nat_cmp Wait

pub record State : Type 0 where
  -- how many threads there are; thread t's own object is the one with number t
  pub threads : ℕ
  -- by handle number, what the handle names, with its rights; none once it is closed
  pub handles : List (Option Opened)
  -- the object with each number
  pub objects : List Object
  -- the waits that pend
  pub waits : Pending
  -- for each object the threads whose pending waits name it, in the order in which those waits began
  pub queues : ℕ → List ℕ
  -- each thread's queued APCs, the oldest first
  pub apcs : List (List Queued)
  -- whether a thread may take its APCs one by one
  pub handing : List Bool
  -- the present moment
  pub now : ℕ

-- n running threads, each with a handle of its own number, and nothing else, at moment 0
abbrev pub opening : ℕ → State
opening n = record {
  threads = n;
  handles = own_handles n (full_access (Thread false));
  objects = replicate n (Thread false);
  waits = empty;
  queues = λ _. [];
  apcs = replicate n [];
  handing = replicate n false;
  now = 0;
}

-- the objects, the one at h changed by f
abbrev pub with_object : List Object → ℕ → (Object → Object) → List Object
with_object objects h f = slice_set objects h (f (object_at objects h))

-- whether the thread's wait pends
abbrev pub pends : State → ℕ → Bool
pends s t = is_some (get s.waits t)

-- whether the wait names the object
abbrev pub wait_names : Wait → ℕ → Bool
wait_names w h = list_any (λ named. named == h) w.objects

-- t's wait pends from now on, last in the queue of each object that it names
abbrev pub pending_too : State → ℕ → Wait → State
pending_too s t w =
    record s {
      waits = insert s.waits t w;
      queues = λ h. if wait_names w h then s.queues h ++ t ∷ [] else s.queues h;
    }

-- t's wait pends no more, and the others keep their order
abbrev pub pending_no_more : State → ℕ → State
pending_no_more s t = record s { waits = remove s.waits t; queues = λ h. others t (s.queues h) }

-- whether t may take its APCs from now on
abbrev pub with_handing : State → ℕ → Bool → State
with_handing s t may = record s { handing = slice_set s.handing t may }

-- t's wait is over; the flag says whether it may take its APCs
abbrev pub wait_over : State → ℕ → Bool → State
wait_over s t may = with_handing (pending_no_more s t) t may

abbrev pub waits_over : State → List ℕ → Bool → State
waits_over s [] may = s
waits_over s (t ∷ ts) may = waits_over (wait_over s t may) ts may

-- the deadline of a wait that begins now with a timeout of ms milliseconds
abbrev pub deadline_after : ℕ → ℕ → Option ℕ
deadline_after now ms = if ms == INFINITE then None else Some (now + units ms)
