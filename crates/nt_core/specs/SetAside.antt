-- The object of a thread that has ended, which handles still name, gets another number: so the thread's own number can be given again. No
-- call of the machine does this by itself; whoever drives it asks for it, and says which number.
use Rattle.std.specs.Prelude.{◌≡◌, ℕ, Bool, not, ◌&&◌, ◌==◌, nat_lt, List, [], map, slice_set, Option, Some, None, if◌then◌else◌}
use Rattle.nt_objects.specs.declared.object.Object.TheVariants.{Gone}
use Rattle.nt_tables.specs.declared.handles.Opened.{Opened}
use Rattle.nt_objects.specs.Object.{has_ended, is_gone}
use Rattle.nt_apc.specs.Queues.{has_apc}
use Rattle.nt_calls.specs.declared.call.Grant.{Grant}
use Rattle.nt_calls.specs.Living.{is_awaited}
use Rattle.nt_calls.specs.State.{State, object_at}
use Rattle.nt_machine.specs.Dispatcher.{Dispatcher}
use Rattle.nt_core.specs.Renewals.{is_vacant}

-- the thread has ended and its object lives; no pending wait names the object, and no APC is queued to the thread
abbrev pub is_movable : State → ℕ → Bool
is_movable s t =
    nat_lt t s.threads && (has_ended (object_at s.objects t) && (not (is_gone (object_at s.objects t)) && (not (is_awaited s t) && not (has_apc s.apcs t))))

-- the object can be moved, and o is the number of one that is gone
abbrev pub can_set_aside : State → ℕ → ℕ → Bool
can_set_aside s t o = is_movable s t && is_vacant s o

-- a handle that named object t names o, with the rights that it had
abbrev pub named_instead : ℕ → ℕ → Option Opened → Option Opened
named_instead t o None = None
named_instead t o (Some opened) = Some (record { object = if opened.object == t then o else opened.object; access = opened.access })

-- thread t's object, as it is, has the number o, by which all its handles name it; and nothing has the number t
abbrev pub set_aside : State → ℕ → ℕ → State
set_aside s t o = record s { handles = map (named_instead t o) s.handles; objects = slice_set (slice_set s.objects o (object_at s.objects t)) t Gone }

-- the same of the dispatcher, with these mutexes for each owner
abbrev pub with_aside : Dispatcher → ℕ → ℕ → List (List ℕ) → Dispatcher
with_aside d t o owned =
    record d {
      handles = map (named_instead t o) d.handles;
      objects = slice_set (slice_set d.objects o (object_at d.objects t)) t Gone;
      owned = owned;
    }

-- it is done, or else nothing changes; no wait ends
abbrev pub SetsAside : State → ℕ → ℕ → Bool → List Grant → State → Type 0
SetsAside old t o done grants new = (done ≡ can_set_aside old t o) × (grants ≡ []) × (new ≡ (if done then set_aside old t o else old))
