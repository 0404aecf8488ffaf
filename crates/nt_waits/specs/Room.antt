-- The room for waits for one object. No public clause cites this module.
use Rattle.std.specs.Prelude.{ℕ, zero, suc, ◌+◌, ◌-◌, ◌≤◌, List, Option, Some, None, length, slice_index_or}
use Rattle.nt_waits.specs.declared.pending.Pending.{Pending}
use Rattle.nt_waits.specs.declared.room.Room.{Room}
use Rattle.nt_waits.specs.Queues.{Lists}

-- how many blocks the wait in a place has
abbrev pub blocks_of : Option Pending → ℕ
blocks_of None = 0
blocks_of (Some pending) = length pending.wait.objects

-- 1 where the place has no block
abbrev pub idle_in : Option Pending → ℕ
idle_in slot = 1 - blocks_of slot

-- how many of the first places have no block
abbrev pub idle : List (Option Pending) → ℕ → ℕ
idle slots zero = 0
idle slots (suc count) = idle slots count + idle_in (slice_index_or slots count None)

-- each thread that has no block can have one, each object a queue, and each thread its place and its alarm, with no allocation
pub record HasRoom (queues : Lists) (slots : List (Option Pending)) (deadlines : ℕ) (room : Room) : Type 0 where
  pub blocks : queues.used + idle slots room.threads ≤ queues.capacity
  pub objects : room.objects ≤ queues.object_room
  pub places : room.threads ≤ length slots
  pub alarms : room.threads ≤ deadlines
