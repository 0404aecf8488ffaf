-- What becomes of queues and places where a wait ends. No public clause cites this module.
use Rattle.std.specs.Prelude.{◌≡◌, ℕ, List, Option, None, slice_set}
use Rattle.nt_waits.specs.declared.pending.Pending.{Pending}
use Rattle.nt_waits.specs.Queues.{Lists, list_at, GivesRoom}
use Rattle.nt_waits.specs.Table.{threads, slot_at, IsTable}
use Rattle.nt_waits.specs.Room.{blocks_of}
use Rattle.nt_waits.specs.Waits.{others}

-- the thread's place is empty, it stands in no queue any more, and no room is lost
pub record IsEnded (old : Lists) (slots : List (Option Pending)) (new : Lists) (slots' : List (Option Pending)) (thread : ℕ) : Type 0 where
  pub table : IsTable new slots'
  pub emptied : slots' ≡ slice_set slots thread None
  pub queues : (object : ℕ) → threads (list_at new object) ≡ others thread (threads (list_at old object))
  pub gives : GivesRoom old new (blocks_of (slot_at slots thread))
