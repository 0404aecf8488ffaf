-- What becomes of queues and places where a wait begins. No public clause cites this module.
use Rattle.std.specs.Prelude.{◌≡◌, ◌≢◌, ℕ, ◌+◌, ◌≤◌, List, [], ◌∷◌, ◌++◌, length, Option, Some}
use Rattle.nt_waits.specs.declared.wait.Wait.{Wait}
use Rattle.nt_waits.specs.declared.pending.Pending.{Pending}
use Rattle.nt_waits.specs.Queues.{Lists, list_at, OnlyGrows}
use Rattle.nt_waits.specs.Table.{threads, slot_at, IsTable}
use Rattle.nt_waits.specs.Waits.{Names}

-- the wait stands in its thread's place, and the thread last in the queue of each object that it names; the others are as they were, and no room is lost
pub record IsBegun (old : Lists) (slots : List (Option Pending)) (new : Lists) (slots' : List (Option Pending)) (thread : ℕ) (wait : Wait) : Type 0 where
  pub table : IsTable new slots'
  pub placed : (p : Pending) × (slot_at slots' thread ≡ Some p) × (p.wait ≡ wait)
  pub others : (t : ℕ) → t ≢ thread → slot_at slots' t ≡ slot_at slots t
  pub joined : (object : ℕ) → Names wait object → threads (list_at new object) ≡ threads (list_at old object) ++ thread ∷ []
  pub kept : (object : ℕ) → (Names wait object → ⊥) → list_at new object ≡ list_at old object
  pub used : new.used ≡ old.used + length wait.objects
  pub touched : new.touched ≡ old.touched
  pub object_room : old.object_room ≤ new.object_room
  pub places : length slots ≤ length slots'

-- only room was made: each place and each queue shows what it showed
pub record IsRoomier (old : Lists) (slots : List (Option Pending)) (new : Lists) (slots' : List (Option Pending)) : Type 0 where
  pub table : IsTable new slots'
  pub queues : OnlyGrows old new
  pub shown : (t : ℕ) → slot_at slots' t ≡ slot_at slots t
  pub places : length slots ≤ length slots'
