-- How the waits and the queues of a `WaitTable` lie in its fields. No public clause cites this module.
use Rattle.std.specs.Prelude.{◌≡◌, ℕ, ◌+◌, ◌<◌, ◌≤◌, List, [], ◌∷◌, length, map as list_map, Option, Some, None, slice_index, slice_index_or, ◌⊎◌, nat_eq}
use Rattle.std.specs.Ordering.{nat_cmp}
use Rattle.std.specs.FinMap as map
use Rattle.nt_status.specs.declared.limits.TheConstants.{MAX_WAIT_OBJECTS}
use Rattle.nt_waits.specs.declared.wait.Wait.{Wait}
use Rattle.nt_waits.specs.declared.pending.Pending.{Pending}
use Rattle.nt_waits.specs.Link.{Link}
use Rattle.nt_waits.specs.declared.room.Room.{Room}
use Rattle.nt_waits.specs.Queues.{Lists, list_at, AreOrderly}
use Rattle.nt_waits.specs.Room.{HasRoom}
use Rattle.std.specs.List.{IsDistinct}
use Rattle.std.specs.Option.{option_map}
use Rattle.nt_alarms.specs.Alarms.{alarm_at}
use Rattle.nt_waits.specs.Deadlines.{deadline_in}
use Rattle.nt_waits.specs.Waits.{Names}

-- the link stands in the list
abbrev pub HasLink : List Link → Link → Type 0
HasLink [] link = ⊥
HasLink (first ∷ links) link = (first ≡ link) ⊎ HasLink links link

-- the threads of the links
abbrev pub threads : List Link → List ℕ
threads links = list_map (λ link. link.thread) links

-- what stands in the place of a thread; nothing past the last place
abbrev pub slot_at : List (Option Pending) → ℕ → Option Pending
slot_at slots thread = slice_index_or slots thread None

-- the waits in these places, the first of this thread
abbrev pub waits_from : ℕ → List (Option Pending) → List (ℕ × Wait)
waits_from thread [] = []
waits_from thread (None ∷ slots) = waits_from (thread + 1) slots
waits_from thread (Some pending ∷ slots) = (thread, pending.wait) ∷ waits_from (thread + 1) slots

-- the waits in the places of their threads
abbrev pub waits_of : List (Option Pending) → map.FinMap nat_cmp Wait
waits_of slots = map.from_entries (waits_from 0 slots)

-- each object of the wait has one block of the thread, under the number that the wait keeps
pub record IsLinked (queues : Lists) (thread : ℕ) (pending : Pending) : Type 0 where
  pub same_length : length pending.numbers.items ≡ length pending.wait.objects
  pub few : length pending.wait.objects ≤ MAX_WAIT_OBJECTS
  pub apart : IsDistinct nat_eq pending.wait.objects
  pub linked : (j : ℕ) → j < length pending.wait.objects → HasLink (list_at queues (slice_index pending.wait.objects j)) (record { number = slice_index pending.numbers.items j; thread = thread })

-- blocks and waits name each other
pub record IsTable (queues : Lists) (slots : List (Option Pending)) : Type 0 where
  pub linked : (thread : ℕ) (pending : Pending) → slot_at slots thread ≡ Some pending → IsLinked queues thread pending
  pub owned : (object : ℕ) (link : Link) → HasLink (list_at queues object) link → (pending : Pending) × (slot_at slots link.thread ≡ Some pending) × Names pending.wait object
  pub distinct : AreOrderly queues
  pub once : (object : ℕ) → IsDistinct nat_eq (threads (list_at queues object))
  pub small : length slots ≤ 65536

-- blocks and waits name each other, the waits are counted, the alarm of each thread is the deadline of its wait, and the room that was made is there
pub record IsWhole (queues : Lists) (slots : List (Option Pending)) (deadlines : List (Option ℕ)) (count : ℕ) (room : Room) : Type 0 where
  pub table : IsTable queues slots
  pub counted : count ≡ map.len (waits_of slots)
  pub alarmed : (thread : ℕ) → alarm_at deadlines thread ≡ deadline_in (option_map (λ pending. pending.wait) (slot_at slots thread))
  pub roomy : HasRoom queues slots (length deadlines) room
