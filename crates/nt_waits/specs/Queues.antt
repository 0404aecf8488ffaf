-- What the private struct `Queues` shows. No public clause cites this module.
use Rattle.std.specs.Prelude.{◌≡◌, ℕ, ◌+◌, ◌≤◌, List, [], slice_index_or}
use Rattle.nt_waits.specs.Link.{Link, AreNumbersOnce}

-- the links of each object, how many blocks there are and fit, for how many objects there is room, and how many blocks were reached
pub record Lists : Type 0 where
  pub lists : List (List Link)
  pub used : ℕ
  pub capacity : ℕ
  pub object_room : ℕ
  pub touched : ℕ

-- the links of an object, in the order in which they were made
abbrev pub list_at : Lists → ℕ → List Link
list_at queues object = slice_index_or queues.lists object []

-- only room has changed, and none is lost
pub record OnlyGrows (old new : Lists) : Type 0 where
  pub lists : new.lists ≡ old.lists
  pub used : new.used ≡ old.used
  pub touched : new.touched ≡ old.touched
  pub capacity : old.capacity ≤ new.capacity
  pub object_room : old.object_room ≤ new.object_room

-- so many blocks more are linked, no room is lost, and none was reached
pub record TakesRoom (old new : Lists) (count : ℕ) : Type 0 where
  pub used : new.used ≡ old.used + count
  pub capacity : new.capacity ≡ old.capacity
  pub object_room : new.object_room ≡ old.object_room
  pub touched : new.touched ≡ old.touched

-- so many blocks fewer are linked, and no room is lost
pub record GivesRoom (old new : Lists) (count : ℕ) : Type 0 where
  pub used : new.used + count ≡ old.used
  pub capacity : new.capacity ≡ old.capacity
  pub object_room : new.object_room ≡ old.object_room

-- so many blocks more were reached
abbrev pub ReachesMore : ℕ → ℕ → ℕ → ℕ → Type 0
ReachesMore least most old new = (old + least ≤ new) × (new ≤ old + most)

-- no number stands twice in a queue
abbrev pub AreOrderly : Lists → Type 0
AreOrderly queues = (object : ℕ) → AreNumbersOnce (list_at queues object)

-- so many blocks fit with no allocation
abbrev pub HasRoomFor : Lists → ℕ → Type 0
HasRoomFor queues more = queues.used + more ≤ queues.capacity
