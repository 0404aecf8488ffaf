-- What becomes of the queues where one thread's blocks are linked or unlinked. No public clause cites this module.
use Rattle.std.specs.Prelude.{◌≡◌, ◌≢◌, ℕ, ◌<◌, ◌≤◌, ◌*◌, List, [], ◌∷◌, ◌++◌, length, slice_index}
use Rattle.nt_waits.specs.Link.{without}
use Rattle.nt_waits.specs.Queues.{Lists, list_at, AreOrderly, TakesRoom, GivesRoom}

-- none of the first `count` objects is this one
abbrev pub IsOutside : List ℕ → ℕ → ℕ → Type 0
IsOutside objects count object = (j : ℕ) → j < count → slice_index objects j ≢ object

-- the first `count` objects have lost their block, and the queues of all others are as they were
pub record AreUnlinked (old new : Lists) (objects numbers : List ℕ) (count : ℕ) : Type 0 where
  pub done : (j : ℕ) → j < count → list_at new (slice_index objects j) ≡ without (slice_index numbers j) (list_at old (slice_index objects j))
  pub others : (object : ℕ) → IsOutside objects count object → list_at new object ≡ list_at old object

-- the first `count` of these blocks have left their queues, and one to three were reached for each
pub record IsUnlinked (old new : Lists) (objects numbers : List ℕ) (count : ℕ) : Type 0 where
  pub unlinked : AreUnlinked old new objects numbers count
  pub distinct : AreOrderly new
  pub gives : GivesRoom old new count
  pub at_least : count ≤ new.touched
  pub at_most : new.touched ≤ 3 * count

-- the first `count` objects have a block of the thread more, at their end, and the queues of all others are as they were
pub record AreLinked (old new : Lists) (thread : ℕ) (objects numbers : List ℕ) (count : ℕ) : Type 0 where
  pub done : (j : ℕ) → j < count → list_at new (slice_index objects j) ≡ list_at old (slice_index objects j) ++ record { number = slice_index numbers j; thread = thread } ∷ []
  pub others : (object : ℕ) → IsOutside objects count object → list_at new object ≡ list_at old object

-- the first `count` objects have a block of the thread more, under these numbers, and each number stands once
pub record IsJoined (old new : Lists) (thread : ℕ) (objects numbers : List ℕ) (count : ℕ) : Type 0 where
  pub linked : AreLinked old new thread objects numbers count
  pub distinct : AreOrderly new
  pub takes : TakesRoom old new count
  pub numbered : length numbers ≡ length objects
