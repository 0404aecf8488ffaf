-- What callers see of `ObjectTable`.
use Rattle.std.specs.Prelude.{◌≡◌, ◌≢◌, ◌↔◌, ℕ, false, IsTrue, Option, Some, List, slice_index_or, Contains, nat_eq}
use Rattle.std.specs.List.{IsDistinct}
use Rattle.nt_objects.specs.declared.object.Object.{Object}
use Rattle.nt_objects.specs.declared.object.Object.TheVariants.{Thread}
use Rattle.nt_objects.specs.Object.{owned_by}
use Rattle.nt_tables.specs.Owned.{list_of}

-- the object at each number, for each thread the mutexes that it owns, and how many objects there is room for
pub record Objects : Type 0 where
  pub items : List Object
  pub owned : List (List ℕ)
  pub room : ℕ

-- the object of a number; one that no object has is as good as a thread that runs
abbrev pub object_at : List Object → ℕ → Object
object_at objects h = slice_index_or objects h (Thread false)

-- a mutex stands in a thread's list exactly where the thread owns it, and once
pub record OwnersAgree (objects : List Object) (owned : List (List ℕ)) : Type 0 where
  pub named : (t m : ℕ) → Contains (list_of owned t) m ↔ IsTrue (owned_by (object_at objects m) t)
  pub once : (t : ℕ) → IsDistinct nat_eq (list_of owned t)

-- the mutex stands in the list of its new owner alone, in none where it has no owner, and the lists are else as they were
pub record IsPassed (old new : List (List ℕ)) (mutex : ℕ) (to : Option ℕ) : Type 0 where
  pub itself : (t : ℕ) → Contains (list_of new t) mutex ↔ (to ≡ Some t)
  pub others : (t m : ℕ) → m ≢ mutex → Contains (list_of new t) m ↔ Contains (list_of old t) m
  pub once : (t : ℕ) → IsDistinct nat_eq (list_of new t)
