-- What callers see of `Owners`.
use Rattle.std.specs.Prelude.{ℕ, ◌==◌, List, [], ◌∷◌, if◌then◌else◌, slice_index_or, slice_set, Contains}

-- for each thread the mutexes that it owns, the one that came last first; each mutex below `room` may come to a list
pub record Owned : Type 0 where
  pub lists : List (List ℕ)
  pub room : ℕ

-- the mutexes that a thread owns
abbrev pub list_of : List (List ℕ) → ℕ → List ℕ
list_of lists thread = slice_index_or lists thread []

-- the mutex stands in no thread's list
abbrev pub IsUnowned : List (List ℕ) → ℕ → Type 0
IsUnowned lists mutex = (thread : ℕ) → Contains (list_of lists thread) mutex → ⊥

-- the list without this mutex, in the same order
abbrev pub without_mutex : ℕ → List ℕ → List ℕ
without_mutex mutex [] = []
without_mutex mutex (first ∷ list) = if first == mutex then list else first ∷ without_mutex mutex list

-- the list without its first mutex
abbrev pub after_first : List ℕ → List ℕ
after_first [] = []
after_first (first ∷ list) = list

-- the thread owns this mutex too, and it comes first
abbrev pub added : List (List ℕ) → ℕ → ℕ → List (List ℕ)
added lists thread mutex = slice_set lists thread (mutex ∷ list_of lists thread)

-- the thread owns this mutex no more
abbrev pub removed : List (List ℕ) → ℕ → ℕ → List (List ℕ)
removed lists thread mutex = slice_set lists thread (without_mutex mutex (list_of lists thread))
