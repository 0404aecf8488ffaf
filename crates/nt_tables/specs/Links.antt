-- How the lists lie in the links. No public clause cites this module.
use Rattle.std.specs.Prelude.{◌≡◌, ℕ, zero, suc, ◌<◌, List, [], ◌∷◌, map, length, slice_index_or, slice_set, Option, Some, None, Contains, nat_eq}
use Rattle.std.specs.List.{IsDistinct}
use Rattle.nt_tables.specs.declared.links.Link.{Link}

-- the link of a mutex that stands alone
abbrev pub alone : Link
alone = record { previous = None; next = None }

-- the link of a mutex
abbrev pub link_at : List Link → ℕ → Link
link_at links mutex = slice_index_or links mutex alone

-- the first mutex of a thread
abbrev pub first_at : List (Option ℕ) → ℕ → Option ℕ
first_at firsts thread = slice_index_or firsts thread None

-- the mutex after this one in the thread's list; `None` stands before the first and after the last
abbrev pub next_mutex : List (Option ℕ) → List Link → ℕ → Option ℕ → Option ℕ
next_mutex firsts links thread None = first_at firsts thread
next_mutex firsts links thread (Some mutex) = (link_at links mutex).next

-- the mutex before this one
abbrev pub previous_mutex : List Link → ℕ → Option ℕ
previous_mutex links mutex = (link_at links mutex).previous

-- `to` comes after `at`, or first where that is `None`
abbrev pub with_first : List (Option ℕ) → ℕ → Option ℕ → Option ℕ → List (Option ℕ)
with_first firsts thread None to = slice_set firsts thread to
with_first firsts thread (Some mutex) to = firsts

abbrev pub with_next : List Link → Option ℕ → Option ℕ → List Link
with_next links None to = links
with_next links (Some mutex) to = slice_set links mutex (record (link_at links mutex) { next = to })

-- `to` comes before `at`
abbrev pub with_previous : List Link → Option ℕ → Option ℕ → List Link
with_previous links None to = links
with_previous links (Some mutex) to = slice_set links mutex (record (link_at links mutex) { previous = to })

-- the mutex, if there is one, and what follows it
abbrev pub then_on : (ℕ → List ℕ) → Option ℕ → List ℕ
then_on rest None = []
then_on rest (Some mutex) = mutex ∷ rest mutex

-- so many mutexes at most, from this one on
abbrev pub walk : List Link → ℕ → Option ℕ → List ℕ
walk links zero at = []
walk links (suc count) at = then_on (λ mutex. walk links count (link_at links mutex).next) at

-- the list of a thread
abbrev pub list_in : List (Option ℕ) → List Link → ℕ → List ℕ
list_in firsts links thread = walk links (length links) (first_at firsts thread)

-- the lists of all threads
abbrev pub lists_in : List (Option ℕ) → List Link → List (List ℕ)
lists_in firsts links = map (walk links (length links)) firsts

-- from the one after `at` on these mutexes follow one another, and each names the one before it
abbrev pub IsMutexChain : (Option ℕ → Option ℕ) → (ℕ → Option ℕ) → Option ℕ → List ℕ → Type 0
IsMutexChain next previous at [] = next at ≡ None
IsMutexChain next previous at (mutex ∷ list) = (next at ≡ Some mutex) × (previous mutex ≡ at) × IsMutexChain next previous (Some mutex) list

-- each thread has this list, and no mutex stands in two, or twice in one
pub record IsListed (firsts : List (Option ℕ)) (links : List Link) (owned : ℕ → List ℕ) : Type 0 where
  pub chain : (t : ℕ) → IsMutexChain (next_mutex firsts links t) (previous_mutex links) None (owned t)
  pub once : (t : ℕ) → IsDistinct nat_eq (owned t)
  pub apart : (t u m : ℕ) → Contains (owned t) m → Contains (owned u) m → t ≡ u
  pub below : (t m : ℕ) → Contains (owned t) m → m < length links

abbrev pub AreOwnersSound : List (Option ℕ) → List Link → Type 0
AreOwnersSound firsts links = IsListed firsts links (list_in firsts links)
