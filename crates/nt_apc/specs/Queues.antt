-- Each thread's queued APCs, and the places that are promised to timers.
use Rattle.std.specs.Prelude.{ℕ, ◌≡◌, ◌<◌, ◌≤◌, Bool, true, false, not, ◌==◌, List, [], ◌∷◌, ◌++◌, length, slice_index_or, slice_set, map, count_by, Option, Some, None, if◌then◌else◌}
use Rattle.std.specs.List.{list_any, filter}
use Rattle.nt_apc.specs.declared.apc.Apc.{Apc}
use Rattle.nt_apc.specs.declared.apc.Queued.{Queued}

pub record Apcs : Type 0 where
  -- by thread, its queued APCs, the oldest first
  pub queues : List (List Queued)
  -- by number, the thread in whose queue this timer's APC has a place
  pub places : List (Option ℕ)

-- ---- queues

abbrev pub apc_queue_of : List (List Queued) → ℕ → List Queued
apc_queue_of queues t = slice_index_or queues t []

abbrev pub has_apc : List (List Queued) → ℕ → Bool
has_apc queues t = list_any (λ _. true) (apc_queue_of queues t)

abbrev pub oldest : List Queued → Option Queued
oldest [] = None
oldest (q ∷ qs) = Some q

abbrev pub without_oldest : List Queued → List Queued
without_oldest [] = []
without_oldest (q ∷ qs) = qs

abbrev pub apc_of : Option Queued → Option Apc
apc_of None = None
apc_of (Some q) = Some q.apc

-- the APC stands last in t's queue
abbrev pub pushed : List (List Queued) → ℕ → Queued → List (List Queued)
pushed queues t q = slice_set queues t (apc_queue_of queues t ++ q ∷ [])

-- t's queue without its oldest APC
abbrev pub oldest_taken : List (List Queued) → ℕ → List (List Queued)
oldest_taken queues t = slice_set queues t (without_oldest (apc_queue_of queues t))

abbrev pub cleared : List (List Queued) → ℕ → List (List Queued)
cleared queues t = slice_set queues t []

-- ---- APCs of timers

abbrev pub is_from : ℕ → Option ℕ → Bool
is_from timer None = false
is_from timer (Some other) = other == timer

-- whether this queue has an APC of this timer
abbrev pub has_from : ℕ → List Queued → Bool
has_from timer queue = list_any (λ q. is_from timer q.timer) queue

-- how many APCs of this timer this queue has
abbrev pub count_from : ℕ → List Queued → ℕ
count_from timer queue = count_by (λ q. is_from timer q.timer) queue

-- whether some thread's queue has an APC of this timer
abbrev pub is_queued : List (List Queued) → ℕ → Bool
is_queued queues timer = list_any (has_from timer) queues

-- the queue without this timer's APC
abbrev pub without_from : ℕ → List Queued → List Queued
without_from timer queue = filter (λ q. not (is_from timer q.timer)) queue

-- the queues without this timer's APC
abbrev pub withdrawn : List (List Queued) → ℕ → List (List Queued)
withdrawn queues timer = map (without_from timer) queues

-- t's queue without this timer's APC
abbrev pub withdrawn_at : List (List Queued) → ℕ → ℕ → List (List Queued)
withdrawn_at queues t timer = slice_set queues t (without_from timer (apc_queue_of queues t))

-- ---- promised places

-- the thread in whose queue this timer's APC has a place
abbrev pub place_of : List (Option ℕ) → ℕ → Option ℕ
place_of places timer = slice_index_or places timer None

-- whether a place is one in t's queue
abbrev pub is_at : ℕ → Option ℕ → Bool
is_at t None = false
is_at t (Some thread) = thread == t

-- a place, unless it is in t's queue
abbrev pub given_up : ℕ → Option ℕ → Option ℕ
given_up t place = if is_at t place then None else place

-- an APC of a timer stands where the timer's place is, once
pub record KeepsPlaces (apcs : Apcs) : Type 0 where
  pub at_place : (t timer : ℕ) → has_from timer (apc_queue_of apcs.queues t) ≡ true → place_of apcs.places timer ≡ Some t
  pub once : (t timer : ℕ) → count_from timer (apc_queue_of apcs.queues t) ≤ 1
  pub known : (t timer : ℕ) → place_of apcs.places timer ≡ Some t → t < length apcs.queues
