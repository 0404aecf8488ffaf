-- The inboxes of all threads, and where each timer has its place. No public clause cites this.
use Rattle.std.specs.Prelude.{ℕ, ◌≡◌, ◌<◌, ◌≤◌, Bool, true, false, ◌&&◌, ◌==◌, List, [], ◌∷◌, if◌then◌else◌, length, map, slice_index_or, slice_set, slice_get, Option, Some, None}
use Rattle.nt_apc.specs.declared.apc.Queued.{Queued}
use Rattle.nt_apc.specs.declared.place.Place.{Place}
use Rattle.nt_apc.specs.Queues.{has_from, count_from}
use Rattle.nt_apc.specs.Inbox.{Contents}

-- a thread's inbox; none past the last thread
abbrev pub inbox_at : List Contents → ℕ → Contents
inbox_at inboxes t = slice_index_or inboxes t (record { queue = []; timers = []; room = 0 })

-- the timer whose place is the k-th in t's inbox
abbrev pub timer_at : List Contents → ℕ → ℕ → Option ℕ
timer_at inboxes t k = slice_get (inbox_at inboxes t).timers k

abbrev pub place_at : List (Option Place) → ℕ → Option Place
place_at places timer = slice_index_or places timer None

abbrev pub thread_of_place : Option Place → Option ℕ
thread_of_place None = None
thread_of_place (Some place) = Some place.thread

abbrev pub queues_in : List Contents → List (List Queued)
queues_in inboxes = map (λ inbox. inbox.queue) inboxes

abbrev pub timers_in : List Contents → List (List ℕ)
timers_in inboxes = map (λ inbox. inbox.timers) inboxes

abbrev pub threads_in : List (Option Place) → List (Option ℕ)
threads_in places = map thread_of_place places

-- places and inboxes name each other, and a timer's APC stands where its place is, once
pub record AreApcsSound (inboxes : List Contents) (places : List (Option Place)) : Type 0 where
  pub at_place : (t m : ℕ) → has_from m (inbox_at inboxes t).queue ≡ true → thread_of_place (place_at places m) ≡ Some t
  pub once : (t m : ℕ) → count_from m (inbox_at inboxes t).queue ≤ 1
  pub to_timer : (m : ℕ) (place : Place) → place_at places m ≡ Some place → timer_at inboxes place.thread place.index ≡ Some m
  pub to_place : (t k m : ℕ) → timer_at inboxes t k ≡ Some m →
      place_at places m ≡ Some (record { thread = t; index = k; queued = has_from m (inbox_at inboxes t).queue })

-- whatever the places, what was sound stays so
abbrev pub KeepsSound : List Contents → List Contents → Type 0
KeepsSound old new = (places : List (Option Place)) → AreApcsSound old places → AreApcsSound new places

-- a new place of this timer in t's inbox needs no memory
pub record HasRoomForPlace (inboxes : List Contents) (places : List (Option Place)) (t timer : ℕ) : Type 0 where
  pub thread : t < length inboxes
  pub known : timer < length places
  pub room : 0 < (inbox_at inboxes t).room

-- ---- writes to a timer's place

-- the place, and whether the APC stands there
abbrev pub flagged : Bool → Option Place → Option Place
flagged queued None = None
flagged queued (Some place) = Some (record { thread = place.thread; index = place.index; queued = queued })

-- the place at another index
abbrev pub reindexed : ℕ → Option Place → Option Place
reindexed index None = None
reindexed index (Some place) = Some (record { thread = place.thread; index = index; queued = place.queued })

-- whether the APC stands in t's queue
abbrev pub stands_at : ℕ → Option Place → Bool
stands_at t None = false
stands_at t (Some place) = (place.thread == t) && place.queued

abbrev pub place_marked : List (Option Place) → ℕ → Bool → List (Option Place)
place_marked places timer queued = slice_set places timer (flagged queued (place_at places timer))

abbrev pub moved_to : List (Option Place) → ℕ → ℕ → List (Option Place)
moved_to places timer index = slice_set places timer (reindexed index (place_at places timer))

-- where t's inbox names the timer
abbrev pub index_at : ℕ → Option Place → Option ℕ
index_at t None = None
index_at t (Some place) = if place.thread == t then Some place.index else None

abbrev pub vacated : List (Option Place) → ℕ → List (Option Place)
vacated places timer = slice_set places timer None

abbrev pub all_vacated : List (Option Place) → List ℕ → List (Option Place)
all_vacated places [] = places
all_vacated places (timer ∷ timers) = all_vacated (vacated places timer) timers
