-- How the alarms that are set stand as a heap. No public clause cites this.
use Rattle.std.specs.Prelude.{◌≡◌, ◌≢◌, ℕ, ◌+◌, ◌-◌, ◌*◌, ◌/◌, ◌<◌, ◌≤◌, ◌^◌, nat_lt, if◌then◌else◌, List, [], ◌∷◌, length, slice_index, Option, Some, None}
use Rattle.nt_alarms.specs.declared.heap.Alarm.{Alarm}

-- the alarm of a place: it is set if the place has one of the first `armed` ranks
abbrev pub own_alarm : ℕ → ℕ → ℕ → Option ℕ
own_alarm armed moment rank = if nat_lt rank armed then Some moment else None

-- the alarms of all places, by their moments and ranks
abbrev pub alarms_of : ℕ → List ℕ → List ℕ → List (Option ℕ)
alarms_of armed [] ranks = []
alarms_of armed (moment ∷ moments) [] = []
alarms_of armed (moment ∷ moments) (rank ∷ ranks) = own_alarm armed moment rank ∷ alarms_of armed moments ranks

-- what stands at an index of the first list is an index of the second, at which that index stands
abbrev pub LeadsBack : List ℕ → List ℕ → Type 0
LeadsBack xs ys = (i : ℕ) → i < length xs → (slice_index xs i < length ys) × (slice_index ys (slice_index xs i) ≡ i)

-- each place has a rank, and each rank a place
pub record AreRanked (moments ranks places : List ℕ) : Type 0 where
  pub few : length moments < 2 ^ 31
  pub ranks_too : length ranks ≡ length moments
  pub places_too : length places ≡ length moments
  pub of_place : LeadsBack ranks places
  pub of_rank : LeadsBack places ranks

-- two values have changed places, and the others are where they were
pub record AreSwapped {A : Type 0} (old new : ℕ → A) (i j : ℕ) : Type 0 where
  pub first : new i ≡ old j
  pub second : new j ≡ old i
  pub others : (k : ℕ) → k ≢ i → k ≢ j → new k ≡ old k

-- the alarm that has a rank
abbrev pub alarm_ranked : List ℕ → List ℕ → ℕ → Alarm
alarm_ranked moments places rank = record { moment = slice_index moments (slice_index places rank); place = slice_index places rank }

-- one alarm is not later than another, and at one moment not at a higher place
pub record Precedes (a b : Alarm) : Type 0 where
  pub moment : a.moment ≤ b.moment
  pub place : a.moment ≡ b.moment → a.place ≤ b.place

-- the rank above another
abbrev pub above : ℕ → ℕ
above rank = (rank - 1) / 2

-- no alarm comes before the one above it
abbrev pub IsHeap : ℕ → (ℕ → Alarm) → Type 0
IsHeap armed alarm = (rank : ℕ) → rank < armed → Precedes (alarm (above rank)) (alarm rank)

-- the same, but that the alarm of one rank may come before the one above it, or after those below it
pub record IsHeapBut (armed : ℕ) (alarm : ℕ → Alarm) (at : ℕ) : Type 0 where
  pub others : (rank : ℕ) → rank < armed → rank ≢ at → above rank ≢ at → Precedes (alarm (above rank)) (alarm rank)
  pub across : (rank : ℕ) → rank < armed → above rank ≡ at → 0 < at → Precedes (alarm (above at)) (alarm rank)

-- the same, but that the alarm of one rank may come before the one above it
pub record IsHeapButAbove (armed : ℕ) (alarm : ℕ → Alarm) (at : ℕ) : Type 0 where
  pub others : (rank : ℕ) → rank < armed → rank ≢ at → Precedes (alarm (above rank)) (alarm rank)
  pub across : (rank : ℕ) → rank < armed → above rank ≡ at → 0 < at → Precedes (alarm (above at)) (alarm rank)

-- the same, but that the alarm of one rank may come after those below it
pub record IsHeapButBelow (armed : ℕ) (alarm : ℕ → Alarm) (at : ℕ) : Type 0 where
  pub others : (rank : ℕ) → rank < armed → above rank ≢ at → Precedes (alarm (above rank)) (alarm rank)
  pub across : (rank : ℕ) → rank < armed → above rank ≡ at → 0 < at → Precedes (alarm (above at)) (alarm rank)

-- the first of the alarms below a rank
pub record IsFirstBelow (armed : ℕ) (alarm : ℕ → Alarm) (at below : ℕ) : Type 0 where
  pub in_range : below < armed
  pub lower : at < below
  pub here : above below ≡ at
  pub first : (rank : ℕ) → rank < armed → above rank ≡ at → rank ≢ 0 → Precedes (alarm below) (alarm rank)

-- places with ranks, of which the first are those whose alarms are set, as a heap
pub record IsAlarmTable (armed : ℕ) (moments ranks places : List ℕ) : Type 0 where
  pub sound : AreRanked moments ranks places
  pub few : armed ≤ length moments
  pub heap : IsHeap armed (alarm_ranked moments places)
