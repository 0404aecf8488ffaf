-- Alarms by place: `Some` moment where one is set.
use Rattle.std.specs.Prelude.{◌≡◌, ◌≢◌, ℕ, ◌<◌, ◌≤◌, List, slice_index_or, Option, Some, None}

-- the alarm of this place; none past the last place
abbrev pub alarm_at : List (Option ℕ) → ℕ → Option ℕ
alarm_at alarms place = slice_index_or alarms place None

-- no place has an alarm
abbrev pub IsQuiet : List (Option ℕ) → Type 0
IsQuiet alarms = (place : ℕ) → alarm_at alarms place ≡ None

-- no alarm is before this moment
abbrev pub NoneBefore : List (Option ℕ) → ℕ → Type 0
NoneBefore alarms moment = (place other : ℕ) → alarm_at alarms place ≡ Some other → moment ≤ other

-- some place's alarm is this moment, and none is before it
pub record IsEarliest (alarms : List (Option ℕ)) (moment : ℕ) : Type 0 where
  pub set : (place : ℕ) × (alarm_at alarms place ≡ Some moment)
  pub least : NoneBefore alarms moment

-- no place's alarm is this moment
abbrev pub NoneAt : List (Option ℕ) → ℕ → Type 0
NoneAt alarms moment = (place : ℕ) → alarm_at alarms place ≢ Some moment

-- the lowest place whose alarm is this moment
pub record IsLowestAt (alarms : List (Option ℕ)) (moment place : ℕ) : Type 0 where
  pub here : alarm_at alarms place ≡ Some moment
  pub none_below : (lower : ℕ) → lower < place → alarm_at alarms lower ≢ Some moment
