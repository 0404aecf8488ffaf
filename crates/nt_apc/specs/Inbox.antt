-- One thread's queue, and the timers with a place in it. No public clause cites this.
use Rattle.std.specs.Prelude.{ℕ, ◌≡◌, ◌≢◌, ◌<◌, ◌+◌, ◌-◌, List, length, slice_get, count_by, is_none, is_some}
use Rattle.nt_apc.specs.declared.apc.Queued.{Queued}

pub record Contents : Type 0 where
  -- the queued APCs, the oldest first
  pub queue : List Queued
  -- the timers whose APC has a place
  pub timers : List ℕ
  -- how many more places can be promised without memory
  pub room : ℕ

-- how many APCs are no timer's
abbrev pub plain_count : List Queued → ℕ
plain_count queue = count_by (λ q. is_none q.timer) queue

-- how many APCs are a timer's
abbrev pub timed_count : List Queued → ℕ
timed_count queue = count_by (λ q. is_some q.timer) queue

-- the timer at this index has given up its place, and the last one took its index
pub record GivesUp (old new : List ℕ) (index : ℕ) : Type 0 where
  pub one_less : length new + 1 ≡ length old
  pub moved : index + 1 < length old → slice_get new index ≡ slice_get old (length old - 1)
  pub others : (k : ℕ) → k ≢ index → k + 1 < length old → slice_get new k ≡ slice_get old k
