-- The deadlines of pending waits.
use Rattle.std.specs.Prelude.{◌≡◌, ◌≢◌, ℕ, ◌<◌, ◌≤◌, Option, Some, None}
use Rattle.std.specs.Ordering.{nat_cmp}
use Rattle.std.specs.FinMap as map
use Rattle.nt_waits.specs.declared.wait.Wait.{Wait}

-- the deadline of a wait, if there is a wait and it has one
abbrev pub deadline_in : Option Wait → Option ℕ
deadline_in None = None
deadline_in (Some wait) = wait.deadline

-- the deadline of a thread's pending wait
abbrev pub deadline_of : map.FinMap nat_cmp Wait → ℕ → Option ℕ
deadline_of pending thread = deadline_in (map.get pending thread)

-- no pending wait has a deadline
abbrev pub NoDeadline : map.FinMap nat_cmp Wait → Type 0
NoDeadline pending = (thread : ℕ) → deadline_of pending thread ≡ None

-- no pending wait has a deadline before this moment
abbrev pub NoneEarlier : map.FinMap nat_cmp Wait → ℕ → Type 0
NoneEarlier pending moment = (thread deadline : ℕ) → deadline_of pending thread ≡ Some deadline → moment ≤ deadline

-- some pending wait has this deadline, and none has an earlier one
pub record IsEarliestDeadline (pending : map.FinMap nat_cmp Wait) (moment : ℕ) : Type 0 where
  pub has : (thread : ℕ) × (deadline_of pending thread ≡ Some moment)
  pub least : NoneEarlier pending moment

-- no pending wait has this deadline
abbrev pub NoneWithDeadline : map.FinMap nat_cmp Wait → ℕ → Type 0
NoneWithDeadline pending moment = (thread : ℕ) → deadline_of pending thread ≢ Some moment

-- the lowest thread whose pending wait has this deadline
pub record IsFirstWithDeadline (pending : map.FinMap nat_cmp Wait) (moment thread : ℕ) : Type 0 where
  pub has : deadline_of pending thread ≡ Some moment
  pub none_below : (lower : ℕ) → lower < thread → deadline_of pending lower ≢ Some moment
