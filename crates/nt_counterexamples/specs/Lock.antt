-- The lock that favours a thread, with one wrong step each, and what it then comes to.
use Rattle.std.specs.Prelude.{◌≡◌, ◌≢◌, ℕ, true, false}
use Rattle.nt_protocols.specs.Threads.{Step, when}
use Rattle.nt_protocols.specs.Lock.{State, Event, PassesBarrier, StirsOn, FindsRevoked, MarksHeld, MarksFree, Taken, Wanted, Free, Inside, Asleep, AsleepOn, ToBar, ToLook, ToMark, ToReload, ToSleep, Owner, Out, place_of, IsAt, IsDrained, is_held, goes, makes, step, opening, has, will_wake, ComesToWake}
use Rattle.nt_counterexamples.specs.Runs.{Reaches}

-- two threads have the lock
abbrev pub TwoHaveIt : State → Type 0
TwoHaveIt s = (t : ℕ) × (u : ℕ) × (has (place_of s t) ≡ true) × (has (place_of s u) ≡ true) × (t ≢ u)

-- who revokes a favour has nobody pass a barrier
abbrev pub step_without_barrier : State → Event → Step State
step_without_barrier s (PassesBarrier t n once) = when (IsAt s t (ToBar n once)) (goes s t (ToLook n once))
step_without_barrier s e = step s e

abbrev pub WithoutBarriers : Type 0
WithoutBarriers = Reaches step_without_barrier opening TwoHaveIt

-- who was woken from a thread's `inside` does not look again
abbrev pub step_with_one_look : State → Event → Step State
step_with_one_look s (StirsOn t n) = when (IsAt s t (AsleepOn n)) (goes s t Owner)
step_with_one_look s e = step s e

abbrev pub WithOneLook : Type 0
WithOneLook = Reaches step_with_one_look opening TwoHaveIt

-- a thread sleeps on another's `inside`, and that one is not to wake it
abbrev pub WaitsForTheFavouredInVain : State → Type 0
WaitsForTheFavouredInVain s = (u : ℕ) × (n : ℕ) × IsAt s u (AsleepOn n) × (will_wake (place_of s n) (s.seats n).under ≡ false)

-- who steps out wakes nobody
abbrev pub step_without_wake_up : State → Event → Step State
step_without_wake_up s (FindsRevoked t) = when (IsAt s t ToReload) (goes s t Out)
step_without_wake_up s e = step s e

abbrev pub WithoutWakeUpOfWhoRevoked : Type 0
WithoutWakeUpOfWhoRevoked = Reaches step_without_wake_up opening WaitsForTheFavouredInVain

-- who is to sleep on the lock does not first wake who sleeps on its own `inside`
abbrev pub step_without_paying : State → Event → Step State
step_without_paying s (MarksHeld t) = when (IsAt s t ToMark × IsDrained s t × (is_held s.lock ≡ true)) (makes s t Wanted ToSleep)
step_without_paying s e = step s e

-- one sleeps until the other is outside, that one sleeps on the lock, and nobody else has called
abbrev pub BothSleep : State → Type 0
BothSleep s = IsAt s 1 (AsleepOn 0) × IsAt s 0 Asleep × ((t : ℕ) → t ≢ 0 → t ≢ 1 → IsAt s t Out)

abbrev pub WithAWakeUpOwedInSleep : Type 0
WithAWakeUpOwedInSleep = Reaches step_without_paying opening BothSleep

-- who was woken makes a free lock taken, and not wanted
abbrev pub step_forgetting : State → Event → Step State
step_forgetting s (MarksFree t) = when (IsAt s t ToMark × IsDrained s t × (s.lock ≡ Free)) (makes s t Taken Owner)
step_forgetting s e = step s e

-- a thread sleeps on the lock, and none comes to a step that wakes it
abbrev pub SleepsInVain : State → Type 0
SleepsInVain s = (u : ℕ) × IsAt s u Asleep × ((v : ℕ) → ComesToWake s v → ⊥)

abbrev pub WithASleeperForgotten : Type 0
WithASleeperForgotten = Reaches step_forgetting opening SleepsInVain

-- by the right steps: one has the lock as the favoured one, while one sleeps on its `inside`, and one on the lock
abbrev pub AllAtOnce : Type 0
AllAtOnce = Reaches step opening (λ s. IsAt s 0 Inside × IsAt s 1 (AsleepOn 0) × IsAt s 2 Asleep)
