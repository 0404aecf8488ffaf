-- Parking, with one wrong step, and what it then comes to.
use Rattle.std.specs.Prelude.{◌≡◌, ◌≢◌, ℕ, false}
use Rattle.nt_protocols.specs.Threads.{Step, when}
use Rattle.nt_protocols.specs.Parking.{State, Event, LooksSame, Listed, ToLook, ToPark, IsAt, goes, step, opening, unparks_all}
use Rattle.nt_counterexamples.specs.Runs.{Reaches}

-- who waits does not look at the value again under the latch
abbrev pub step_without_look : State → Event → Step State
step_without_look s (LooksSame t) = when (IsAt s t ToLook) (goes s t ToPark)
step_without_look s e = step s e

-- a thread stands in the list though the value is not the expected one, and none is to unpark it
abbrev pub ChangeIsLost : State → Type 0
ChangeIsLost s = (u : ℕ) × ((s.seats u).standing ≡ Listed) × (s.value ≢ (s.seats u).expected) × ((t : ℕ) → unparks_all (s.seats t).place ≡ false)

abbrev pub WithoutSecondLookUnderTheLatch : Type 0
WithoutSecondLookUnderTheLatch = Reaches step_without_look opening ChangeIsLost
