-- What the functions that decide tell of one thread. No public clause cites this.
use Rattle.std.specs.Prelude.{◌≡◌, ◌<◌, ℕ, Bool, true, false, not, List, length, Some, ◌&&◌, ◌||◌}
use Rattle.nt_objects.specs.declared.object.Object.{Object}
use Rattle.std.specs.FinMap.{get}
use Rattle.nt_waits.specs.declared.wait.Wait.{Wait}
use Rattle.nt_calls.specs.State.{State, pends}
use Rattle.nt_calls.specs.Living.{runs}
use Rattle.nt_status.specs.Access.{set_context}
use Rattle.nt_look.specs.Hangs.{will_come, ends_in_time, fits_in_time, is_called_in_time, is_given, is_held, IsTied, marked, unmarked}

-- its deadline, armed timers or their APC can end the wait of thread t
abbrev pub ends_by_time : List Object → ℕ → Wait → Bool
ends_by_time objects t w = will_come w.deadline || (fits_in_time objects t w || (w.alertable && is_called_in_time objects t))

-- the thread does not run, makes no call any more, or waits; and time alone does not end its wait
pub record IsHanging (callers : ℕ → Bool) (s : State) (t : ℕ) : Type 0 where
  pub waits : callers t ≡ true → runs s t ≡ true → pends s t ≡ true
  pub lasts : (w : Wait) → get s.waits t ≡ Some w → ends_in_time s t w ≡ false

-- a timer will queue an APC to thread t, or a handle has the right to
abbrev pub is_in_reach : State → ℕ → Bool
is_in_reach s t = is_called_in_time s.objects t || is_given s set_context t

-- no deadline of this wait of thread t comes, no APC can end it, and the knot holds what it needs
abbrev pub is_bound : State → (ℕ → Bool) → ℕ → Wait → Bool
is_bound s knot t w = not (will_come w.deadline) && (not (w.alertable && is_in_reach s t) && is_held s knot t w)

-- a marked thread that may call and is not tied
pub record IsUntied (over knot : List Bool) (s : State) (t : ℕ) : Type 0 where
  pub inside : marked knot t ≡ true
  pub calls : unmarked over t ≡ true
  pub known : t < length knot
  pub free : IsTied (marked knot) s t → ⊥
