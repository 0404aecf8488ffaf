-- Who sleeps to which moment.
use Rattle.std.specs.Prelude.{◌≡◌, ◌⊎◌, ℕ, ◌≤◌, ◌<◌, Bool, true, false, List, [], ◌∷◌, ◌++◌, map, length, slice_set, Option, Some, None}
use Rattle.std.specs.FinMap.{get}
use Rattle.nt_status.specs.declared.limits.TheConstants.{MAX_MOMENT, MAX_MANY_THREADS}
use Rattle.nt_alarms.specs.Alarms.{alarm_at}
use Rattle.nt_marks.specs.Marks.{is_marked, NoneMarked}
use Rattle.nt_waits.specs.declared.wait.Wait.{Wait}
use Rattle.nt_calls.specs.declared.call.Grant.{Grant}
use Rattle.nt_calls.specs.State.{State, pends}
use Rattle.nt_calls.specs.Steps.{IsAwaited, IsNextMoment}
use Rattle.nt_machine.specs.Dispatcher.{Dispatcher, state}
use Rattle.nt_life.specs.Lasting.{Spares}
use Rattle.nt_sleepers.specs.declared.told.Told.{Told}

-- the dispatcher, and the numbers that are spare in it, if it gives any again; by thread the moment to which it sleeps by itself, and whether
-- a timer may end its wait; and who is called
pub record Sleeping : Type 0 where
  pub core : Dispatcher
  pub spare : Option Spares
  pub alarms : List (Option ℕ)
  pub watchers : List Bool
  pub called : Option ℕ

-- ---- what always holds

-- some thread sleeps by itself no longer than to this moment
abbrev pub SleepsUpTo : List (Option ℕ) → ℕ → Type 0
SleepsUpTo alarms u = (t m : ℕ) × (alarm_at alarms t ≡ Some m) × (m ≤ u)

-- no thread sleeps by itself to this moment, or to one before it
abbrev pub NoneUpTo : List (Option ℕ) → ℕ → Type 0
NoneUpTo alarms u = (t m : ℕ) → alarm_at alarms t ≡ Some m → u < m

-- whatever is awaited, some thread sleeps no longer than to that moment, or no thread watches
abbrev pub IsWatched : State → List (Option ℕ) → List Bool → Type 0
IsWatched s alarms watchers = (u : ℕ) → u ≤ MAX_MOMENT → IsAwaited s u → NoneMarked watchers ⊎ SleepsUpTo alarms u

-- when a wait times out
abbrev pub time_out_of : Option Wait → Option ℕ
time_out_of None = None
time_out_of (Some w) = w.deadline

-- this thread sleeps by itself no longer than to this moment, or was stopped, and has no alarm
abbrev pub IsBack : List (Option ℕ) → ℕ → ℕ → Type 0
IsBack alarms t u = (alarm_at alarms t ≡ None) ⊎ ((m : ℕ) × (alarm_at alarms t ≡ Some m) × (m ≤ u))

-- each thread whose wait times out is back by then
abbrev pub MeetsDeadlines : State → List (Option ℕ) → Type 0
MeetsDeadlines s alarms = (t u : ℕ) → time_out_of (get s.waits t) ≡ Some u → IsBack alarms t u

-- whatever is awaited, some thread sleeps no longer than to that moment; or no thread watches, and only waits of threads that were stopped
-- time out then. (No thread watches: of each whose wait pends it was said that no timer may end it, or nothing yet.)
abbrev pub IsInTime : State → List (Option ℕ) → List Bool → Type 0
IsInTime s alarms watchers =
    (u : ℕ) → u ≤ MAX_MOMENT → IsAwaited s u →
    SleepsUpTo alarms u ⊎ (NoneMarked watchers × ((t : ℕ) → time_out_of (get s.waits t) ≡ Some u → alarm_at alarms t ≡ None))

-- only threads whose waits pend sleep
abbrev pub OnlyWaitingSleep : State → List (Option ℕ) → Type 0
OnlyWaitingSleep s alarms = (t m : ℕ) → alarm_at alarms t ≡ Some m → pends s t ≡ true

-- only threads whose waits pend watch
abbrev pub OnlyWaitingWatch : State → List Bool → Type 0
OnlyWaitingWatch s watchers = (t : ℕ) → is_marked watchers t ≡ true → pends s t ≡ true

-- whoever sleeps or watches waits, and the time is kept: for each deadline by the thread itself, and for timers by one of those who watch or sleep
pub record TimeIsKept (s : State) (alarms : List (Option ℕ)) (watchers : List Bool) : Type 0 where
  pub few : length alarms ≤ MAX_MANY_THREADS
  pub places : length alarms ≡ s.threads
  pub count : length watchers ≡ length alarms
  pub asleep : OnlyWaitingSleep s alarms
  pub watching : OnlyWaitingWatch s watchers
  pub deadlines : MeetsDeadlines s alarms
  pub in_time : IsInTime s alarms watchers

-- who is called waits
abbrev pub CalledWaits : State → Option ℕ → Type 0
CalledWaits s None = Unit {0}
CalledWaits s (Some t) = pends s t ≡ true

-- ---- a call or tick

-- each thread that has one of these grants has nothing at its place any more: it no longer sleeps, or watches
abbrev pub without_woken : {X : Type 0} → X → List Grant → List X → List X
without_woken nothing [] places = places
without_woken nothing (g ∷ gs) places = without_woken nothing gs (slice_set places g.thread nothing)

-- what thread t has at its place is this now, if it is so
abbrev pub set_if : {X : Type 0} → Bool → ℕ → X → List X → List X
set_if false t x places = places
set_if true t x places = slice_set places t x

-- who is called sleeps no longer than to moment 0
abbrev pub with_called : Option ℕ → List (Option ℕ) → List (Option ℕ)
with_called None alarms = alarms
with_called (Some t) alarms = slice_set alarms t (Some 0)

-- who is called watches, and something is awaited before any thread wakes by itself
abbrev pub IsCalledToLook : State → List (Option ℕ) → List Bool → Option ℕ → Type 0
IsCalledToLook s alarms watchers None = Unit {0}
IsCalledToLook s alarms watchers (Some t) =
    (u : ℕ) × (is_marked watchers t ≡ true) × (u ≤ MAX_MOMENT) × IsAwaited s u × NoneUpTo alarms u

-- the alarms before anybody is called: whom the grants woke no longer sleeps, and whose wait began sleeps to its deadline
abbrev pub settled : List (Option ℕ) → ℕ → Bool → Dispatcher → List (Option ℕ)
settled alarms who began new = set_if began who (time_out_of (get (state new).waits who)) (without_woken None new.grants alarms)

-- after a call of thread `who`, whose wait began or did not, or after a tick
pub record Woke (old : Sleeping) (who : ℕ) (began : Bool) (new : Sleeping) : Type 0 where
  pub alarms : new.alarms ≡ with_called new.called (settled old.alarms who began new.core)
  pub watchers : new.watchers ≡ without_woken false new.core.grants old.watchers
  pub called : IsCalledToLook (state new.core) (settled old.alarms who began new.core) new.watchers new.called

-- whom the last call or tick told: each wait that ended with its status, in their order, and then who is to look at the time
abbrev pub told_of : List Grant → Option ℕ → List Told
told_of grants None = map Told.Granted grants
told_of grants (Some t) = map Told.Granted grants ++ Told.Called t ∷ []

-- ---- a watcher

-- a thread that sleeps to this moment, or one of the others, sleeps no longer than to whichever moment is awaited
abbrev pub IsShortEnough : State → List (Option ℕ) → Option ℕ → Type 0
IsShortEnough s others moment =
    (u : ℕ) → u ≤ MAX_MOMENT → IsAwaited s u → ((m : ℕ) × (moment ≡ Some m) × (m ≤ u)) ⊎ SleepsUpTo others u

-- a thread whose wait has this deadline, or none, sleeps to this moment: to the deadline, or to the next moment that is awaited
abbrev pub SleepsTo : State → Option ℕ → Option ℕ → Type 0
SleepsTo s own moment = (moment ≡ own) ⊎ ((u : ℕ) × (moment ≡ Some u) × IsNextMoment s MAX_MOMENT u)

-- thread t watches from now on, if its wait pends, and sleeps to this moment
pub record Watches (old : Sleeping) (t : ℕ) (moment : Option ℕ) (new : Sleeping) : Type 0 where
  pub core : new.core ≡ old.core
  pub spare : new.spare ≡ old.spare
  pub called : new.called ≡ old.called
  pub sleeps : SleepsTo (state old.core) (time_out_of (get (state old.core).waits t)) moment
  pub alarms : new.alarms ≡ set_if (pends (state old.core) t) t moment old.alarms
  pub watchers : new.watchers ≡ set_if (pends (state old.core) t) t true old.watchers

-- thread t sleeps and watches no more, though its wait may pend, and a watcher may be called in its place
pub record StopsSleeping (old : Sleeping) (t : ℕ) (new : Sleeping) : Type 0 where
  pub core : new.core ≡ old.core
  pub spare : new.spare ≡ old.spare
  pub alarms : new.alarms ≡ with_called new.called (slice_set old.alarms t None)
  pub watchers : new.watchers ≡ slice_set old.watchers t false
  pub called : IsCalledToLook (state old.core) (slice_set old.alarms t None) new.watchers new.called

-- ---- a thread that begins

-- those who sleep and watch are the same, and nobody is called
pub record LetsSleep (old new : Sleeping) : Type 0 where
  pub alarms : new.alarms ≡ old.alarms
  pub watchers : new.watchers ≡ old.watchers
  pub called : new.called ≡ None
