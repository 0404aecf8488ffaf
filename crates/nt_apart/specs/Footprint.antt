-- What a call may touch, and that two calls which touch nothing in common commute.
use Rattle.std.specs.Prelude.{◌≡◌, ◌≢◌, ◌⊎◌, ℕ, Bool, true, false, ◌||◌, ◌==◌, nat_le, List, Some, Ok}
use Rattle.std.specs.FinMap.{get}
use Rattle.nt_objects.specs.declared.object.Object.{Object}
use Rattle.nt_objects.specs.declared.object.Object.TheVariants.{Mutex, Timer}
use Rattle.nt_objects.specs.Object.{set_by}
use Rattle.nt_waits.specs.declared.wait.Wait.{Wait}
use Rattle.nt_apc.specs.Queues.{apc_queue_of, has_from}
use Rattle.nt_calls.specs.declared.call.Call.{Call}
use Rattle.nt_calls.specs.declared.call.Act.{Act}
use Rattle.nt_calls.specs.declared.call.WaitCall.{WaitCall}
use Rattle.nt_calls.specs.declared.call.Reply.{Reply}
use Rattle.nt_calls.specs.declared.call.Grant.{Grant}
use Rattle.nt_calls.specs.State.{State, object_at, wait_names, pends}
use Rattle.nt_calls.specs.Change.{due_moment}
use Rattle.nt_calls.specs.Living.{LivesWhileKept}
use Rattle.nt_calls.specs.Steps.{Step, Called, asked_wait}
use Rattle.nt_apart.specs.Apart.{IsQuiet, CallsGoOtherwise, signals_one, signaled_one, IsInReach, queues_one, queued_to, times_one, timed_one}

-- ---- the footprint of a call

-- the act closes a handle
abbrev pub closes_one : Act → Bool
closes_one (Act.Close h) = true
closes_one _ = false

-- the act takes an APC of the thread that makes it
abbrev pub takes_apc : Act → Bool
takes_apc Act.NextApc = true
takes_apc _ = false

-- at this moment the act sets a timer that is due at once
abbrev pub fires_one : ℕ → Act → Bool
fires_one now (Act.SetTimer h due period routine) = nat_le (due_moment now due) now
fires_one now _ = false

-- the calls whose footprint is defined: all but creations and duplicates of handles
abbrev pub has_footprint : ℕ → Call → Bool
has_footprint now (Call.Act a) = signals_one a || (queues_one a || (times_one now a || (closes_one a || (takes_apc a || fires_one now a))))
has_footprint now (Call.Wait wait) = true
has_footprint now Call.Exit = true

-- the wait signals object h before
abbrev pub SignalsFirst : WaitCall → ℕ → Type 0
SignalsFirst (WaitCall.Swap signal object mode) h = h ≡ signal
SignalsFirst _ h = ⊥

-- thread u waits for object h
abbrev pub WaitsFor : State → ℕ → ℕ → Type 0
WaitsFor s u h = (w : Wait) × (get s.waits u ≡ Some w) × (wait_names w h ≡ true)

-- an APC of timer h stands in thread u's queue
abbrev pub has_apc_from : State → ℕ → ℕ → Bool
has_apc_from s u h = has_from h (apc_queue_of s.apcs u)

-- the object is thread t's: a mutex that it owns, or a timer that it armed with a routine
abbrev pub belongs : ℕ → Object → Bool
belongs t (Mutex (Some owner) depth abandoned) = owner == t
belongs t (Timer manual set (Some armed)) = set_by armed.routine t
belongs t _ = false

-- thread t's exit changes the object: it is the thread's own, or belongs to it
abbrev pub ends_with : State → ℕ → ℕ → Bool
ends_with s t h = (h == t) || belongs t (object_at s.objects h)

-- a signal touches each object within its reach, and so does a timer that is due at once; another timer's act touches that timer, and a wait its objects
-- and those within reach of what it signals before; an exit touches what is within reach of the thread's own object and of what belongs to it
abbrev pub TouchesObject : State → ℕ → Call → ℕ → Type 0
TouchesObject s t (Call.Act a) o =
    ((signals_one a ≡ true) × IsInReach s (signaled_one a) o)
    ⊎ (((times_one s.now a ≡ true) × (o ≡ timed_one a)) ⊎ ((fires_one s.now a ≡ true) × IsInReach s (timed_one a) o))
TouchesObject s t (Call.Wait wait) o = (wait_names (asked_wait s.now wait) o ≡ true) ⊎ ((h : ℕ) × SignalsFirst wait h × IsInReach s h o)
TouchesObject s t Call.Exit o = (h : ℕ) × (ends_with s t h ≡ true) × IsInReach s h o

-- a signal touches each thread that waits for its object, an APC its thread, a timer's act each thread that has an APC of it; a timer that is due at once
-- touches also who sets it, and who waits for it. A wait, an exit and an act that takes an APC touch their own thread; a wait also those that wait for
-- what it signals before, and an exit those that wait for what it changes
abbrev pub TouchesThread : State → ℕ → Call → ℕ → Type 0
TouchesThread s t (Call.Act a) u =
    ((signals_one a ≡ true) × WaitsFor s u (signaled_one a))
    ⊎ (((queues_one a ≡ true) × (u ≡ queued_to a))
    ⊎ (((times_one s.now a ≡ true) × (has_apc_from s u (timed_one a) ≡ true))
    ⊎ (((takes_apc a ≡ true) × (u ≡ t))
    ⊎ ((fires_one s.now a ≡ true) × ((u ≡ t) ⊎ ((has_apc_from s u (timed_one a) ≡ true) ⊎ WaitsFor s u (timed_one a)))))))
TouchesThread s t (Call.Wait wait) u = (u ≡ t) ⊎ ((h : ℕ) × SignalsFirst wait h × WaitsFor s u h)
TouchesThread s t Call.Exit u = (u ≡ t) ⊎ ((h : ℕ) × (ends_with s t h ≡ true) × WaitsFor s u h)

-- no object and no thread is touched by t's call and by u's
pub record TouchNothingInCommon (s : State) (t u : ℕ) (a b : Call) : Type 0 where
  pub objects : (o : ℕ) → TouchesObject s t a o → TouchesObject s u b o → ⊥
  pub threads : (v : ℕ) → TouchesThread s t a v → TouchesThread s u b v → ⊥

-- ---- the law

-- two threads that wait for nothing make such calls, which are steps, one after the other
pub record AreStepsApart (s mid new : State) (t u : ℕ) (a b : Call) (ra rb : Reply) (ga gb : List Grant) : Type 0 where
  pub quiet : IsQuiet s
  pub first_kind : has_footprint s.now a ≡ true
  pub second_kind : has_footprint s.now b ≡ true
  -- (who has ended makes no call)
  pub differ : (a ≡ Call.Exit) ⊎ (b ≡ Call.Exit) → t ≢ u
  pub first_idle : pends s t ≡ false
  pub second_idle : pends s u ≡ false
  pub apart : TouchNothingInCommon s t u a b
  pub first : Step s t a ra ga mid
  pub second : Step mid u b rb gb new

-- they are steps in the other order too: with the same replies, the same waits ended by each, and the same state after both
pub record GoOtherwise (s new : State) (t u : ℕ) (a b : Call) (ra rb : Reply) (ga gb : List Grant) : Type 0 where
  pub mid : State
  pub first : Step s u b rb gb mid
  pub second : Step mid t a ra ga new

-- such steps commute
abbrev pub StepsApartCommute : Type 0
StepsApartCommute =
    (s mid new : State) (t u : ℕ) (a b : Call) (ra rb : Reply) (ga gb : List Grant)
    → AreStepsApart s mid new t u a b ra rb ga gb
    → GoOtherwise s new t u a b ra rb ga gb

-- ---- whole calls that close handles

-- two handles are closed, one after the other; what they name may end with them
pub record AreTwoCloses (s mid new : State) (t u h k : ℕ) (ra rb : Reply) (ga gb : List Grant) : Type 0 where
  pub quiet : IsQuiet s
  pub living : LivesWhileKept s
  pub first : Called s t (Call.Act (Act.Close h)) (Ok ra) ga mid
  pub second : Called mid u (Call.Act (Act.Close k)) (Ok rb) gb new

-- such calls commute
abbrev pub TwoClosesCommute : Type 0
TwoClosesCommute =
    (s mid new : State) (t u h k : ℕ) (ra rb : Reply) (ga gb : List Grant)
    → AreTwoCloses s mid new t u h k ra rb ga gb
    → CallsGoOtherwise s new t u (Act.Close h) (Act.Close k) ra rb ga gb
