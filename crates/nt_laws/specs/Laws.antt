-- What follows from the definitions alone.
use Rattle.std.specs.Prelude.{◌≡◌, ◌↔◌, ◌⊎◌, ℕ, ◌+◌, ◌-◌, ◌≤◌, ◌<◌, ℤ, pos, ◌+ℤ◌, Bool, true, false, not, ◌&&◌, List, [], ◌∷◌, map, length, count_by, if◌then◌else◌, ◌==◌}
use Rattle.std.specs.declared.result.Result.{Result}
use Rattle.std.specs.declared.result.Result.TheVariants.{Ok, Err}
use Rattle.nt_status.specs.declared.refusal.Refusal.{Refusal}
use Rattle.nt_status.specs.declared.refusal.Refusal.TheVariants.{Memory}
use Rattle.std.specs.List.{list_any}
use Rattle.std.specs.FinMap.{get}
use Rattle.std.specs.declared.option.Option.{Option}
use Rattle.std.specs.declared.option.Option.TheVariants.{None, Some}
use Rattle.nt_status.specs.Flags.{has_flag, event_initial_set, mutex_initial_owner}
use Rattle.nt_objects.specs.declared.object.Object.{Object}
use Rattle.nt_objects.specs.declared.object.Object.TheVariants.{Event}
use Rattle.nt_objects.specs.Object.{is_semaphore, is_mutex, count_of, owned_by, depth_of, IsLawfulObject}
use Rattle.nt_calls.specs.declared.call.Call.{Call}
use Rattle.nt_calls.specs.declared.call.Act.{Act}
use Rattle.nt_calls.specs.declared.call.WaitCall.{WaitCall}
use Rattle.nt_calls.specs.declared.call.Reply.{Reply}
use Rattle.nt_calls.specs.declared.call.Grant.{Grant}
use Rattle.nt_tables.specs.declared.handles.Opened.{Opened}
use Rattle.nt_tables.specs.Handles.{opened_at}
use Rattle.nt_waits.specs.declared.wait.Wait.{Wait}
use Rattle.nt_waits.specs.Waits.{Names}
use Rattle.nt_calls.specs.Living.{runs, lives}
use Rattle.nt_calls.specs.Naming.{call_named}
use Rattle.nt_calls.specs.State.{State, opening, object_at}
use Rattle.nt_calls.specs.Serving.{Serve}
use Rattle.nt_calls.specs.Runs.{Turn, Calls, Ticks, Turns, Run}
use Rattle.nt_laws.specs.Takes.{turn_took, takes, takers}

-- the order of grants leaves no choice: from one state and one sequence, serving gives the same grants and ends in the same state
abbrev pub ServesOneWay : Type 0
ServesOneWay = (threads : List ℕ) (old a b : State) (gs hs : List Grant) → Serve threads old gs a → Serve threads old hs b → (gs ≡ hs) × (a ≡ b)

-- what was asked for in a turn: a call, or a tick to a moment
pub data Question : Type 0 where
  AsksCall : (who : ℕ) → (call : Call) → (wants_memory : Bool) → Question
  AsksTick : (by : ℕ) → (moment : ℕ) → Question

-- the call was refused since it found no memory
abbrev pub wants_memory : Result Reply Refusal → Bool
wants_memory (Err Memory) = true
wants_memory _ = false

-- what a turn asked: who calls what and whether memory was wanting, or who ticks to which moment
abbrev pub question : Turn → Question
question (Calls who call result grants) = AsksCall who call (wants_memory result)
question (Ticks by moment result grants) = AsksTick by moment

-- runs leave no choice: where the same calls and ticks came in the same order, and memory was refused to the same calls, the
-- results and the grants of each turn are the same, and so is the state
abbrev pub RunsOneWay : Type 0
RunsOneWay = (n : ℕ) (turns others : List Turn) (a b : State) → Run n turns a → Run n others b → map question turns ≡ map question others → (turns ≡ others) × (a ≡ b)

-- the three laws that follow speak of an object at the end of a run, so of one that lives then; of one that is gone they hold as long
-- as it lived, since each beginning of a run is a run

-- ---- semaphores

-- what an act gives to the semaphore with number h, where the next object has number n: the count that it begins with, and what
-- it is released by
abbrev pub act_gives : ℕ → ℕ → Act → ℤ
act_gives h n (Act.CreateSemaphore initial maximum) = if n == h then initial else pos 0
act_gives h n (Act.ReleaseSemaphore g count) = if g == h then count else pos 0
act_gives h n _ = pos 0

-- and a swap that signals it gives one
abbrev pub call_gives : ℕ → ℕ → Call → ℤ
call_gives h n (Call.Act act) = act_gives h n act
call_gives h n (Call.Wait (WaitCall.Swap g object mode)) = if g == h then pos 1 else pos 0
call_gives h n _ = pos 0

-- by whichever handle
abbrev pub turn_gives : ℕ → State → Turn → ℤ
turn_gives h old (Calls who call (Ok reply) grants) = call_gives h (length old.objects) (call_named old.handles call)
turn_gives h old _ = pos 0

-- what these turns gave to the semaphore with number h
abbrev pub given_to : (h : ℕ) (old : State) (turns : List Turn) (new : State) → Turns old turns new → ℤ
given_to h old [] new run = pos 0
given_to h old (turn ∷ turns) new run = turn_gives h old turn +ℤ given_to h run.0 turns new run.2

-- a semaphore hands out what it was given and no more: over every run its count and the number of times that it was taken
-- make up what it was given, by whichever handles, and its count stays between zero and its maximum
abbrev pub SemaphoresGiveWhatTheyHave : Type 0
SemaphoresGiveWhatTheyHave =
    (n : ℕ) (turns : List Turn) (s : State) (run : Run n turns s) (h : ℕ)
    → is_semaphore (object_at s.objects h) ≡ true
    → (count_of (object_at s.objects h) +ℤ pos (length (takers h (takes (opening n) turns s run))) ≡ given_to h (opening n) turns s run)
    × IsLawfulObject (object_at s.objects h)

-- ---- mutexes

-- how many releases of the mutex with number h thread t owes after an act of thread `who`, if it owed so many before, where the next
-- object has number n: one more where it creates the mutex for itself, one less where it releases it
abbrev pub act_owes : ℕ → ℕ → ℕ → ℕ → Act → ℕ → ℕ
act_owes h n t who (Act.CreateMutex flags) owed = if (n == h) && has_flag flags mutex_initial_owner && who == t then owed + 1 else owed
act_owes h n t who (Act.ReleaseMutex g) owed = if g == h && who == t then owed - 1 else owed
act_owes h n t who _ owed = owed

-- and a swap that signals it releases it, and a thread that ends owes none
abbrev pub call_owes : ℕ → ℕ → ℕ → ℕ → Call → ℕ → ℕ
call_owes h n t who (Call.Act act) owed = act_owes h n t who act owed
call_owes h n t who (Call.Wait (WaitCall.Swap g object mode)) owed = if g == h && who == t then owed - 1 else owed
call_owes h n t who Call.Exit owed = if who == t then 0 else owed
call_owes h n t who _ owed = owed

abbrev pub turn_owes : ℕ → ℕ → State → Turn → ℕ → ℕ
turn_owes h t old (Calls who call (Ok reply) grants) owed = call_owes h (length old.objects) t who (call_named old.handles call) owed
turn_owes h t old _ owed = owed

-- how many releases of the mutex with number h thread t owes after these turns, if it owed so many before: one more for each taking
abbrev pub owed_after : (h t owed : ℕ) (old : State) (turns : List Turn) (new : State) → Turns old turns new → ℕ
owed_after h t owed old [] new run = owed
owed_after h t owed old (turn ∷ turns) new run =
    owed_after h t (turn_owes h t old turn owed + count_by (λ u. u == t) (takers h (turn_took old turn))) run.0 turns new run.2

-- how deep thread t holds the mutex
abbrev pub held_by : ℕ → Object → ℕ
held_by t o = if owned_by o t then depth_of o else 0

-- a mutex has one owner at most: after every run a thread holds it as deep as it owes releases of it, and no two threads owe one
abbrev pub OneOwner : Type 0
OneOwner =
    (n : ℕ) (turns : List Turn) (s : State) (run : Run n turns s) (h t : ℕ)
    → is_mutex (object_at s.objects h) ≡ true
    → (owed_after h t 0 (opening n) turns s run ≡ held_by t (object_at s.objects h))
    × ((u : ℕ) → 0 < owed_after h t 0 (opening n) turns s run → 0 < owed_after h u 0 (opening n) turns s run → t ≡ u)

-- ---- events

-- an act sets the event with number h, where the next object has number n: SetEvent, PulseEvent, or its creation with the flag for
-- that
abbrev pub act_sets : ℕ → ℕ → Act → Bool
act_sets h n (Act.CreateEvent flags) = (n == h) && has_flag flags event_initial_set
act_sets h n (Act.SetEvent g) = g == h
act_sets h n (Act.PulseEvent g) = g == h
act_sets h n _ = false

-- and so does a swap that signals it
abbrev pub call_sets : ℕ → ℕ → Call → Bool
call_sets h n (Call.Act act) = act_sets h n act
call_sets h n (Call.Wait (WaitCall.Swap g object mode)) = g == h
call_sets h n _ = false

abbrev pub turn_sets : ℕ → State → Turn → Bool
turn_sets h old (Calls who call (Ok reply) grants) = call_sets h (length old.objects) (call_named old.handles call)
turn_sets h old _ = false

-- how many of these turns set the event with number h
abbrev pub times_set : (h : ℕ) (old : State) (turns : List Turn) (new : State) → Turns old turns new → ℕ
times_set h old [] new run = 0
times_set h old (turn ∷ turns) new run = (if turn_sets h old turn then 1 else 0) + times_set h run.0 turns new run.2

abbrev pub is_auto_reset : Object → Bool
is_auto_reset (Event manual set) = not manual
is_auto_reset _ = false

-- 1 for an event that is set
abbrev pub set_now : Object → ℕ
set_now (Event manual set) = if set then 1 else 0
set_now _ = 0

-- one set of an auto-reset event ends one wait: in any part of a run the event is taken no more often than it is set, where a
-- set that stands at the beginning counts, and one that stands at the end has ended no wait
abbrev pub OneSetOneWait : Type 0
OneSetOneWait =
    (n : ℕ) (before turns : List Turn) (mid s : State)
    → Run n before mid
    → (part : Turns mid turns s) (h : ℕ)
    → is_auto_reset (object_at s.objects h) ≡ true
    → length (takers h (takes mid turns s part)) + set_now (object_at s.objects h) ≤ times_set h mid turns s part + set_now (object_at mid.objects h)

-- ---- handles

-- the call closes the handle
abbrev pub call_closes : ℕ → Call → Bool
call_closes h (Call.Act (Act.Close g)) = g == h
call_closes h _ = false

-- and was accepted
abbrev pub turn_closes : ℕ → Turn → Bool
turn_closes h (Calls who call (Ok reply) grants) = call_closes h call
turn_closes h _ = false

-- a number is handed out once: over every part of a run it names the same object with the same rights, and nothing from its
-- closing on
abbrev pub HandlesStay : Type 0
HandlesStay =
    (n : ℕ) (before turns : List Turn) (mid s : State)
    → Run n before mid
    → Turns mid turns s
    → (h : ℕ) → h < length mid.handles
    → opened_at s.handles h ≡ (if list_any (turn_closes h) turns then None else opened_at mid.handles h)

-- some handle of the object has each of these rights
abbrev pub HasRights : List (Option Opened) → ℕ → ℕ → Type 0
HasRights handles o access =
    (h : ℕ) × (opened : Opened) × (opened_at handles h ≡ Some opened) × (opened.object ≡ o) × (has_flag opened.access access ≡ true)

-- rights never grow: over every part of a run, the rights that a handle of an object has at the end, a handle of it had at the
-- beginning, if the object was there; so a right that no handle of an object has any more never comes back
abbrev pub RightsNeverGrow : Type 0
RightsNeverGrow =
    (n : ℕ) (before turns : List Turn) (mid s : State)
    → Run n before mid
    → Turns mid turns s
    → (o access : ℕ) → o < length mid.objects
    → HasRights s.handles o access → HasRights mid.handles o access

-- ---- living

-- a handle names it
abbrev pub HasHandle : State → ℕ → Type 0
HasHandle s o = (h : ℕ) × (opened : Opened) × (opened_at s.handles h ≡ Some opened) × (opened.object ≡ o)

-- a pending wait names it
abbrev pub HasWait : State → ℕ → Type 0
HasWait s o = (t : ℕ) × (w : Wait) × (get s.waits t ≡ Some w) × Names w o

-- a handle names it, a pending wait names it, or it is a thread that runs
abbrev pub IsKept : State → ℕ → Type 0
IsKept s o = HasHandle s o ⊎ HasWait s o ⊎ (runs s o ≡ true)

-- over every run an object lives exactly while a handle names it, a pending wait names it, or it is a thread that runs
abbrev pub LivesExactlyWhileKept : Type 0
LivesExactlyWhileKept = (n : ℕ) (turns : List Turn) (s : State) → Run n turns s → (o : ℕ) → (lives s o ≡ true) ↔ IsKept s o
