-- Lives: runs in which numbers are given again.
use Rattle.std.specs.Prelude.{◌≡◌, ◌↔◌, ℕ, ◌<◌, Bool, true, false, ◌&&◌, ◌||◌, List, [], ◌∷◌, map, length, if◌then◌else◌, ◌==◌, Option, Some, None, is_ok}
use Rattle.std.specs.List.{list_any}
use Rattle.std.specs.declared.result.Result.{Result}
use Rattle.std.specs.declared.result.Result.TheVariants.{Err}
use Rattle.nt_status.specs.declared.refusal.Refusal.{Refusal}
use Rattle.nt_status.specs.declared.refusal.Refusal.TheVariants.{Memory}
use Rattle.nt_tables.specs.declared.handles.Opened.{Opened}
use Rattle.nt_tables.specs.Handles.{opened_at}
use Rattle.nt_calls.specs.declared.call.Act.{Act}
use Rattle.nt_calls.specs.declared.call.Reply.{Reply}
use Rattle.nt_calls.specs.declared.call.Grant.{Grant}
use Rattle.nt_calls.specs.Living.{lives}
use Rattle.nt_calls.specs.State.{State, opening}
use Rattle.nt_calls.specs.Runs.{Turn, IsTurn, Run}
use Rattle.nt_core.specs.Renewals.{CreatesAgain, DuplicatesAgain, BeginsAgain, AddsVacant}
use Rattle.nt_core.specs.SetAside.{SetsAside}
use Rattle.nt_laws.specs.Laws.{Question, question, turn_closes, HasRights, IsKept}

-- a step of a life: a turn of the machine; or one that gives numbers again: to an object and its handle, to one handle more, or to a
-- thread and its handle; or one object number more, of an object that is gone; or another number for the object of an ended thread
pub data Stage : Type 0 where
  Takes : (turn : Turn) → Stage
  Creates : (who : ℕ) → (act : Act) → (object : ℕ) → (handle : ℕ) → (result : Result Reply Refusal) → (grants : List Grant) → Stage
  Shares : (who : ℕ) → (source : ℕ) → (access : ℕ) → (handle : ℕ) → (result : Result Reply Refusal) → (grants : List Grant) → Stage
  Begins : (thread : ℕ) → (handle : ℕ) → (result : Result Reply Refusal) → (grants : List Grant) → Stage
  Adds : (result : Result ℕ Refusal) → (grants : List Grant) → Stage
  Renumbers : (thread : ℕ) → (object : ℕ) → (done : Bool) → (grants : List Grant) → Stage

abbrev pub IsStage : State → Stage → State → Type 0
IsStage old (Takes turn) new = IsTurn old turn new
IsStage old (Creates who act object handle result grants) new = CreatesAgain old who act object handle result grants new
IsStage old (Shares who source access handle result grants) new = DuplicatesAgain old who source access handle result grants new
IsStage old (Begins thread handle result grants) new = BeginsAgain old thread handle result grants new
IsStage old (Adds result grants) new = AddsVacant old result grants new
IsStage old (Renumbers thread object done grants) new = SetsAside old thread object done grants new

-- the stages lead from the old state to the new one
abbrev pub Stages : State → List Stage → State → Type 0
Stages old [] new = new ≡ old
Stages old (stage ∷ stages) new = (mid : State) × IsStage old stage mid × Stages mid stages new

-- a life of n threads, from the opening on
abbrev pub Life : ℕ → List Stage → State → Type 0
Life n stages s = Stages (opening n) stages s

-- a run is a life of turns alone, and such a life is a run
abbrev pub RunsAreLives : Type 0
RunsAreLives = (n : ℕ) (turns : List Turn) (s : State) → Run n turns s ↔ Life n (map Takes turns) s

-- the stage gives this handle's number again
abbrev pub gives_handle : ℕ → Stage → Bool
gives_handle h (Takes turn) = false
gives_handle h (Creates who act object handle result grants) = if is_ok result then handle == h else false
gives_handle h (Shares who source access handle result grants) = if is_ok result then handle == h else false
gives_handle h (Begins thread handle result grants) = if is_ok result then handle == h else false
gives_handle h (Adds result grants) = false
gives_handle h (Renumbers thread object done grants) = false

-- the stage closes the handle
abbrev pub closes : ℕ → Stage → Bool
closes h (Takes turn) = turn_closes h turn
closes h _ = false

-- the number that an object has after the stage, if it had this one before: the new one, if it is the one that is renumbered
abbrev pub number_then : Stage → ℕ → ℕ
number_then (Renumbers thread object done grants) n = if done && (n == thread) then object else n
number_then _ n = n

-- the same after these stages
abbrev pub number_after : List Stage → ℕ → ℕ
number_after [] n = n
number_after (stage ∷ stages) n = number_after stages (number_then stage n)

-- what a handle that names this names after these stages: the same object, by the number that it has then, with the same rights
abbrev pub named_after : List Stage → Option Opened → Option Opened
named_after stages None = None
named_after stages (Some opened) = Some (record { object = number_after stages opened.object; access = opened.access })

-- over every part of a life in which its number is not given again, a handle names the same object, by the number that it has then,
-- with the same rights, and nothing from its closing on
abbrev pub HandlesStayUntilGivenAgain : Type 0
HandlesStayUntilGivenAgain =
    (n : ℕ) (before part : List Stage) (mid s : State)
    → Life n before mid
    → Stages mid part s
    → (h : ℕ) → h < length mid.handles
    → list_any (gives_handle h) part ≡ false
    → opened_at s.handles h ≡ (if list_any (closes h) part then None else named_after part (opened_at mid.handles h))

-- the stage gives this object's number again, to another object
abbrev pub gives_object : ℕ → Stage → Bool
gives_object o (Takes turn) = false
gives_object o (Creates who act object handle result grants) = if is_ok result then object == o else false
gives_object o (Shares who source access handle result grants) = false
gives_object o (Begins thread handle result grants) = if is_ok result then thread == o else false
gives_object o (Adds result grants) = false
gives_object o (Renumbers thread object done grants) = if done then object == o else false

-- rights never grow: over every part of a life in which its number is not given again, the rights that a handle of an object has at
-- the end, a handle of it had at the beginning, if the object was there
abbrev pub RightsNeverGrowUntilGivenAgain : Type 0
RightsNeverGrowUntilGivenAgain =
    (n : ℕ) (before part : List Stage) (mid s : State)
    → Life n before mid
    → Stages mid part s
    → (o access : ℕ) → o < length mid.objects
    → list_any (gives_object o) part ≡ false
    → HasRights s.handles o access → HasRights mid.handles o access

-- one of these stages gives the number that the object has then to another object
abbrev pub is_given_on : ℕ → List Stage → Bool
is_given_on o [] = false
is_given_on o (stage ∷ stages) = gives_object o stage || is_given_on (number_then stage o) stages

-- nor where it moves: over every part of a life in which the number that the object has then is not given to another, the rights that a
-- handle of it has at the end, a handle of it had at the beginning, if the object was there
abbrev pub RightsNeverGrowThoughMoved : Type 0
RightsNeverGrowThoughMoved =
    (n : ℕ) (before part : List Stage) (mid s : State)
    → Life n before mid
    → Stages mid part s
    → (o access : ℕ) → o < length mid.objects
    → is_given_on o part ≡ false
    → HasRights s.handles (number_after part o) access → HasRights mid.handles o access

-- over every life an object lives exactly while a handle names it, a pending wait names it, or it is a thread that runs
abbrev pub ObjectsLiveWhileKeptInLives : Type 0
ObjectsLiveWhileKeptInLives = (n : ℕ) (stages : List Stage) (s : State) → Life n stages s → (o : ℕ) → (lives s o ≡ true) ↔ IsKept s o

-- the object number was refused since there was no memory
abbrev pub wants_number : Result ℕ Refusal → Bool
wants_number (Err Memory) = true
wants_number _ = false

-- what was asked for in a stage
pub data Wish : Type 0 where
  AsksTurn : (asked : Question) → Wish
  AsksCreation : (who : ℕ) → (act : Act) → (object : ℕ) → (handle : ℕ) → Wish
  AsksShare : (who : ℕ) → (source : ℕ) → (access : ℕ) → (handle : ℕ) → Wish
  AsksBegin : (thread : ℕ) → (handle : ℕ) → Wish
  AsksNumber : (wants_memory : Bool) → Wish
  AsksMove : (thread : ℕ) → (object : ℕ) → Wish

abbrev pub wish : Stage → Wish
wish (Takes turn) = AsksTurn (question turn)
wish (Creates who act object handle result grants) = AsksCreation who act object handle
wish (Shares who source access handle result grants) = AsksShare who source access handle
wish (Begins thread handle result grants) = AsksBegin thread handle
wish (Adds result grants) = AsksNumber (wants_number result)
wish (Renumbers thread object done grants) = AsksMove thread object

-- lives leave no choice: where the same was asked for in the same order, and memory was refused to the same calls, all results and grants
-- are the same, and so is the state
abbrev pub LivesOneWay : Type 0
LivesOneWay = (n : ℕ) (stages others : List Stage) (a b : State) → Life n stages a → Life n others b → map wish stages ≡ map wish others → (stages ≡ others) × (a ≡ b)
