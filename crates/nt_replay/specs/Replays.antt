-- What replaying entries from a base tells of them.
use Rattle.std.specs.Prelude.{◌≡◌, ◌≢◌, ◌≤◌, ◌<◌, ◌+◌, ℕ, List, ◌++◌, length, map, take, drop, Some, Result, Ok, Err}
use Rattle.std.specs.List.{slice_get}
use Rattle.nt_status.specs.declared.refusal.Refusal.{Refusal}
use Rattle.nt_calls.specs.declared.call.Call.{Call}
use Rattle.nt_calls.specs.declared.call.Reply.{Reply}
use Rattle.nt_calls.specs.declared.call.Grant.{Grant}
use Rattle.nt_machine.specs.Dispatcher.{Dispatcher, state}
use Rattle.nt_core.specs.Renewals.{AddsVacant}
use Rattle.nt_laws.specs.Laws.{wants_memory}
use Rattle.nt_laws.specs.Lives.{Stage, Life, wants_number}
use Rattle.nt_calls.specs.State.{State}
use Rattle.nt_calls.specs.Steps.{Called as Makes}
use Rattle.nt_mail.specs.declared.entry.Entry.{Entry}
use Rattle.nt_mail.specs.declared.entry.Entry.TheVariants.{Called, Renewed}
use Rattle.nt_life.specs.declared.renewal.Renewal.TheVariants.{CreateAdded, Unadded}
use Rattle.nt_mail.specs.Journals.{granted, IsDeed, IsLifeFrom}
use Rattle.nt_replay.specs.declared.unreplayed.Unreplayed.{Unreplayed}
use Rattle.nt_replay.specs.declared.unreplayed.Unreplayed.TheVariants.{Differs, Memory}

-- a life of the machine from its opening leads to this state
abbrev pub IsReached : State → Type 0
IsReached s = (n : ℕ) × (stages : List Stage) × Life n stages s

-- a life from the base begins with these entries
abbrev pub LifeBegins : State → List Entry → Type 0
LifeBegins base es = (rest : List Entry) × (s : State) × IsLifeFrom base (es ++ rest) s

-- the entries before this place begin a life from the base, and those up to it begin none; the entries are no life, and so no run
pub record IsFirstToDiffer (base : State) (es : List Entry) (place : ℕ) : Type 0 where
  pub before : LifeBegins base (take place es)
  pub here : IsReached base → place < length es → ¬ LifeBegins base (take (place + 1) es)
  pub none : IsReached base → (s : State) → ¬ IsLifeFrom base es s

-- the machine answers the call so, and memory was refused to this answer and not to the one that is told, or the other way round
pub record AnswersApart (old : State) (who : ℕ) (call : Call) (told : Result Reply Refusal) : Type 0 where
  pub made : Result Reply Refusal
  pub grants : List Grant
  pub new : State
  pub makes : Makes old who call made grants new
  pub apart : wants_memory made ≢ wants_memory told

-- the same of an object number that is added
pub record AddsApart (old : State) (told : Result ℕ Refusal) : Type 0 where
  pub made : Result ℕ Refusal
  pub grants : List Grant
  pub new : State
  pub adds : AddsVacant old made grants new
  pub apart : wants_number made ≢ wants_number told

-- the entry is a call, or a creation for which an object number was added or could not be, and memory was refused to it in the entries and
-- not by the machine, or the other way round
abbrev pub IsApart : State → Entry → Type 0
IsApart old (Called who call told) = AnswersApart old who call told
IsApart old (Renewed who (CreateAdded act object handle) told) = AddsApart old (Ok object)
IsApart old (Renewed who (Unadded act) (Err cause)) = AddsApart old (Err cause)
IsApart old other = ⊥

-- that is so of the entry at this place, after the entries before it
pub record IsForMemory (base : State) (es : List Entry) (place : ℕ) : Type 0 where
  pub entry : Entry
  pub here : slice_get es place ≡ Some entry
  pub old : State
  pub life : IsLifeFrom base (take place es) old
  pub apart : IsApart old entry

abbrev pub IsUnreplayed : State → List Entry → Unreplayed → Type 0
IsUnreplayed base es (Differs place) = IsFirstToDiffer base es place
IsUnreplayed base es (Memory place) = IsForMemory base es place

-- these entries were replayed from the base, and of the last call's grants so many were compared: with the others they are a life to where the dispatcher is
pub record AreReplayed (base : State) (es : List Entry) (compared : ℕ) (d : Dispatcher) : Type 0 where
  pub few : compared ≤ length d.grants
  pub life : IsLifeFrom base (es ++ map granted (drop compared d.grants)) (state d)

-- the answers of a call are not the same: memory was refused to the one and not to the other, or they differ otherwise
abbrev pub IsMismatch : Result Reply Refusal → Result Reply Refusal → ℕ → Unreplayed → Type 0
IsMismatch made told place (Differs at) = (at ≡ place) × (wants_memory made ≡ wants_memory told) × (made ≢ told)
IsMismatch made told place (Memory at) = (at ≡ place) × (wants_memory made ≢ wants_memory told)

-- the same of an object number that is added
abbrev pub IsNumberMismatch : Result ℕ Refusal → Result ℕ Refusal → ℕ → Unreplayed → Type 0
IsNumberMismatch made told place (Differs at) = (at ≡ place) × (wants_number made ≡ wants_number told) × (made ≢ told)
IsNumberMismatch made told place (Memory at) = (at ≡ place) × (wants_number made ≢ wants_number told)

-- the machine did what the entry tells, and ended these waits with it
abbrev pub EntryIsDone : Entry → Dispatcher → Dispatcher → Type 0
EntryIsDone e old new = IsDeed (state old) (record { entry = e; grants = new.grants }) (state new)

-- the machine, once it was reached, does nothing that this entry tells; or memory was refused to the one and not to the other
abbrev pub IsUndone : State → Entry → ℕ → Unreplayed → Type 0
IsUndone old e place (Differs at) = (at ≡ place) × (IsReached old → (grants : List Grant) (new : State) → ¬ IsDeed old (record { entry = e; grants = grants }) new)
IsUndone old e place (Memory at) = (at ≡ place) × IsApart old e

-- with the entry at this place what was replayed goes on: so many grants of the last call are compared then
abbrev pub ReplayGoesOn : List Entry → ℕ → ℕ → Dispatcher → ℕ → Dispatcher → Type 0
ReplayGoesOn es place compared old now new = (base : State) → AreReplayed base (take place es) compared old → AreReplayed base (take (place + 1) es) now new

-- the entries are not replayed for this cause, from whichever base they were replayed up to this place
abbrev pub StopsFor : List Entry → ℕ → ℕ → Dispatcher → Unreplayed → Type 0
StopsFor es place compared old cause = (base : State) → AreReplayed base (take place es) compared old → IsUnreplayed base es cause
