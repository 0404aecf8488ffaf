-- What is counted over a life: from the stage on that gave an object its number last.
use Rattle.std.specs.Prelude.{◌≡◌, ℕ, ◌+◌, ◌≤◌, ◌<◌, ℤ, pos, ◌+ℤ◌, Bool, true, false, List, [], ◌∷◌, ◌++◌, length, count_by, if◌then◌else◌, ◌==◌}
use Rattle.std.specs.List.{list_any}
use Rattle.std.specs.declared.result.Result.TheVariants.{Ok}
use Rattle.nt_objects.specs.Object.{is_semaphore, is_mutex, count_of, IsLawfulObject}
use Rattle.nt_calls.specs.State.{State, opening, object_at}
use Rattle.nt_laws.specs.Takes.{Take, turn_took, takers}
use Rattle.nt_laws.specs.Laws.{act_gives, turn_gives, act_owes, turn_owes, held_by, act_sets, turn_sets, is_auto_reset, set_now}
use Rattle.nt_laws.specs.Lives.{Stage, Takes, Creates, Stages, Life, gives_object}

-- the end of a life: stages that lead from some state to its last
pub record LastPart (last : State) : Type 0 where
  pub start : State
  pub stages : List Stage
  pub life : Stages start stages last

-- the part of these stages from the one on that gave this object's number last, that one included; all, if none did
abbrev pub since_given : (h : ℕ) (old : State) (stages : List Stage) (new : State) → Stages old stages new → LastPart new
since_given h old [] new life = record { start = old; stages = []; life = life }
since_given h old (stage ∷ stages) new life =
    if list_any (gives_object h) stages then since_given h life.0 stages new life.2
    else record { start = old; stages = stage ∷ stages; life = life }

-- ---- what was taken

-- only turns take
abbrev pub stage_took : State → Stage → List Take
stage_took old (Takes turn) = turn_took old turn
stage_took old stage = []

abbrev pub stages_took : (old : State) (stages : List Stage) (new : State) → Stages old stages new → List Take
stages_took old [] new life = []
stages_took old (stage ∷ stages) new life = stage_took old stage ++ stages_took life.0 stages new life.2

-- who took the object in this part, in order
abbrev pub takers_in : ℕ → (last : State) → LastPart last → List ℕ
takers_in h last part = takers h (stages_took part.start part.stages last part.life)

-- ---- semaphores

-- a creation with a number that is given again gives what the semaphore begins with
abbrev pub stage_gives : ℕ → State → Stage → ℤ
stage_gives h old (Takes turn) = turn_gives h old turn
stage_gives h old (Creates who act object handle (Ok reply) grants) = act_gives h object act
stage_gives h old stage = pos 0

abbrev pub stages_give : (h : ℕ) (old : State) (stages : List Stage) (new : State) → Stages old stages new → ℤ
stages_give h old [] new life = pos 0
stages_give h old (stage ∷ stages) new life = stage_gives h old stage +ℤ stages_give h life.0 stages new life.2

-- what this part gave to the semaphore with number h
abbrev pub given_in : ℕ → (last : State) → LastPart last → ℤ
given_in h last part = stages_give h part.start part.stages last part.life

-- the semaphore's count and the number of times that it was taken in this part make up what it was given in it, and its count is between
-- zero and its maximum
abbrev pub GivesWhatItHas : ℕ → (last : State) → LastPart last → Type 0
GivesWhatItHas h last part =
    (count_of (object_at last.objects h) +ℤ pos (length (takers_in h last part)) ≡ given_in h last part) × IsLawfulObject (object_at last.objects h)

-- a semaphore hands out what it was given and no more, over every life since its number was given last
abbrev pub SemaphoresGiveWhatTheyHaveSinceGiven : Type 0
SemaphoresGiveWhatTheyHaveSinceGiven =
    (n : ℕ) (stages : List Stage) (s : State) (life : Life n stages s) (h : ℕ)
    → is_semaphore (object_at s.objects h) ≡ true
    → GivesWhatItHas h s (since_given h (opening n) stages s life)

-- ---- mutexes

-- a thread owes one release if it creates the mutex for itself, with whichever number
abbrev pub stage_owes : ℕ → ℕ → State → Stage → ℕ → ℕ
stage_owes h t old (Takes turn) owed = turn_owes h t old turn owed + count_by (λ u. u == t) (takers h (turn_took old turn))
stage_owes h t old (Creates who act object handle (Ok reply) grants) owed = act_owes h object t who act owed
stage_owes h t old stage owed = owed

abbrev pub stages_owe : (h t owed : ℕ) (old : State) (stages : List Stage) (new : State) → Stages old stages new → ℕ
stages_owe h t owed old [] new life = owed
stages_owe h t owed old (stage ∷ stages) new life = stages_owe h t (stage_owes h t old stage owed) life.0 stages new life.2

-- how many releases of the mutex with number h thread t owes of what it took in this part
abbrev pub owed_in : ℕ → ℕ → (last : State) → LastPart last → ℕ
owed_in h t last part = stages_owe h t 0 part.start part.stages last part.life

-- thread t holds the mutex as deep as it owes releases of it in this part, and if it owes one, no other thread does
abbrev pub HasOneOwner : ℕ → ℕ → (last : State) → LastPart last → Type 0
HasOneOwner h t last part =
    (owed_in h t last part ≡ held_by t (object_at last.objects h)) × ((u : ℕ) → 0 < owed_in h t last part → 0 < owed_in h u last part → t ≡ u)

-- a mutex has one owner at most, over every life since its number was given last
abbrev pub OneOwnerSinceGiven : Type 0
OneOwnerSinceGiven =
    (n : ℕ) (stages : List Stage) (s : State) (life : Life n stages s) (h t : ℕ)
    → is_mutex (object_at s.objects h) ≡ true
    → HasOneOwner h t s (since_given h (opening n) stages s life)

-- ---- events

-- a creation with the flag for that sets the event, with whichever number
abbrev pub stage_sets : ℕ → State → Stage → Bool
stage_sets h old (Takes turn) = turn_sets h old turn
stage_sets h old (Creates who act object handle (Ok reply) grants) = act_sets h object act
stage_sets h old stage = false

abbrev pub stages_set : (h : ℕ) (old : State) (stages : List Stage) (new : State) → Stages old stages new → ℕ
stages_set h old [] new life = 0
stages_set h old (stage ∷ stages) new life = (if stage_sets h old stage then 1 else 0) + stages_set h life.0 stages new life.2

-- how many stages of this part set the event with number h
abbrev pub times_set_in : ℕ → (last : State) → LastPart last → ℕ
times_set_in h last part = stages_set h part.start part.stages last part.life

-- the event is taken in this part no more often than it is set, where a set that stands at the beginning counts, and one that stands at the
-- end has ended no wait
abbrev pub IsSetForEach : ℕ → (last : State) → LastPart last → Type 0
IsSetForEach h last part =
    length (takers_in h last part) + set_now (object_at last.objects h) ≤ times_set_in h last part + set_now (object_at part.start.objects h)

-- one set of an auto-reset event ends one wait, over any part of a life, from where the event's number was given last in it
abbrev pub OneSetOneWaitSinceGiven : Type 0
OneSetOneWaitSinceGiven =
    (n : ℕ) (before part : List Stage) (mid s : State)
    → Life n before mid
    → (stages : Stages mid part s) (h : ℕ)
    → is_auto_reset (object_at s.objects h) ≡ true
    → IsSetForEach h s (since_given h mid part s stages)
