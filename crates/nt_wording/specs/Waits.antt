-- What a thread waits for, in words.
use Rattle.std.specs.Prelude.{ℕ, zero, suc, ◌==◌, ◌++◌, Bool, List, [], length, nat_le, slice_index_or, Option, None, Some, if◌then◌else◌, codes}
use Rattle.std.specs.List.{flat_map}
use Rattle.std.specs.FinMap.{get}
use Rattle.std.specs.Fmt.{decimal, signed_decimal}
use Rattle.nt_objects.specs.declared.object.Object.{Object}
use Rattle.nt_objects.specs.declared.object.Armed.{Armed}
use Rattle.nt_objects.specs.declared.object.Object.TheVariants.{Event, Semaphore, Mutex, Timer, Thread, Gone}
use Rattle.nt_waits.specs.declared.wait.Wait.{Wait}
use Rattle.nt_calls.specs.State.{State, object_at, pends}
use Rattle.nt_calls.specs.Serving.{is_sleep}
use Rattle.nt_calls.specs.Living.{is_opened, runs}
use Rattle.nt_grammar.specs.Spelling.{mode_word}
use Rattle.nt_script.specs.Progress.{Progress}
use Rattle.nt_wording.specs.Names.{object_name, object_title, thread_title}

-- ---- an object's state

-- what the thread does
abbrev pub doing : State → ℕ → List ℕ
doing s t = if pends s t then codes "waits" else if runs s t then codes "runs" else codes "has ended"

abbrev pub set_text : Bool → List ℕ
set_text set = if set then codes "set" else codes "not set"

-- how often the owner has to release the mutex, so that it is free
abbrev pub owed_text : ℕ → List ℕ
owed_text depth = if depth == 1 then codes "1 release owed" else decimal depth ++ codes " releases owed"

abbrev pub due_text : Option Armed → List ℕ
due_text None = codes ", not armed"
due_text (Some armed) = codes ", due at " ++ decimal armed.due

abbrev pub who_text : State → ℕ → List ℕ
who_text s t = codes ", who " ++ doing s t

-- whose the mutex is, how many releases it owes, and what that thread does
abbrev pub owned_text : State → List ℕ → ℕ → ℕ → List ℕ
owned_text s told owner depth = (codes "mutex, owned by " ++ thread_title told owner) ++ ((codes " (" ++ (owed_text depth ++ codes ")")) ++ who_text s owner)

abbrev pub mutex_text : State → List ℕ → Option ℕ → ℕ → Bool → List ℕ
mutex_text s told None depth abandoned = if abandoned then codes "mutex, abandoned" else codes "mutex, free"
mutex_text s told (Some owner) depth abandoned = owned_text s told owner depth

-- the state of the object with number o
abbrev pub state_text : State → List ℕ → ℕ → Object → List ℕ
state_text s told o (Event manual set) = codes "event, " ++ set_text set
state_text s told o (Semaphore count maximum) = (codes "semaphore, count " ++ signed_decimal count) ++ (codes " of " ++ signed_decimal maximum)
state_text s told o (Mutex owner depth abandoned) = mutex_text s told owner depth abandoned
state_text s told o (Timer manual set armed) = codes "timer, " ++ (set_text set ++ due_text armed)
state_text s told o (Thread ended) = codes "thread" ++ who_text s o
state_text s told o Gone = codes "gone"

-- that no handle names the object any more
abbrev pub unopened_text : State → ℕ → List ℕ
unopened_text s o = if is_opened s o then [] else codes ", which no handle names"

abbrev pub object_text : Progress → (objects told : List ℕ) → ℕ → List ℕ
object_text now objects told o = (object_title now objects told o ++ codes ": ") ++ (state_text now.state told o (object_at now.state.objects o) ++ unopened_text now.state o)

-- ---- a wait

abbrev pub kind_text : Wait → List ℕ
kind_text w = if is_sleep w then codes "sleep " else if w.all then codes "all " else codes "any "

-- when the wait times out
abbrev pub time_text : Option ℕ → List ℕ
time_text None = codes "inf "
time_text (Some moment) = codes "until " ++ (decimal moment ++ codes " ")

-- the names of the objects
abbrev pub names_text : Progress → List ℕ → List ℕ → List ℕ
names_text now objects numbers = flat_map (λ o. codes " " ++ object_name now objects o) numbers

-- the wait as a script has it, with the moment at which it times out
abbrev pub wait_text : Progress → List ℕ → Wait → List ℕ
wait_text now objects w = (kind_text w ++ time_text w.deadline) ++ (mode_word w.alertable ++ names_text now objects w.objects)

-- what stands before an object of a wait: one alone stands on the same line
abbrev pub gap_text : Wait → List ℕ
gap_text w = if nat_le (length w.objects) 1 then codes "   " else codes "\n    "

-- the objects of the wait, with their states
abbrev pub wait_objects_text : Progress → (objects told : List ℕ) → Wait → List ℕ
wait_objects_text now objects told w = flat_map (λ o. gap_text w ++ object_text now objects told o) w.objects

abbrev pub since_text : List ℕ → ℕ → ℕ → List ℕ
since_text told t since = (codes "  " ++ thread_title told t) ++ (codes " since line " ++ (decimal since ++ codes "  "))

-- what thread t waits for, since this line
abbrev pub awaited_text : Progress → (objects told : List ℕ) → ℕ → ℕ → Option Wait → List ℕ
awaited_text now objects told since t None = []
awaited_text now objects told since t (Some w) = since_text told t since ++ ((wait_text now objects w ++ wait_objects_text now objects told w) ++ codes "\n")

-- the threads below this number that wait, rising
abbrev pub waiters_text : Progress → (objects told since : List ℕ) → ℕ → List ℕ
waiters_text now objects told since zero = []
waiters_text now objects told since (suc t) = waiters_text now objects told since t ++ awaited_text now objects told (slice_index_or since t 0) t (get now.state.waits t)
