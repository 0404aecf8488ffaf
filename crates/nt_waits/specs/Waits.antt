-- What callers see of a `WaitTable`.
use Rattle.std.specs.Prelude.{◌≡◌, ℕ, ◌+◌, ◌-◌, ◌*◌, ◌≤◌, ◌^◌, min, ◌<◌, Bool, ◌==◌, List, [], ◌∷◌, ◌++◌, length, if◌then◌else◌, Option, Some, None, slice_get, slice_index, slice_index_or, refl, Contains, nat_eq}
use Rattle.std.specs.Ordering.{nat_cmp}
use Rattle.std.specs.FinMap as map
use Rattle.std.specs.Coded.{Coded, code_by, coded×, coded_ℕ, coded_bool, coded_list, coded_option}
use Rattle.std.specs.List.{IsDistinct}
use Rattle.std.specs.Option.{ForSome}
use Rattle.nt_waits.specs.declared.room.Room.{Room}
use Rattle.nt_waits.specs.declared.wait.About.{About}
use Rattle.nt_waits.specs.declared.wait.Wait.{Wait}

-- the pending waits by thread; by object number the threads that wait on it, in the order in which their waits began; the looks since the count was last set to 0; the blocks that the last end reached; for how many threads and objects there is room
pub record Waits : Type 0 where
  pub pending : map.FinMap nat_cmp Wait
  pub queues : List (List ℕ)
  pub looked : ℕ
  pub touched : ℕ
  pub room : Room

-- a wait is stored as the tuple of its fields
abbrev pub wait_code : Coded Wait
wait_code =
    code_by (List ℕ × (Bool × (Bool × Option ℕ)))
    (coded× (coded_list coded_ℕ) (coded× coded_bool (coded× coded_bool (coded_option coded_ℕ))))
    (λ w. (w.objects, (w.all, (w.alertable, w.deadline))))
    (λ p. record { objects = p.0; all = p.1.0; alertable = p.1.1.0; deadline = p.1.1.1 })
    (λ _. refl)

-- a table is stored as the tuple of its fields
abbrev pub waits_code : Coded Waits
waits_code =
    code_by (map.FinMap nat_cmp Wait × (List (List ℕ) × (ℕ × (ℕ × (ℕ × ℕ)))))
    (coded× (map.code coded_ℕ wait_code) (coded× (coded_list (coded_list coded_ℕ)) (coded× coded_ℕ (coded× coded_ℕ (coded× coded_ℕ coded_ℕ)))))
    (λ w. (w.pending, (w.queues, (w.looked, (w.touched, (w.room.threads, w.room.objects))))))
    (λ p. record { pending = p.0; queues = p.1.0; looked = p.1.1.0; touched = p.1.1.1.0; room = record { threads = p.1.1.1.1.0; objects = p.1.1.1.1.1 } })
    (λ _. refl)

-- the pending wait of a thread
abbrev pub wait_of : Waits → ℕ → Option Wait
wait_of table thread = map.get table.pending thread

-- the threads that wait on an object, in the order in which their waits began
abbrev pub queue_of : Waits → ℕ → List ℕ
queue_of table object = slice_index_or table.queues object []

-- the queue without this thread, in the same order
abbrev pub others : ℕ → List ℕ → List ℕ
others thread [] = []
others thread (first ∷ queue) = if first == thread then others thread queue else first ∷ others thread queue

-- the thread after this one in the queue
abbrev pub next_after : ℕ → List ℕ → Option ℕ
next_after thread [] = None
next_after thread (first ∷ queue) = if first == thread then slice_get queue 0 else next_after thread queue

-- the wait names the object
abbrev pub Names : Wait → ℕ → Type 0
Names wait object = (j : ℕ) × (j < length wait.objects) × (slice_index wait.objects j ≡ object)

-- a thread stands in the queue of an object exactly where its pending wait names it, and once
pub record Agrees (pending : map.FinMap nat_cmp Wait) (queues : List (List ℕ)) : Type 0 where
  pub listed : (thread object : ℕ) (wait : Wait) → map.get pending thread ≡ Some wait → Names wait object → Contains (slice_index_or queues object []) thread
  pub named : (thread object : ℕ) → Contains (slice_index_or queues object []) thread → (wait : Wait) × (map.get pending thread ≡ Some wait) × Names wait object
  pub once : (object : ℕ) → IsDistinct nat_eq (slice_index_or queues object [])

-- the thread's wait pends from now on, last in the queue of each object that it names
pub record Begins (old new : Waits) (thread : ℕ) (wait : Wait) : Type 0 where
  pub pending : new.pending ≡ map.insert old.pending thread wait
  pub joined : (object : ℕ) → Names wait object → queue_of new object ≡ queue_of old object ++ thread ∷ []
  pub queues_kept : (object : ℕ) → (Names wait object → ⊥) → queue_of new object ≡ queue_of old object
  pub looked : new.looked ≡ old.looked
  pub touched : new.touched ≡ old.touched
  pub room : new.room ≡ old.room

-- an end of this wait reaches its own blocks, and at most two beside each of them
pub record IsTouched (wait : Wait) (touched : ℕ) : Type 0 where
  pub at_least : length wait.objects ≤ touched
  pub at_most : touched ≤ 3 * length wait.objects

-- the thread waits for nothing from now on, and stands in no queue; the other waits, and the order of each queue, are as they were
pub record EndsWait (old new : Waits) (thread : ℕ) : Type 0 where
  pub pending : new.pending ≡ map.remove old.pending thread
  pub queues : (object : ℕ) → queue_of new object ≡ others thread (queue_of old object)
  pub looked : new.looked ≡ old.looked
  pub touched : ForSome (wait_of old thread) (λ wait. IsTouched wait new.touched)
  pub room : new.room ≡ old.room

-- the wait for these objects, for all of them or for one, with what is told of it without a look
abbrev pub wait_for : List ℕ → Bool → About → Wait
wait_for objects all about = record { objects = objects; all = all; alertable = about.alertable; deadline = about.deadline }

-- what of a wait is told without a look
abbrev pub about_of : Wait → About
about_of wait = record { alertable = wait.alertable; deadline = wait.deadline }

-- the one object of this list, where it has one alone, and this answer
abbrev pub only_among : List ℕ → Bool → Option (ℕ × Bool)
only_among (object ∷ []) all = Some (object, all)
only_among objects all = None

-- the object of a wait that names one alone, and whether the wait is for all
abbrev pub only_of : Wait → Option (ℕ × Bool)
only_of wait = only_among wait.objects wait.all

-- 1 where a look told the object of a wait that names one alone
abbrev pub one_for : Option (ℕ × Bool) → ℕ
one_for None = 0
one_for (Some only) = 1

-- one more, but the count stops at the greatest u64
abbrev pub counted_once : ℕ → ℕ
counted_once count = min (count + 1) (2 ^ 64 - 1)
