-- Parking (c/win32/parking.c): any number of threads wait at an address whose value others change. Each sleeps by futex on a word of its own.
--
-- This is one list, with the threads that wait at one of its addresses. Its latch is a lock as in specs/Lock.antt that favours nobody. `count` is a
-- sum over all addresses of the list: each thread adds one and one is taken away for it, so it is 0 only if nobody here `is_counted`. Who changes the
-- value loads `count` after a full fence, so its store has arrived. Who waits adds itself to `count` by a locked instruction, before it looks at the
-- value under the latch. Words are stored plainly, under the latch: these stores arrive before it is given back, by a locked instruction, and before
-- futex_wake looks for who sleeps, which the kernel does after a full barrier.
--
-- A condition variable (c/win32/condition_variable.c) is parking at an address whose value is never compared: there `LooksSame` comes at once. Who
-- sleeps is counted before it lets its lock go. Who has had that lock since, and wakes, sees it counted: no fence stands before the load of `count`.
--
-- Not in here: that WakeByAddressSingle unparks one, and the first that came; a value that is changed before that call; a forked child; handlers of
-- signals, which c/ntwin.h allows no such call.
use Rattle.std.specs.Prelude.{◌≡◌, ◌≢◌, ◌⊎◌, ℕ, ◌+◌, Bool, true, false, not, ◌&&◌, if◌then◌else◌}
use Rattle.nt_protocols.specs.Threads.{put, Step, when, Keeps}

-- a thread stands in no list; in the list; or was taken off it by thread t, which is to write its word
pub data Standing : Type 0 where
  Absent : Standing
  Listed : Standing
  Taken : (t : ℕ) → Standing

-- where a thread is: `To..` says what it is to do next. `all`: it unparks all that wait at the address; else as many as it likes, or none
pub data Place : Type 0 where
  Out : Place  -- in no call, or before its call has counted itself
  ToTake : (next : Place) → Place  -- `take_latch`: is to take the latch, and then to be there
  ToGive : (next : Place) → Place  -- `give_latch`: is to give the latch back, and then to be there
  ToLook : Place  -- `wait_on`: has the latch, and is to load the value again
  ToPark : Place  -- `park`: found the value as expected, and is to join the list
  ToSleep : Place  -- `sleep_parked`: is to call futex_wait, or to find that its moment has come
  Asleep : Place  -- in futex_wait on its word
  ToLoad : Place  -- `sleep_parked`: is to load its word
  ToLeave : Place  -- `sleep_parked`: has the latch, and is to load its word again, and to leave the list if that says parked
  ToCheck : (all : Bool) → Place  -- `wake_by_address`: is to load `count`
  Unparking : (all : Bool) → Place  -- `unpark`: has the latch
  Waking : Place  -- `unpark`: wakes those that it unparked

-- what there is of one thread
pub record Seat : Type 0 where
  pub place : Place
  pub parked : Bool  -- what its word says
  pub standing : Standing
  pub expected : ℕ  -- the value while which it waits
  pub unparks : ℕ  -- how often it was unparked
  pub answers : ℕ  -- how many of its waits have answered that they were

-- the value, whether the latch is taken, what there is of each thread, and whom a thread has unparked and not woken since
pub record State : Type 0 where
  pub value : ℕ
  pub latch : Bool
  pub seats : ℕ → Seat
  pub owes : ℕ → ℕ → Bool

-- what can happen, each with the thread t that does it: `step` says what each is. The user's program makes Changes and Calls. The marks in C have
-- these names, with what follows a latch in them (TakesToLook, GivesToSleep ..) and `All`. Two mark what is two steps: SeesUnparked is FallsAsleep
-- and Reads of a thread that did not sleep, and FinishesAndGives is Finishes and GivesLatch. Unparks has none: a trace has it as its store arrives.
pub data Event : Type 0 where
  Counts : (t : ℕ) → (expected : ℕ) → Event
  TakesLatch GivesLatch : (t : ℕ) → (next : Place) → Event
  LooksSame LooksOther Parks FallsAsleep Stirs Restarts Reads TimesOut Leaves Calls Returns : (t : ℕ) → Event
  Changes : (t : ℕ) → (value : ℕ) → Event
  SeesNobody SeesSome Finishes : (t : ℕ) → (all : Bool) → Event
  TakesOff : (t : ℕ) → (u : ℕ) → (all : Bool) → Event
  Unparks Wakes : (t : ℕ) → (u : ℕ) → Event

-- between joining the list and its answer
abbrev pub waits : Place → Bool
waits (ToGive ToSleep) = true
waits ToSleep = true
waits Asleep = true
waits ToLoad = true
waits (ToTake ToLeave) = true
waits ToLeave = true
waits _ = false

-- `count` counts the thread
abbrev pub is_counted : Standing → Place → Bool
is_counted Listed p = true
is_counted d (ToTake ToLook) = true
is_counted d ToLook = true
is_counted d ToPark = true
is_counted d p = false

-- it is to wake those that it unparks
abbrev pub is_waking : Place → Bool
is_waking (Unparking all) = true
is_waking (ToGive Waking) = true
is_waking Waking = true
is_waking _ = false

-- futex_wait sleeps if the word still says parked
abbrev pub dozed : Bool → Place
dozed true = Asleep
dozed false = ToLoad

-- where a thread is that somebody wakes: back from futex_wait if it was there
abbrev pub woken : Place → Place
woken Asleep = ToLoad
woken p = p

-- what a thread does that has read its word; and what it does under the latch
abbrev pub read : Seat → Bool → Seat
read a true = record a { place = ToSleep }
read a false = record a { place = Out; answers = a.answers + 1 }

abbrev pub read_again : Seat → Bool → Seat
read_again a true = record a { place = ToGive Out; parked = false; standing = Absent }
read_again a false = record a { place = ToGive Out; answers = a.answers + 1 }

-- thread t is at this place; has this from now on; or goes there
abbrev pub IsAt : State → ℕ → Place → Type 0
IsAt s t p = (s.seats t).place ≡ p

abbrev pub becomes : State → ℕ → Seat → State
becomes s t a = record s { seats = put s.seats t a }

abbrev pub goes : State → ℕ → Place → State
goes s t p = becomes s t (record (s.seats t) { place = p })

-- thread t owes u a wake-up, or does not, from now on
abbrev pub owing : State → ℕ → ℕ → Bool → State
owing s t u b = record s { owes = put s.owes t (put (s.owes t) u b) }

-- each step: when it can come, and the state after it
abbrev pub step : State → Event → Step State
step s (Counts t x) =  -- `wait_on`: found the value as expected, and adds itself to `count`
    when (IsAt s t Out) (becomes s t (record (s.seats t) { place = ToTake ToLook; expected = x }))
step s (TakesLatch t p) = when (IsAt s t (ToTake p) × (s.latch ≡ false)) (record (goes s t p) { latch = true })  -- `take_latch`
step s (GivesLatch t p) = when (IsAt s t (ToGive p)) (record (goes s t p) { latch = false })  -- `give_latch`
step s (LooksSame t) = when (IsAt s t ToLook × (s.value ≡ (s.seats t).expected)) (goes s t ToPark)  -- `wait_on`: finds the value as expected again
step s (LooksOther t) =  -- `wait_on`: finds another value, and is counted no longer
    when (IsAt s t ToLook × (s.value ≢ (s.seats t).expected)) (goes s t (ToGive Out))
step s (Parks t) =  -- `park`: joins the list, and its word says parked
    when (IsAt s t ToPark) (becomes s t (record (s.seats t) { place = ToGive ToSleep; parked = true; standing = Listed }))
step s (FallsAsleep t) = when (IsAt s t ToSleep) (goes s t (dozed (s.seats t).parked))  -- `sleep_on`: futex_wait compares, and sleeps or returns
step s (Stirs t) = when (IsAt s t Asleep) (goes s t ToLoad)  -- futex_wait returns though nobody woke it
step s (Restarts t) = when (IsAt s t Asleep) (goes s t ToSleep)  -- a signal ends its sleep, and the system begins the call again
step s (Reads t) =  -- `is_unparked`: loads its word, and answers or sleeps on
    when (IsAt s t ToLoad) (becomes s t (read (s.seats t) (s.seats t).parked))
step s (TimesOut t) = when (IsAt s t ToSleep) (goes s t (ToTake ToLeave))  -- its moment has come
step s (Leaves t) =  -- `is_unparked` under the latch, and `leave_parking` if it is not
    when (IsAt s t ToLeave) (becomes s t (read_again (s.seats t) (s.seats t).parked))
step s (Changes t v) =  -- changes the value, or leaves it as it was, and is to call WakeByAddressAll
    when (IsAt s t Out) (record (goes s t (ToCheck true)) { value = v })
step s (Calls t) = when (IsAt s t Out) (goes s t (ToCheck false))  -- calls WakeByAddressSingle
step s (SeesNobody t all) =  -- `wake_by_address`: loads `count`, which is 0
    when (IsAt s t (ToCheck all) × ((u : ℕ) → is_counted (s.seats u).standing (s.seats u).place ≡ false)) (goes s t Out)
step s (SeesSome t all) = when (IsAt s t (ToCheck all)) (goes s t (ToTake (Unparking all)))  -- `wake_by_address`: loads `count`, not 0
step s (TakesOff t u all) =  -- `leave_parking`: takes u off the list
    when (IsAt s t (Unparking all) × ((s.seats u).standing ≡ Listed)) (becomes s u (record (s.seats u) { standing = Taken t }))
step s (Unparks t u) =  -- `unpark`: stores that u is unparked
    when ((s.seats u).standing ≡ Taken t)
    (owing (becomes s u (record (s.seats u) { parked = false; standing = Absent; unparks = (s.seats u).unparks + 1 })) t u true)
step s (Finishes t all) =  -- `unpark`: has unparked all whom it took off, and takes nobody else off
    when (IsAt s t (Unparking all) × ((u : ℕ) → ((s.seats u).standing ≢ Taken t) × (all ≡ true → (s.seats u).standing ≢ Listed)))
    (goes s t (ToGive Waking))
step s (Wakes t u) = when (s.owes t u ≡ true) (owing (goes s u (woken (s.seats u).place)) t u false)  -- `wake_one` on u's word
step s (Returns t) = when (IsAt s t Waking × ((u : ℕ) → s.owes t u ≡ false)) (goes s t Out)  -- has woken all that it unparked

-- nobody has called yet
abbrev pub opening : State
opening = record {
  value = 0;
  latch = false;
  seats = λ t. record { place = Out; parked = false; standing = Absent; expected = 0; unparks = 0; answers = 0 };
  owes = λ t u. false;
}

-- ---- the laws

-- nobody sleeps in vain: who sleeps stands in the list, or a thread that comes to wake it has taken it off, or owes it a wake-up
abbrev pub NobodyIsParkedInVain : Type 0
NobodyIsParkedInVain =
    Keeps step opening (λ s. (u : ℕ) → IsAt s u Asleep → ((s.seats u).standing ≡ Listed)
    ⊎ ((t : ℕ) × (is_waking (s.seats t).place ≡ true) × (((s.seats u).standing ≡ Taken t) ⊎ (s.owes t u ≡ true))))

-- a thread is to take all that wait off the list, and to wake them
abbrev pub unparks_all : Place → Bool
unparks_all (ToCheck all) = all
unparks_all (ToTake (Unparking all)) = all
unparks_all (Unparking all) = all
unparks_all _ = false

-- no change is lost that WakeByAddressAll follows: while a thread stands in the list though the value is not the expected one, some thread is to
-- unpark all
abbrev pub NoChangeIsLost : Type 0
NoChangeIsLost =
    Keeps step opening (λ s.
    (u : ℕ) → (s.seats u).standing ≡ Listed → s.value ≢ (s.seats u).expected → (t : ℕ) × (unparks_all (s.seats t).place ≡ true))

-- a timeout against an unpark: who finds under the latch that its word says parked stands in the list, since nobody is taking it off
abbrev pub WhoLeavesIsListed : Type 0
WhoLeavesIsListed = Keeps step opening (λ s. (u : ℕ) → IsAt s u ToLeave → (s.seats u).parked ≡ true → (s.seats u).standing ≡ Listed)

-- each unpark is answered once, by the wait that was unparked, though the next wait uses the same word and place in a list
abbrev pub EachUnparkOnce : Type 0
EachUnparkOnce =
    Keeps step opening (λ s. (u : ℕ) →
    (s.seats u).unparks ≡ (s.seats u).answers + (if waits (s.seats u).place && not (s.seats u).parked then 1 else 0))
