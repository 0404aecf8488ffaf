-- The wake token (c/ntwin/waiting.c): the word by which a thread learns that its wait was granted, and on which it sleeps by futex. Any number of
-- threads wait, tell others how their waits stand, and wake them.
--
-- Who tells does so under the lock, by an exchange, and then wakes those whose word said that they sleep: after it has given the lock back, but under
-- it if there are too many to remember (`tell`). Each of Grants, Calls and the halves of a look at the time is one step: no two threads have the lock
-- (specs/Lock.antt), and in here others' steps may come between these as they like. A thread's own plain stores to its word are under the lock too.
-- They have arrived before another thread has it, since it is given back by a locked instruction. futex_wait compares and sleeps in one step of the
-- kernel. The looks of `look` change nothing, and are no steps. What a handler of signals tells and wakes is a part of the call that it interrupts.
-- Not in here, but tested: a handler that calls between TurnsToSleep and its thread's next look at the time or answer (c/tests/interrupted.c); a
-- thread canceled in its wait, whose `leave` tells others; a seat that another thread gets; a forked child.
use Rattle.std.specs.Prelude.{◌≡◌, ◌⊎◌, ℕ, ◌+◌, Bool, true, false, not, ◌&&◌, ◌||◌, if◌then◌else◌}
use Rattle.nt_protocols.specs.Threads.{put, Step, when, Keeps}

-- what a thread's word says: it is awake; it sleeps, is about to, or is back from there; it is to look at the time; its wait was granted
pub data Word : Type 0 where
  Awake : Word
  Asleep : Word
  Called : Word
  Granted : Word

-- where a thread is: `To..` says what it is to do next
pub data Place : Type 0 where
  Outside : Place  -- in no call
  InCall : Place  -- in a call, with no wait of its own: under the lock, waking those whom it told something, or with its wait answered
  InWait : Place  -- the same, while its own wait pends
  ToCompare : Place  -- `sleep_to`: is to exchange its word from awake to asleep
  ToSleep : Place  -- `sleep_to`: its word says that it sleeps, and it is to call futex_wait
  Sleeping : Place  -- in futex_wait
  ToLoad : Place  -- `sleep_to`: has come back from futex_wait, and is to load its word
  ToLookAtTime : Place  -- `sleep_to` has returned without a grant: it is to take the lock and look at the time
  Passing : Place  -- `look_at_time`: lets time pass, under the lock

-- what there is of one thread
pub record Seat : Type 0 where
  pub word : Word
  pub place : Place
  pub pends : Bool  -- its wait pends, as the dispatcher has it
  pub due : Bool  -- it was called to look at the time, and has not looked since
  pub grants : ℕ  -- how many of its waits were granted so far
  pub answers : ℕ  -- how many of its waits it has answered so far

-- what there is of each thread, and the wake-ups that are under way
pub record State : Type 0 where
  pub seats : ℕ → Seat
  pub owes : ℕ → ℕ → Bool  -- `owes t u`: thread t found u's word asleep when it told it something, and has not woken it since

-- what can happen, each with the thread t that does it: `step` says what each is
pub data Event : Type 0 where
  Enters Returns Begins TurnsToSleep Marks FallsAsleep Stirs Restarts FindsItLate Reads LooksAtTime Rearms : (t : ℕ) → Event
  Grants Calls Wakes : (t : ℕ) → (u : ℕ) → Event

-- in a call, where it may tell others something, and wakes them
abbrev pub is_waking : Place → Bool
is_waking InCall = true
is_waking InWait = true
is_waking Passing = true
is_waking _ = false

-- between a wait's beginning and its answer
abbrev pub waits : Place → Bool
waits Outside = false
waits InCall = false
waits _ = true

-- what the thread does that has read this word: it answers, sleeps, or looks at the time
abbrev pub told : Seat → Word → Seat
told a Granted = record a { place = InCall; answers = a.answers + 1 }
told a Asleep = record a { place = ToSleep }
told a _ = record a { place = ToLookAtTime }

-- the exchange of `sleep_to`: from awake to asleep, and else it is told
abbrev pub marked : Seat → Word → Seat
marked a Awake = record a { word = Asleep; place = ToSleep }
marked a w = told a w

-- futex_wait: it sleeps if the word still says so
abbrev pub dozed : Word → Place
dozed Asleep = Sleeping
dozed _ = ToLoad

-- where a thread is that somebody wakes: back from futex_wait if it was there
abbrev pub woken : Place → Place
woken Sleeping = ToLoad
woken p = p

abbrev pub is_asleep : Word → Bool
is_asleep Asleep = true
is_asleep _ = false

-- it has looked at the time, and its word says that it is awake if it was not granted
abbrev pub in_time : Word → Word
in_time Granted = Granted
in_time _ = Awake

-- the thread has now looked at the time, and is at this place
abbrev pub looked : Seat → Place → Seat
looked a p = record a { word = in_time a.word; place = p; due = false }

-- t told u something, by an exchange: it owes it a wake-up if u's word said that it sleeps
abbrev pub tells : (ℕ → ℕ → Bool) → ℕ → ℕ → Word → ℕ → ℕ → Bool
tells owes t u w = put owes t (put (owes t) u (owes t u || is_asleep w))

-- thread t is at this place
abbrev pub IsAt : State → ℕ → Place → Type 0
IsAt s t p = (s.seats t).place ≡ p

-- thread t has this from now on
abbrev pub becomes : State → ℕ → Seat → State
becomes s t a = record s { seats = put s.seats t a }

-- thread t goes to this place
abbrev pub goes : State → ℕ → Place → State
goes s t p = becomes s t (record (s.seats t) { place = p })

-- thread t tells u something, and u has this from now on
abbrev pub tells_one : State → ℕ → ℕ → Seat → State
tells_one s t u a = record { seats = put s.seats u a; owes = tells s.owes t u (s.seats u).word }

-- each step: when it can come, and the state after it
abbrev pub step : State → Event → Step State
step s (Enters t) = when (IsAt s t Outside) (goes s t InCall)  -- `lock`, `leave`: it calls, and has the lock
step s (Returns t) =  -- its call ends, and no wait of its own pends; it has woken all whom it was to wake
    when (IsAt s t InCall × ((u : ℕ) → s.owes t u ≡ false)) (goes s t Outside)
step s (Begins t) =  -- `fall_asleep`: its wait pends from now on
    when (IsAt s t InCall) (becomes s t (record (s.seats t) { word = Awake; place = InWait; pends = true; due = false }))
step s (TurnsToSleep t) =  -- `unlock_and_wake` has woken all whom it was to wake, and it is to sleep
    when (IsAt s t InWait × ((u : ℕ) → s.owes t u ≡ false)) (goes s t ToCompare)
step s (Marks t) =  -- `sleep_to`: the compare-exchange from awake to asleep, done or not
    when (IsAt s t ToCompare) (becomes s t (marked (s.seats t) (s.seats t).word))
step s (FallsAsleep t) = when (IsAt s t ToSleep) (goes s t (dozed (s.seats t).word))  -- `sleep_on`: futex_wait compares, and sleeps or returns
step s (Stirs t) = when (IsAt s t Sleeping) (goes s t ToLoad)  -- futex_wait returns though nobody woke it: a signal, its moment, or no reason
step s (Restarts t) = when (IsAt s t Sleeping) (goes s t ToSleep)  -- a signal ends its sleep, and the system begins the call again
step s (FindsItLate t) = when (IsAt s t ToSleep) (goes s t ToLookAtTime)  -- `sleep_to`: its moment has come, before or after it slept
step s (Reads t) = when (IsAt s t ToLoad) (becomes s t (told (s.seats t) (s.seats t).word))  -- `sleep_to`: loads its word, and does as `told` has it
step s (LooksAtTime t) =  -- `look_at_time`: has the lock, and its word says awake unless it was granted
    when (IsAt s t ToLookAtTime) (becomes s t (looked (s.seats t) Passing))
step s (Rearms t) =  -- `look_at_time`: time has passed, its word says awake unless it was granted, and it has a moment to sleep to
    when (IsAt s t Passing) (becomes s t (looked (s.seats t) InWait))
step s (Grants t u) =  -- `wake_up`: t ends u's wait and tells u so
    when ((is_waking (s.seats t).place ≡ true) × ((s.seats u).pends ≡ true))
    (tells_one s t u (record (s.seats u) { word = Granted; pends = false; grants = (s.seats u).grants + 1 }))
step s (Calls t u) =  -- `call_up`: t calls u to look at the time
    when ((is_waking (s.seats t).place ≡ true) × ((s.seats u).pends ≡ true)) (tells_one s t u (record (s.seats u) { word = Called; due = true }))
step s (Wakes t u) =  -- `wake_all`, and `tell` where its list is full: t wakes u, whom it owes that
    when (s.owes t u ≡ true)
    (record {
      seats = put s.seats u (record (s.seats u) { place = woken (s.seats u).place });
      owes = put s.owes t (put (s.owes t) u false);
    })

-- nobody has called yet
abbrev pub opening : State
opening = record {
  seats = λ t. record { word = Awake; place = Outside; pends = false; due = false; grants = 0; answers = 0 };
  owes = λ t u. false;
}

-- ---- the laws

-- some thread is to wake u, and does so before it sleeps or returns
abbrev pub IsOwed : State → ℕ → Type 0
IsOwed s u = (t : ℕ) × (s.owes t u ≡ true) × (is_waking (s.seats t).place ≡ true)

-- nobody sleeps in vain: while a thread sleeps, its wait pends and nobody has called it to look at the time, or a thread is to wake it
abbrev pub NobodySleepsInVain : Type 0
NobodySleepsInVain =
    Keeps step opening (λ s.
    (u : ℕ) → (s.seats u).place ≡ Sleeping → (((s.seats u).pends ≡ true) × ((s.seats u).due ≡ false)) ⊎ IsOwed s u)

-- a grant is told: the word of a thread that waits says so exactly while its wait pends no more
abbrev pub GrantsAreTold : Type 0
GrantsAreTold =
    Keeps step opening (λ s. (u : ℕ) →
    waits (s.seats u).place ≡ true
    → ((s.seats u).pends ≡ false → (s.seats u).word ≡ Granted) × ((s.seats u).word ≡ Granted → (s.seats u).pends ≡ false))

-- each grant is answered once: there are as many answers as grants, but for the grant of a wait that is not answered yet
abbrev pub EachGrantOnce : Type 0
EachGrantOnce =
    Keeps step opening (λ s.
    (u : ℕ) → (s.seats u).grants ≡ (s.seats u).answers + (if waits (s.seats u).place && not (s.seats u).pends then 1 else 0))
