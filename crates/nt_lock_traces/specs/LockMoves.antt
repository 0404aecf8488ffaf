-- The ways in which events of a trace are steps: when each can come, and the state after it.
use Rattle.std.specs.Prelude.{◌≡◌, ◌≢◌, ℕ, Bool}
use Rattle.nt_protocols.specs.Lock as Lock
use Rattle.nt_protocols.specs.Threads.{Step, when}
use Rattle.nt_lock_traces.specs.declared.lock.LockWord.{LockWord}
use Rattle.nt_lock_traces.specs.declared.lock.LockPlace.{LockPlace}
use Rattle.nt_lock_traces.specs.declared.lock_test.LockTest.{LockTest}
use Rattle.nt_lock_traces.specs.LockTrace.{lock_of, place_of, Holds, arrives}

-- t goes from one place to another
abbrev pub walk : Lock.State → ℕ → LockPlace → LockPlace → Step Lock.State
walk s t from to = when (Lock.IsAt s t (place_of from)) (Lock.goes s t (place_of to))

-- the same where the lock is so
abbrev pub walk_if : Lock.State → ℕ → LockPlace → LockTest → LockPlace → Step Lock.State
walk_if s t from test to = when (Lock.IsAt s t (place_of from) × Holds s test) (Lock.goes s t (place_of to))

-- the same where the thread's plain stores have arrived, too
abbrev pub miss : Lock.State → ℕ → LockPlace → LockTest → LockPlace → Step Lock.State
miss s t from test to = when (Lock.IsAt s t (place_of from) × Lock.IsDrained s t × Holds s test) (Lock.goes s t (place_of to))

-- there it makes the lock so
abbrev pub make : Lock.State → ℕ → LockPlace → LockTest → LockWord → LockPlace → Step Lock.State
make s t from test lock to = when (Lock.IsAt s t (place_of from) × Lock.IsDrained s t × Holds s test) (Lock.makes s t (lock_of lock) (place_of to))

-- it makes the lock so, and is to wake one if it was wanted
abbrev pub give : Lock.State → ℕ → LockPlace → LockWord → Step Lock.State
give s t from lock = when (Lock.IsAt s t (place_of from) × Lock.IsDrained s t) (Lock.makes s t (lock_of lock) (Lock.given s.lock))

-- it stores to `inside` by a plain store
abbrev pub store : Lock.State → ℕ → LockPlace → Bool → LockPlace → Step Lock.State
store s t from inside to = when (Lock.IsAt s t (place_of from) × Lock.IsDrained s t) (Lock.stores s t inside (place_of to))

-- it clears `inside` by an exchange
abbrev pub clear : Lock.State → ℕ → LockPlace → Step Lock.State
clear s t from = when (Lock.IsAt s t (place_of from) × Lock.IsDrained s t) (Lock.clears s t)

-- it goes where the `inside` of n is so
abbrev pub look : Lock.State → ℕ → LockPlace → ℕ → Bool → LockPlace → Step Lock.State
look s t from n inside to = when (Lock.IsAt s t (place_of from) × ((s.seats n).inside ≡ inside)) (Lock.goes s t (place_of to))

-- it has n pass a barrier
abbrev pub pass : Lock.State → ℕ → ℕ → Bool → Step Lock.State
pass s t n once = when (Lock.IsAt s t (Lock.Place.ToBar n once) × Lock.IsDrained s n) (Lock.goes s t (Lock.Place.ToLook n once))

-- it wakes u
abbrev pub wake : Lock.State → ℕ → LockPlace → ℕ → LockPlace → LockPlace → LockPlace → Step Lock.State
wake s t from u asleep then to =
    when (Lock.IsAt s t (place_of from) × Lock.IsAt s u (place_of asleep))
    (Lock.wakes s t u (place_of then) (place_of to))

-- it finds nobody to wake
abbrev pub wake_nobody : Lock.State → ℕ → LockPlace → LockPlace → LockPlace → Step Lock.State
wake_nobody s t from asleep to =
    when (Lock.IsAt s t (place_of from) × ((u : ℕ) → Lock.place_of s u ≢ place_of asleep))
    (Lock.goes s t (place_of to))

-- its plain store arrives
abbrev pub arrive : Lock.State → ℕ → Bool → Step Lock.State
arrive s t inside = when ((s.seats t).buffer ≡ Lock.Buffer.Holds inside) (arrives s t inside)
