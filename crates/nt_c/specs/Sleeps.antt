-- What C asks of those who sleep.
use Rattle.std.specs.Prelude.{◌≡◌, ℕ, Bool, true, false, Option, Some, MatchOption, MatchBool, nat_le, slice_get}
use Rattle.nt_c.specs.declared.numbers.TheConstants.{INVALID_HANDLE, NO_MORE, UNKNOWN_THREAD}
use Rattle.nt_alarms.specs.Alarms.{alarm_at}
use Rattle.nt_machine.specs.Dispatcher.{state}
use Rattle.nt_sleepers.specs.Sleepers.{Sleeping, Watches, StopsSleeping, told_of}
use Rattle.nt_sleepers.specs.declared.told.Told.{Told}
use Rattle.nt_c.specs.declared.handle.Nt.{Nt}
use Rattle.nt_c.specs.declared.sleeps.NtTold.{NtTold}
use Rattle.nt_c.specs.Asks.{Told as IsTold, Untold}

-- what becomes of what a handle holds that is asked about one of its threads; 6 is answered if it is nothing, and 536870915 if no thread has
-- this number
abbrev pub AsksOfThread : ℕ → Option Sleeping → Option Sleeping → (ℕ → Type 0) → (Sleeping → Sleeping → Type 0) → Type 0
AsksOfThread who old new refused asked =
    MatchOption old
    (refused INVALID_HANDLE × (new ≡ old))
    (λ s. MatchBool (nat_le (state s.core).threads who) (refused UNKNOWN_THREAD × (new ≡ old)) ((after : Sleeping) × (new ≡ Some after) × asked s after))

-- to which moment a thread sleeps: a watcher as Watches has it, and any other as its wait began
abbrev pub Sleeps : Bool → ℕ → Option ℕ → Sleeping → Sleeping → Type 0
Sleeps true who moment old new = Watches old who moment new
Sleeps false who moment old new = (new ≡ old) × (moment ≡ alarm_at old.alarms who)

-- a moment is told, or 259 is answered for none
abbrev pub MomentTold : Option ℕ → ℕ → ℕ → ℕ → Type 0
MomentTold moment number before after = MatchOption moment (Untold ℕ NO_MORE number before after) (λ m. IsTold ℕ m number after)

-- the thread sleeps, and watches or does not: it is told to which moment
abbrev pub FallsAsleep : Bool → ℕ → Nt → ℕ → ℕ → ℕ → Nt → Type 0
FallsAsleep watches who old number before after new =
    AsksOfThread who old.cell.held new.cell.held (λ refusal. Untold ℕ refusal number before after)
    (λ s s'. (moment : Option ℕ) × Sleeps watches who moment s s' × MomentTold moment number before after)

-- the thread sleeps no more
abbrev pub WakesThread : ℕ → Nt → ℕ → Nt → Type 0
WakesThread who old number new =
    AsksOfThread who old.cell.held new.cell.held (λ refusal. number ≡ refusal) (λ s s'. StopsSleeping s who s' × (number ≡ 0))

-- what a thread is told, in numbers
abbrev pub told_in_numbers : Told → NtTold
told_in_numbers (Told.Granted grant) = record { thread = grant.thread; status = grant.status; called = false }
told_in_numbers (Told.Called t) = record { thread = t; status = 0; called = true }

-- what the last call or tick told at this index is told, or 259 is answered past the last
abbrev pub ReadsTold : ℕ → Nt → ℕ → NtTold → NtTold → Type 0
ReadsTold index nt number before after =
    MatchOption nt.cell.held
    (Untold NtTold INVALID_HANDLE number before after)
    (λ s. MatchOption (slice_get (told_of s.core.grants s.called) index) (Untold NtTold NO_MORE number before after) (λ told. IsTold NtTold (told_in_numbers told) number after))
