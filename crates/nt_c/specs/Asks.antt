-- What a call through C's handle does.
use Rattle.std.specs.Prelude.{◌≡◌, ℕ, ◌≤◌, ◌⊎◌, Bool, Option, None, Some, MatchOption, slice_get, MatchBool, nat_le, OnOk, OnErr, ◌&&◌, [], length, replicate, pos, is_some, true, false}
use Rattle.std.specs.FinMap as map
use Rattle.nt_c.specs.declared.numbers.TheConstants.{INVALID_HANDLE, INVALID_PARAMETER, NO_MORE, OUT_OF_MEMORY, UNKNOWN_THREAD}
use Rattle.nt_c.specs.declared.reply.NtGrant.{NtGrant}
use Rattle.nt_c.specs.declared.begins.NtBegun.{NtBegun}
use Rattle.nt_c.specs.declared.handle.Nt.{Nt}
use Rattle.nt_c.specs.declared.sleeps.NtPendingWait.{NtPendingWait}
use Rattle.nt_c.specs.declared.reply.NtReply.{NtReply}
use Rattle.std.specs.declared.result.Result.{Result}
use Rattle.std.specs.declared.result.Result.TheVariants.{Ok, Err}
use Rattle.nt_status.specs.declared.limits.TheConstants.{MAX_MOMENT}
use Rattle.nt_status.specs.Refusal.{number_of}
use Rattle.nt_status.specs.declared.refusal.Refusal.{Refusal}
use Rattle.nt_status.specs.declared.refusal.Refusal.TheVariants.{HandleLimit, InvalidHandle}
use Rattle.nt_waits.specs.declared.wait.Wait.{Wait}
use Rattle.nt_calls.specs.declared.call.Act.{Act}
use Rattle.nt_calls.specs.declared.call.Call.{Call}
use Rattle.nt_calls.specs.declared.call.Grant.{Grant}
use Rattle.nt_calls.specs.declared.call.Reply.{Reply}
use Rattle.nt_calls.specs.declared.call.WaitCall.{WaitCall}
use Rattle.nt_machine.specs.Dispatcher.{Dispatcher, state}
use Rattle.nt_machine.specs.Lawful.{IsLawful}
use Rattle.nt_machine.specs.Accepts.{IsTickLocal}
use Rattle.nt_calls.specs.State.{opening, pends}
use Rattle.nt_calls.specs.Steps.{Ticked, IsNextMoment, NothingDue}
use Rattle.nt_calls.specs.Moves.{pended}
use Rattle.nt_life.specs.Lasting.{Spares, MakesCall, FindsNoneFor, IsUnchanged, LooksAt, MayBegin, MaySetAside, GivesFromNow}
use Rattle.nt_life.specs.declared.begun.Begun.{Begun}
use Rattle.nt_sleepers.specs.Sleepers.{LetsSleep, Sleeping, Woke}

-- the handle has the dispatcher and the sleepers that it had, or none as before
abbrev pub Keeps : Nt → Nt → Type 0
Keeps old new = new.cell.held ≡ old.cell.held

-- ---- a call

-- a call of the dispatcher: the machine's own step, or, if numbers are given again, a renewal; no number is told to be left only if there is
-- none; it tests no wait but those that it must, or, refused, none, and then changes nothing; and what becomes of who sleeps
pub record MakesAndWakes (old : Sleeping) (who : ℕ) (call : Call) (result : Result Reply Refusal) (new : Sleeping) : Type 0 where
  pub makes : MakesCall (state old.core) old.spare who call result new.core.grants (state new.core)
  pub limit : result ≡ Err HandleLimit → FindsNoneFor (state old.core) old.spare call
  pub unchanged : IsUnchanged (state old.core) result new.core.grants (state new.core)
  pub lawful : IsLawful new.core
  pub looks : LooksAt old.core who call result new.core
  pub woke : Woke old who (pended result) new
  pub nobody : OnErr result (new.called ≡ None)

-- a call on what the handle holds: one of the dispatcher there, or refused where there is none
abbrev pub Asked : Option Sleeping → ℕ → Call → Result Reply Refusal → Option Sleeping → Type 0
Asked None who call result new = (result ≡ Err InvalidHandle) × (new ≡ None)
Asked (Some old) who call result new = (s : Sleeping) × (new ≡ Some s) × MakesAndWakes old who call result s

-- the number that C sees of a result
abbrev pub error_of : Result Reply Refusal → ℕ
error_of (Ok reply) = 0
error_of (Err refusal) = number_of refusal

-- a reply in numbers: its kind, and the handle or status that it tells
abbrev plain_reply : ℕ → ℕ → NtReply
plain_reply kind number = record { kind = kind; number = number; previous = pos 0; timed = false; routine = 0; arg = 0; at = 0 }

-- the reply of an APC, which a timer queued at this moment or no timer did
abbrev timed_reply : NtReply → Option ℕ → NtReply
timed_reply reply None = reply
timed_reply reply (Some moment) = record reply { timed = true; at = moment }

-- the reply in numbers
abbrev pub reply_in : Reply → NtReply
reply_in Reply.Done = plain_reply 0 0
reply_in (Reply.Handle handle) = plain_reply 1 handle
reply_in (Reply.Previous count) = record (plain_reply 2 0) { previous = count }
reply_in (Reply.Status status) = plain_reply 3 status
reply_in Reply.Pended = plain_reply 4 0
reply_in (Reply.Apc None) = plain_reply 6 0
reply_in (Reply.Apc (Some apc)) = timed_reply (record (plain_reply 5 0) { routine = apc.routine; arg = apc.arg }) apc.at

-- what C has of a result where it had another reply before: a refusal leaves that
abbrev pub reply_after : NtReply → Result Reply Refusal → NtReply
reply_after old (Ok reply) = reply_in reply
reply_after old (Err refusal) = old

-- a call of which C sees the number and the reply
abbrev pub AnswersCall : Nt → ℕ → Call → ℕ → NtReply → NtReply → Nt → Type 0
AnswersCall old who call number before after new =
    (result : Result Reply Refusal)
    × Asked old.cell.held who call result new.cell.held
    × (number ≡ error_of result)
    × (after ≡ reply_after before result)

-- an act of which C sees the number and the reply
abbrev pub Acts : Nt → ℕ → Act → ℕ → NtReply → NtReply → Nt → Type 0
Acts old who act number before after new = AnswersCall old who (Call.Act act) number before after new

-- a wait of which C sees the number and the reply
abbrev pub WaitsWith : Nt → ℕ → WaitCall → ℕ → NtReply → NtReply → Nt → Type 0
WaitsWith old who wait number before after new = AnswersCall old who (Call.Wait wait) number before after new

-- ---- a tick

-- a tick of the dispatcher, which tests no wait but those that it must, or is refused and tests none; and what becomes of who sleeps
pub record LetsPass (old : Sleeping) (m : ℕ) (result : Result Reply Refusal) (new : Sleeping) : Type 0 where
  pub ticked : Ticked (state old.core) m result new.core.grants (state new.core)
  pub lawful : IsLawful new.core
  pub local : OnOk result (IsTickLocal (state old.core) m new.core.table.looked new.core.grants)
  pub untested : OnErr result (new.core.table.looked ≡ 0)
  pub spare : new.spare ≡ old.spare
  pub woke : Woke old 0 false new
  pub nobody : OnErr result (new.called ≡ None)

-- a tick of what the handle holds
abbrev pub TickAsked : Option Sleeping → ℕ → Result Reply Refusal → Option Sleeping → Type 0
TickAsked None m result new = (result ≡ Err InvalidHandle) × (new ≡ None)
TickAsked (Some old) m result new = (s : Sleeping) × (new ≡ Some s) × LetsPass old m result s

-- a tick of which C sees the number; no moment is above the greatest
abbrev pub Ticks : Nt → ℕ → ℕ → Nt → Type 0
Ticks old m number new =
    MatchBool (nat_le m MAX_MOMENT)
    ((result : Result Reply Refusal) × TickAsked old.cell.held m result new.cell.held × (number ≡ error_of result))
    ((number ≡ INVALID_PARAMETER) × (new ≡ old))

-- ---- what C reads

-- nothing is told
abbrev pub Untold : (A : Type 0) → ℕ → ℕ → A → A → Type 0
Untold A refusal number before after = (number ≡ refusal) × (after ≡ before)

-- a value of the dispatcher is told
abbrev pub Told : (A : Type 0) → A → ℕ → A → Type 0
Told A value number after = (number ≡ 0) × (after ≡ value)

-- a number of the dispatcher is told, or 6 is answered where there is none
abbrev pub Reads : (Dispatcher → ℕ) → Nt → ℕ → ℕ → ℕ → Type 0
Reads value nt number before after = MatchOption nt.cell.held (Untold ℕ INVALID_HANDLE number before after) (λ s. Told ℕ (value s.core) number after)

-- whether the thread's wait pends is told, or 536870915 is answered where no thread has this number
abbrev pub ReadsWaiting : ℕ → Nt → ℕ → Bool → Bool → Type 0
ReadsWaiting thread nt number before after =
    MatchOption nt.cell.held
    (Untold Bool INVALID_HANDLE number before after)
    (λ s. MatchBool (nat_le (state s.core).threads thread) (Untold Bool UNKNOWN_THREAD number before after) (Told Bool (pends (state s.core) thread) number after))

-- a number, or 0 for none
abbrev or_zero : Option ℕ → ℕ
or_zero None = 0
or_zero (Some n) = n

-- a pending wait as C sees it
abbrev pub wait_in : Wait → NtPendingWait
wait_in wait = record { count = length wait.objects; all = wait.all; alertable = wait.alertable; timed = is_some wait.deadline; deadline = or_zero wait.deadline }

-- what is read of the pending wait of the thread, or 259 is answered where none pends, or 536870915 where no thread has this number
abbrev ReadsOfWait : (A : Type 0) → ℕ → (Wait → Option A) → Nt → ℕ → A → A → Type 0
ReadsOfWait A thread part nt number before after =
    MatchOption nt.cell.held
    (Untold A INVALID_HANDLE number before after)
    (λ s. MatchBool (nat_le (state s.core).threads thread)
    (Untold A UNKNOWN_THREAD number before after)
    (MatchOption (map.get (state s.core).waits thread)
    (Untold A NO_MORE number before after)
    (λ wait. MatchOption (part wait) (Untold A NO_MORE number before after) (λ value. Told A value number after))))

-- the pending wait of the thread is told
abbrev pub ReadsWait : ℕ → Nt → ℕ → NtPendingWait → NtPendingWait → Type 0
ReadsWait thread nt number before after = ReadsOfWait NtPendingWait thread (λ wait. Some (wait_in wait)) nt number before after

-- the object at this index among those that the pending wait of the thread names is told, or 259 is answered past the last
abbrev pub ReadsObject : ℕ → ℕ → Nt → ℕ → ℕ → ℕ → Type 0
ReadsObject thread index nt number before after = ReadsOfWait ℕ thread (λ wait. slice_get wait.objects index) nt number before after

-- a grant as C sees it
abbrev grant_in : Grant → NtGrant
grant_in grant = record { thread = grant.thread; status = grant.status }

-- the grant at this index is told, or 259 is answered past the last
abbrev pub ReadsGrant : ℕ → Nt → ℕ → NtGrant → NtGrant → Type 0
ReadsGrant index nt number before after =
    MatchOption nt.cell.held
    (Untold NtGrant INVALID_HANDLE number before after)
    (λ s. MatchOption (slice_get s.core.grants index) (Untold NtGrant NO_MORE number before after) (λ grant. Told NtGrant (grant_in grant) number after))

-- the next moment up to m at which something is due is told, or 259 is answered where nothing is
abbrev IsDueTold : Dispatcher → ℕ → ℕ → ℕ → ℕ → Type 0
IsDueTold core m number before after =
    ((number ≡ 0) × IsNextMoment (state core) m after) ⊎ (Untold ℕ NO_MORE number before after × NothingDue (state core) m)

-- the same through a handle; no moment is above the greatest
abbrev pub ReadsDue : ℕ → Nt → ℕ → ℕ → ℕ → Type 0
ReadsDue m nt number before after =
    MatchBool (nat_le m MAX_MOMENT)
    (MatchOption nt.cell.held (Untold ℕ INVALID_HANDLE number before after) (λ s. IsDueTold s.core m number before after))
    (Untold ℕ INVALID_PARAMETER number before after)

-- ---- dispatchers come and go

-- a dispatcher for so many threads as it is at first: nothing was called, and nobody sleeps
pub record IsNewDispatcher (spare : Option Spares) (threads : ℕ) (s : Sleeping) : Type 0 where
  pub spare_is : s.spare ≡ spare
  pub state_is : state s.core ≡ opening threads
  pub grants : s.core.grants ≡ []
  pub looked : s.core.table.looked ≡ 0
  pub alarms : s.alarms ≡ replicate threads None
  pub watchers : s.watchers ≡ replicate threads false
  pub called : s.called ≡ None

-- a dispatcher for so many threads, of whom none sleeps, is opened where there is none; refused with 87 where there is one, and for no
-- thread or more than `most`, and with 8 where memory is refused
abbrev pub OpensHandle : ℕ → Option Spares → Option Sleeping → ℕ → ℕ → Option Sleeping → Type 0
OpensHandle most spare (Some old) threads number new = (number ≡ INVALID_PARAMETER) × (new ≡ Some old)
OpensHandle most spare None threads number new =
    ((s : Sleeping) × (new ≡ Some s) × (number ≡ 0) × (1 ≤ threads) × (threads ≤ most) × IsNewDispatcher spare threads s)
    ⊎ ((new ≡ None) × MatchBool (nat_le 1 threads && nat_le threads most) (number ≡ OUT_OF_MEMORY) (number ≡ INVALID_PARAMETER))

-- an equal dispatcher comes to where there was none; refused with 6 where there is nothing to copy, with 87 where there is one
-- already, and with 8 where memory is refused
abbrev pub Copies : Option Sleeping → Option Sleeping → ℕ → Option Sleeping → Type 0
Copies None to number new = (number ≡ INVALID_HANDLE) × (new ≡ to)
Copies (Some s) (Some to) number new = (number ≡ INVALID_PARAMETER) × (new ≡ Some to)
Copies (Some s) None number new = ((number ≡ 0) × (new ≡ Some s)) ⊎ ((number ≡ OUT_OF_MEMORY) × (new ≡ None))

-- ---- threads that begin

-- a thread begins in the place of one that has ended, and its number and that of its handle are told; or none does, and 259 is answered
pub record BeginsThread (old : Sleeping) (number : ℕ) (before after : NtBegun) (new : Sleeping) : Type 0 where
  pub begun : Option Begun
  pub begins : MayBegin (state old.core) old.spare begun new.core.grants (state new.core)
  pub lawful : IsLawful new.core
  pub sleeps : LetsSleep old new
  pub told : MatchOption begun (Untold NtBegun NO_MORE number before after) (λ b. Told NtBegun (record { thread = b.thread; handle = b.handle }) number after)

-- the same of what the handle holds
abbrev pub BeginsIn : Option Sleeping → ℕ → NtBegun → NtBegun → Option Sleeping → Type 0
BeginsIn None number before after new = Untold NtBegun INVALID_HANDLE number before after × (new ≡ None)
BeginsIn (Some old) number before after new = (s : Sleeping) × (new ≡ Some s) × BeginsThread old number before after s

-- ---- threads that have ended

-- the number that C sees of an object number, or of a refusal
abbrev pub aside_error : Result ℕ Refusal → ℕ
aside_error (Ok object) = 0
aside_error (Err refusal) = number_of refusal

-- the object of thread t is set aside, or that is refused
pub record PutsAside (old : Sleeping) (t number : ℕ) (new : Sleeping) : Type 0 where
  pub result : Result ℕ Refusal
  pub aside : MaySetAside (state old.core) old.spare t result new.core.grants (state new.core)
  pub lawful : IsLawful new.core
  pub sleeps : LetsSleep old new
  pub told : number ≡ aside_error result

-- the same of what the handle holds
abbrev pub PutsAsideIn : Option Sleeping → ℕ → ℕ → Option Sleeping → Type 0
PutsAsideIn None t number new = (number ≡ INVALID_HANDLE) × (new ≡ None)
PutsAsideIn (Some old) t number new = (s : Sleeping) × (new ≡ Some s) × PutsAside old t number s

-- ---- numbers are given again from now on

-- the number that C sees of what returns nothing, or of its refusal
abbrev pub done_error : Result (Unit {0}) Refusal → ℕ
done_error (Ok done) = 0
done_error (Err refusal) = number_of refusal

-- the dispatcher gives numbers again from now on, or memory is refused for that; all else of it is as it was
pub record GivesAgain (old : Sleeping) (number : ℕ) (new : Sleeping) : Type 0 where
  pub result : Result (Unit {0}) Refusal
  pub gives : GivesFromNow (state old.core) old.spare result new.spare
  pub same : new ≡ record old { spare = new.spare }
  pub told : number ≡ done_error result

-- the same of what the handle holds
abbrev pub GivesAgainIn : Option Sleeping → ℕ → Option Sleeping → Type 0
GivesAgainIn None number new = (number ≡ INVALID_HANDLE) × (new ≡ None)
GivesAgainIn (Some old) number new = (s : Sleeping) × (new ≡ Some s) × GivesAgain old number s
