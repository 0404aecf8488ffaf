-- What contracts see of a book.
use Rattle.std.specs.Prelude.{◌≡◌, ◌⊎◌, ℕ, Bool, ◌+◌, ◌-◌, ◌<◌, ◌≤◌, ◌&&◌, nat_le, min, List, [], ◌∷◌, ◌++◌, map, length, true, false, is_some, is_err, IsTrue, MatchOption, Option, Result, Ok}
use Rattle.std.specs.FinMap.{len}
use Rattle.nt_status.specs.declared.limits.TheConstants.{MAX_THREADS}
use Rattle.nt_status.specs.declared.refusal.Refusal.{Refusal}
use Rattle.nt_calls.specs.declared.call.Call.{Call}
use Rattle.nt_calls.specs.declared.call.Reply.{Reply}
use Rattle.nt_machine.specs.Dispatcher.{Dispatcher, state}
use Rattle.nt_machine.specs.Lawful.{IsLawful}
use Rattle.nt_core.specs.Renewals.{is_left}
use Rattle.nt_calls.specs.Moves.{Moves, pended, is_wait}
use Rattle.nt_calls.specs.State.{opening, pends}
use Rattle.nt_answers.specs.Kinds.{is_answer}
use Rattle.nt_life.specs.Lasting.{Spares, WithSpare, MakesCall}
use Rattle.nt_life.specs.Renewals.{IsFor}
use Rattle.nt_life.specs.declared.renewal.Renewal.TheVariants.{Begin}
use Rattle.nt_mail.specs.declared.word.TheConstants.{ENTRY_LIMIT}
use Rattle.nt_mail.specs.declared.entry.Entry.{Entry}
use Rattle.nt_mail.specs.declared.entry.Entry.TheVariants.{Called, Ticked, Renewed}
use Rattle.nt_mail.specs.Journals.{granted, Deed, IsDeed, is_renewal}
use Rattle.nt_mail.specs.declared.knowledge.Knowledge.{Knowledge}
use Rattle.nt_mail.specs.Entries.{accepted, handle_reply}
use Rattle.nt_mail.specs.declared.knowledge.Asked.{Asked}
use Rattle.nt_mail.specs.Knowledge.{newcomers, IsEarlier}
use Rattle.nt_mail.specs.Rule.{IsTold}
use Rattle.nt_mail.specs.Seats.{DispatcherSeated as Seat, Gathered}
use Rattle.nt_front.specs.declared.blank.TheConstants.{MAX_ROOM}
use Rattle.nt_front.specs.Names.{Prepared}
use Rattle.nt_front.specs.declared.receipt.Part.{Part}
use Rattle.nt_front.specs.declared.receipt.Receipt.{Receipt}
use Rattle.nt_front.specs.Holds.{with_made}
use Rattle.nt_front.specs.Runs.{IsHistoryFrom, LeadTo, Agree}

-- the dispatcher with the numbers that are spare, if it lasts, and the base: the same dispatcher as it was when the journal was last handed
-- out, or at first; all entries written, the number of the first that the journal still has, and those that it has; and how many places it has
pub record Ledger : Type 0 where
  pub core : Dispatcher
  pub spare : Option Spares
  pub base : Dispatcher
  pub written : List Entry
  pub first : ℕ
  pub journal : List Entry
  pub room : ℕ

abbrev pub ledger : WithSpare → Dispatcher → List Entry → ℕ → List Entry → ℕ → Ledger
ledger life base written first journal room =
    record { core = life.core; spare = life.spare; base = base; written = written; first = first; journal = journal; room = room }

-- it may give numbers again
abbrev pub gives_again : Ledger → Bool
gives_again b = is_some b.spare

-- the headline: the dispatcher is lawful, and the journal is a run from the base that leads to this very state, or, if it lasts, a life; the
-- entries before it, which were handed out, led to the base
pub record Stands (b : Ledger) : Type 0 where
  pub lawful : IsLawful b.core
  pub run : IsHistoryFrom (gives_again b) (state b.base) b.journal (state b.core)
  pub before : List Entry
  pub led : LeadTo (gives_again b) b.core.threads b.first before (state b.base)
  pub all : b.written ≡ before ++ b.journal

-- what a deed writes: its entry, and then those of the waits that ended with it
abbrev pub entries_by : Deed → List Entry
entries_by deed = deed.entry ∷ map granted deed.grants

-- the stages that the deed tells were done, and its entries written; it is a renewal only if the book lasts
pub record Writes (old : Ledger) (deed : Deed) (new : Ledger) : Type 0 where
  pub step : IsDeed (state old.core) deed (state new.core)
  pub once : gives_again old ≡ false → is_renewal deed.entry ≡ false
  pub lasts : gives_again new ≡ gives_again old
  pub journal : new.journal ≡ old.journal ++ entries_by deed
  pub written : new.written ≡ old.written ++ entries_by deed
  pub base : new.base ≡ old.base
  pub first : new.first ≡ old.first
  pub room : new.room ≡ old.room

-- the entry tells this call of the thread with its answer; or which numbers were given again for it, with the same answer
abbrev pub IsOfCall : ℕ → Call → Result Reply Refusal → Entry → Type 0
IsOfCall who call result (Called by asked answer) = (by ≡ who) × (asked ≡ call) × (answer ≡ result)
IsOfCall who call result (Renewed by renewal answer) = (by ≡ who) × IsFor renewal call × (handle_reply answer ≡ result)
IsOfCall who call result _ = ⊥

-- the call was made and written. Which numbers were given again is as `Lasting::call` has it
pub record WritesCall (old : Ledger) (who : ℕ) (call : Call) (result : Result Reply Refusal) (new : Ledger) : Type 0 where
  pub entry : Entry
  pub of : IsOfCall who call result entry
  pub writes : Writes old (record { entry = entry; grants = new.core.grants }) new
  pub makes : MakesCall (state old.core) old.spare who call result new.core.grants (state new.core)

abbrev pub WritesTick : Ledger → ℕ → ℕ → Result Reply Refusal → Ledger → Type 0
WritesTick old by moment result new = Writes old (record { entry = Ticked by moment result; grants = new.core.grants }) new

-- the thread, which had ended, began again with this handle
abbrev pub WritesBegin : Ledger → ℕ → ℕ → Ledger → Type 0
WritesBegin old who handle new = Writes old (record { entry = Renewed who (Begin handle) (Ok handle); grants = [] }) new

-- the dispatcher carried out a thread's call, with this result, as this entry tells
pub record IsCarriedOut (old : WithSpare) (who : ℕ) (call : Call) (result : Result Reply Refusal) (entry : Entry) (new : WithSpare) : Type 0 where
  pub of : IsOfCall who call result entry
  pub step : IsDeed (state old.core) (record { entry = entry; grants = new.core.grants }) (state new.core)
  pub once : is_some old.spare ≡ false → is_renewal entry ≡ false
  pub lasts : is_some new.spare ≡ is_some old.spare
  pub makes : MakesCall (state old.core) old.spare who call result new.core.grants (state new.core)
  pub lawful : IsLawful new.core
  pub moves : Moves (state old.core) who (pended result) new.core.grants (state new.core)
  pub waits : pended result ≡ true → is_wait call ≡ true
  pub moment : (state new.core).now ≡ (state old.core).now
  pub most : length new.core.grants ≤ len (state old.core).waits
  -- a thread whose call is accepted waited for nothing
  pub free : (is_err result && pends (state new.core) who) ≡ pends (state old.core) who
  pub answer : IsTrue (is_answer call result)

-- the number of the next entry
abbrev pub next_number : Ledger → ℕ
next_number b = b.first + length b.journal

-- a thread's call, tick or beginning is the next entry, numbered above all that the thread knew, and is all that the thread knows anew
pub record IsEntered (old : Ledger) (before : Knowledge) (asked : Asked) (receipt : Receipt) (after : Knowledge) : Type 0 where
  pub next : receipt.entry ≡ next_number old
  pub earlier : IsEarlier receipt.entry before
  pub made : after ≡ with_made before receipt.entry asked receipt.result

-- how many entries there is a place for, and a number
abbrev pub room_left : Ledger → ℕ
room_left b = min (b.room - length b.journal) (ENTRY_LIMIT - next_number b)

-- the room left is too small for an entry and one more for each pending wait
abbrev pub IsFull : Ledger → Type 0
IsFull b = room_left b < 1 + len (state b.core).waits

-- the entries since the base were handed out, with the base and the number of the first; the dispatcher is as before, and the new base; no
-- entry stands, and numbers go on
pub record HandsOut (old : Ledger) (part : Part) (new : Ledger) : Type 0 where
  pub first : part.first ≡ old.first
  pub base : part.base ≡ old.base
  pub entries : part.entries.items ≡ old.journal
  pub rest : new ≡ ledger (record { core = old.core; spare = old.spare }) old.core old.written (next_number old) [] old.room

-- a book of this front had no room for the thread's next call: it stood, it was full, and its journal tells just what the thread knows
pub record WasFull (front : Prepared) (k : Knowledge) : Type 0 where
  pub book : Ledger
  pub stands : Stands book
  pub threads : book.core.threads ≡ front.threads
  pub room : book.room ≡ front.room
  pub lasts : gives_again book ≡ front.lasts
  pub full : IsFull book
  pub told : IsTold book.written (accepted book.written) k

-- a book of this front handed out this part: it stood, and stands without the part; the entries told just what the thread knows
pub record WasHandedOut (front : Prepared) (k : Knowledge) (part : Part) : Type 0 where
  pub book : Ledger
  pub stands : Stands book
  pub threads : book.core.threads ≡ front.threads
  pub room : book.room ≡ front.room
  pub lasts : gives_again book ≡ front.lasts
  pub told : IsTold book.written (accepted book.written) k
  pub rest : Ledger
  pub handed : HandsOut book part rest
  pub goes_on : Stands rest

-- a book of this front could not have the thread begin again: it stood, and does not last, or no handle was closed, or the thread's place
-- was not free; its journal tells just what the thread knows
pub record WasTaken (front : Prepared) (k : Knowledge) : Type 0 where
  pub book : Ledger
  pub stands : Stands book
  pub threads : book.core.threads ≡ front.threads
  pub room : book.room ≡ front.room
  pub lasts : gives_again book ≡ front.lasts
  pub taken : MatchOption book.spare (Unit {0}) (λ spare. (length spare.closed ≡ 0) ⊎ (is_left (state book.core) k.thread ≡ false))
  pub told : IsTold book.written (accepted book.written) k

-- so many threads and so much room are lawful
abbrev pub is_lawful_front : ℕ → ℕ → Bool
is_lawful_front threads room = nat_le 1 threads && nat_le threads MAX_THREADS && nat_le 1 room && nat_le room MAX_ROOM

-- what a front without a name keeps: the seats of new threads, a dispatcher at its opening, and an empty journal with places for its room
pub record IsBlank (b : Prepared) (all : Gathered) (life : WithSpare) (journal : List Entry) (capacity : ℕ) : Type 0 where
  pub seats : all ≡ record { table = b.table; written = []; published = []; parts = newcomers 0 b.threads }
  pub words : b.table.words ≡ b.threads + 1
  pub opens : state life.core ≡ opening b.threads
  pub lawful : IsLawful life.core
  pub lasts : is_some life.spare ≡ b.lasts
  pub empty : journal ≡ []
  pub places : b.room ≤ capacity
  pub few : b.threads ≤ MAX_THREADS

-- what a book keeps: the headline, entries that agree with the state, the threads and the room of its front, places for that room,
-- numbers for the entries, the first number that no entry can have, and a seat that knows all entries written
pub record IsBook (b : Ledger) (count capacity end : ℕ) (dispatcher : Seat) (front : Prepared) : Type 0 where
  pub stands : Stands b
  pub agree : Agree count b.written (state b.core)
  pub threads : count ≡ front.threads
  pub room : b.room ≡ front.room
  pub lasts : gives_again b ≡ front.lasts
  pub places : b.room ≤ capacity
  pub next : length b.written + 1 ≡ next_number b
  pub numbers : next_number b ≤ ENTRY_LIMIT
  pub ends : end ≡ min (b.first + b.room) ENTRY_LIMIT
  pub seat : dispatcher ≡ record { table = front.table; written = b.written; published = accepted b.written }
  pub words : front.table.words ≡ count + 1
