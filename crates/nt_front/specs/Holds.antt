-- What contracts see of a thread's hold of the front.
use Rattle.std.specs.Prelude.{◌≡◌, ℕ, ◌≤◌, max, zero, suc, List, [], ◌∷◌, ◌++◌, length, Result, Ok, Err}
use Rattle.nt_calls.specs.declared.call.Call.{Call}
use Rattle.nt_calls.specs.declared.call.Reply.{Reply}
use Rattle.nt_status.specs.declared.refusal.Refusal.{Refusal}
use Rattle.atomic_table.specs.Seated.{TableId}
use Rattle.nt_mail.specs.Seats.{Seated}
use Rattle.nt_mail.specs.declared.knowledge.Knowledge.{Knowledge}
use Rattle.nt_mail.specs.declared.knowledge.Made.{Made}
use Rattle.nt_mail.specs.declared.knowledge.Asked.{Asked}
use Rattle.nt_mail.specs.Entries.{item, given}
use Rattle.nt_mail.specs.Knowledge.{knows, latest}

-- the hold has made one more call or tick
abbrev pub with_made : Knowledge → ℕ → Asked → Result Reply Refusal → Knowledge
with_made k number asked result = knows k.thread (k.made ++ item number asked result ∷ []) k.got k.polled k.moments

abbrev pub with_made_call : Knowledge → ℕ → Call → Result Reply Refusal → Knowledge
with_made_call k number call result = with_made k number (Asked.Call call) result

abbrev pub with_tick : Knowledge → ℕ → ℕ → Result Reply Refusal → Knowledge
with_tick k number moment result = with_made k number (Asked.Tick moment) result

-- n threads that have made no call
abbrev pub new_threads : ℕ → List Knowledge
new_threads zero = []
new_threads (suc n) = new_threads n ++ knows n [] [] [] [] ∷ []

-- the thread was given a grant, which is told as the result of its wait
pub record IsGiven (old : Knowledge) (number : ℕ) (result : Result Reply Refusal) (new : Knowledge) : Type 0 where
  pub status : ℕ
  pub result_is : result ≡ Ok (Reply.Status status)
  pub thread : new.thread ≡ old.thread
  pub made : new.made ≡ old.made
  pub got : new.got ≡ old.got ++ given number status ∷ []
  pub moments : new.moments ≡ old.moments

-- the moment of a tick that was accepted, or 0
abbrev pub moment_if : Asked → Result Reply Refusal → ℕ
moment_if (Asked.Call call) result = 0
moment_if (Asked.Tick moment) (Ok reply) = moment
moment_if (Asked.Tick moment) (Err cause) = 0
moment_if Asked.Begin result = 0

-- the greatest moment of the ticks that were accepted
abbrev pub ticked_to : List Made → ℕ
ticked_to [] = 0
ticked_to (m ∷ ms) = max (moment_if m.asked m.result) (ticked_to ms)

-- the greatest moment that the thread read or ticked to
abbrev pub floor_of : Knowledge → ℕ
floor_of k = max (latest 0 k.moments) (ticked_to k.made)

-- the number of the last call, where `last` is that of those before
abbrev pub last_made : ℕ → List Made → ℕ
last_made last [] = last
last_made last (m ∷ ms) = last_made m.number ms

-- there are no more calls than the number of the last one
abbrev pub AreNumbered : List Made → Type 0
AreNumbered made = length made ≤ last_made 0 made

-- what a hold keeps: its seat is of this table, its floor is the greatest moment that the thread knows, and its calls are counted
pub record IsHold (named : TableId) (seat : Seated) (greatest count : ℕ) : Type 0 where
  pub table : seat.table ≡ named
  pub floor : greatest ≡ floor_of seat.known
  pub calls : count ≡ length seat.known.made
  pub numbered : AreNumbered seat.known.made
