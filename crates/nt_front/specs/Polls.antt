-- What a poll, a wait that begins, a wait to its end and the end of a thread answer.
use Rattle.std.specs.Prelude.{◌≡◌, ◌≢◌, ◌⊎◌, ℕ, true, false, Result, Ok, IsTrue}
use Rattle.nt_calls.specs.declared.call.Call.{Call}
use Rattle.nt_calls.specs.declared.call.Reply.{Reply}
use Rattle.nt_calls.specs.declared.call.WaitCall.{WaitCall}
use Rattle.nt_status.specs.declared.refusal.Refusal.{Refusal}
use Rattle.nt_calls.specs.Moves.{pended}
use Rattle.nt_answers.specs.Kinds.{is_answer}
use Rattle.nt_mail.specs.declared.knowledge.Knowledge.{Knowledge}
use Rattle.nt_front.specs.declared.polls.Polled.{Polled}
use Rattle.nt_front.specs.declared.calls.Begun.{Begun}
use Rattle.nt_front.specs.declared.waits.Waited.{Waited}
use Rattle.nt_front.specs.declared.calls.Exited.{Exited}
use Rattle.nt_front.specs.declared.again.BegunAgain.{BegunAgain}
use Rattle.nt_mail.specs.declared.knowledge.Asked.{Asked}
use Rattle.nt_mail.specs.declared.word.Word.{Word}
use Rattle.nt_mail.specs.Entries.{given}
use Rattle.nt_mail.specs.Words.{IsLawfulWord, TellsGrant, granted_word}
use Rattle.nt_mail.specs.Knowledge.{with_got, with_polled, IsEarlier}
use Rattle.nt_front.specs.Names.{Prepared}
use Rattle.nt_front.specs.Books.{WasFull, WasTaken}
use Rattle.nt_front.specs.Holds.{IsGiven, with_made_call, with_made}

-- the word tells no grant
abbrev pub IsUngranted : ℕ → Type 0
IsUngranted word = (n status : ℕ) → IsLawfulWord (Word.Granted n status) → granted_word n status ≢ word

-- the word tells a grant
abbrev pub TellsAny : ℕ → Type 0
TellsAny word = (number : ℕ) × (reply : Reply) × TellsGrant word number reply

-- nothing was found: the one word that was read tells no grant, or it tells one, and the exchange that was to take it found another word
abbrev pub IsStill : Knowledge → Knowledge → Type 0
IsStill old new =
    ((word : ℕ) × IsUngranted word × (new ≡ with_polled word old))
    ⊎ ((word found : ℕ) × TellsAny word × (found ≢ word) × (new ≡ with_polled found (with_polled word old)))

-- one word was read, which tells the grant with this number and this result, and that grant was taken out of that very word
pub record IsReady (old : Knowledge) (number : ℕ) (result : Result Reply Refusal) (new : Knowledge) : Type 0 where
  pub word : ℕ
  pub reply : Reply
  pub tells : TellsGrant word number reply
  pub result_is : result ≡ Ok reply
  pub taken : new ≡ with_got (given number tells.status) (with_polled word old)

abbrev pub IsPolled : {X : Type 0} → Knowledge → Polled X → Type 0
IsPolled old (Polled.Ready new receipt) = IsReady old receipt.entry receipt.result new
IsPolled old (Polled.Still new) = IsStill old new

-- the call was written under a number above all that the thread had, with a result that it can have
abbrev pub IsMade : Knowledge → Call → ℕ → Result Reply Refusal → Knowledge → Type 0
IsMade old call number result new = (new ≡ with_made_call old number call result) × IsEarlier number old × IsTrue (is_answer call result)

abbrev pub IsWaitBegun : {X : Type 0} → Prepared → Knowledge → WaitCall → Begun X → Type 0
IsWaitBegun front old wait (Begun.Done new receipt) = IsMade old (Call.Wait wait) receipt.entry receipt.result new × (pended receipt.result ≡ false)
IsWaitBegun front old wait (Begun.Pended new receipt) = IsMade old (Call.Wait wait) receipt.entry receipt.result new × (pended receipt.result ≡ true)
IsWaitBegun front old wait (Begun.NoRoom new) = (new ≡ old) × WasFull front old

-- the wait ended at once; or it pended, and then the thread, asleep, was given its grant
abbrev pub IsWaited : {X : Type 0} → Prepared → Knowledge → WaitCall → Waited X → Type 0
IsWaited front old wait (Waited.Done new receipt) = IsMade old (Call.Wait wait) receipt.entry receipt.result new × (pended receipt.result ≡ false)
IsWaited front old wait (Waited.Granted new begun granted) =
    (asleep : Knowledge) × IsMade old (Call.Wait wait) begun.entry begun.result asleep × (pended begun.result ≡ true) × IsGiven asleep granted.entry granted.result new
IsWaited front old wait (Waited.NoRoom new) = (new ≡ old) × WasFull front old

abbrev pub IsExited : {X : Type 0} → Prepared → Knowledge → Exited X → Type 0
IsExited front old (Exited.Ended new receipt) = IsMade old Call.Exit receipt.entry receipt.result new
IsExited front old (Exited.NoRoom new) = (new ≡ old) × WasFull front old

-- the front lasts, and that the thread began again was written, under a number above all that the thread had, with its handle; or its place
-- was not free; or the journal was full
abbrev pub IsBegunAgain : {X : Type 0} → Prepared → Knowledge → BegunAgain X → Type 0
IsBegunAgain front old (BegunAgain.Begun new receipt) =
    (front.lasts ≡ true) × (new ≡ with_made old receipt.entry Asked.Begin receipt.result) × IsEarlier receipt.entry old × ((handle : ℕ) × (receipt.result ≡ Ok (Reply.Handle handle)))
IsBegunAgain front old (BegunAgain.Taken new) = (new ≡ old) × WasTaken front old
IsBegunAgain front old (BegunAgain.NoRoom new) = (new ≡ old) × WasFull front old
