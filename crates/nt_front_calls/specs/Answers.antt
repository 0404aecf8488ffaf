-- What each call of a front answers, by what its thread knows then.
use Rattle.std.specs.Prelude.{◌≡◌, ◌≢◌, ◌<◌, ℕ, Bool, true, false, ⊤, length, Option, Some, None, Result, Ok, Err}
use Rattle.nt_status.specs.declared.limits.TheConstants.{MAX_INLINE_HANDLES}
use Rattle.nt_calls.specs.declared.call.Call.{Call}
use Rattle.nt_calls.specs.declared.call.WaitCall.{WaitCall}
use Rattle.nt_calls.specs.declared.call.Reply.{Reply}
use Rattle.nt_mail.specs.declared.knowledge.Knowledge.{Knowledge}
use Rattle.nt_mail.specs.Knowledge.{IsEarlier}
use Rattle.nt_front.specs.declared.hold.Held.{Held}
use Rattle.nt_front.specs.Names.{Prepared}
use Rattle.nt_front.specs.Books.{WasFull}
use Rattle.nt_front.specs.Held.{knowledge_of}
use Rattle.nt_front.specs.Holds.{IsGiven, with_tick}
use Rattle.nt_front.specs.Polls.{IsMade, IsReady, IsStill}
use Rattle.nt_front_calls.specs.declared.told.Told.{Told}
use Rattle.nt_front_calls.specs.declared.told.Refused.{Refused}
use Rattle.nt_front_calls.specs.declared.told.WaitEnd.{WaitEnd}
use Rattle.nt_front_calls.specs.declared.told.Began.{Began}
use Rattle.nt_front_calls.specs.declared.told.Polled.{Polled}

-- ---- a call

-- the call is a wait for more objects than a list of handles has in itself, which takes no memory
abbrev pub TakesMemory : Call → Type 0
TakesMemory (Call.Wait (WaitCall.Objects all mode handles)) = MAX_INLINE_HANDLES < length handles
TakesMemory _ = ⊥

-- the call was refused: by the dispatcher, and so written; or the journal was full; or a wait's list of handles found no memory. Nothing was
-- done or written in the last two cases
abbrev pub IsRefused : Prepared → Knowledge → Call → Refused → Knowledge → Type 0
IsRefused front old call (Refused.Call entry refusal) new = IsMade old call entry (Err refusal) new
IsRefused front old call Refused.JournalFull new = (new ≡ old) × WasFull front old
IsRefused front old call Refused.NoMemory new = (new ≡ old) × TakesMemory call

-- the call was made and written, with the reply for which the answer stands; or it was refused
abbrev pub CallIsTold : {A : Type 0} → (A → Reply) → Prepared → Knowledge → Call → Result (Told A) Refused → Knowledge → Type 0
CallIsTold stands_for front old call (Ok told) new = IsMade old call told.entry (Ok (stands_for told.answer)) new
CallIsTold stands_for front old call (Err refused) new = IsRefused front old call refused new

abbrev pub CallIsDone : Prepared → Knowledge → Call → Result (Told ⊤) Refused → Knowledge → Type 0
CallIsDone front old call result new = CallIsTold (λ _. Reply.Done) front old call result new

-- ---- a wait

-- the wait ended at once with this status, pends, or was refused
abbrev pub WaitHasBegun : {X : Type 0} → Prepared → Knowledge → WaitCall → Began X → Type 0
WaitHasBegun front old wait (Began.Ended new told) = IsMade old (Call.Wait wait) told.entry (Ok (Reply.Status told.answer)) new
WaitHasBegun front old wait (Began.Pended new entry) = IsMade old (Call.Wait wait) entry (Ok Reply.Pended) new
WaitHasBegun front old wait (Began.Refused new refused) = IsRefused front old (Call.Wait wait) refused new

-- not for want of memory
abbrev pub FindsMemory : {X : Type 0} → Began X → Type 0
FindsMemory (Began.Refused new refused) = refused ≢ Refused.NoMemory
FindsMemory other = Unit {0}

-- the thread, asleep, was given a grant with this status
abbrev pub IsWoken : Knowledge → Told ℕ → Knowledge → Type 0
IsWoken asleep told new = IsGiven asleep told.entry (Ok (Reply.Status told.answer)) new

-- the wait ended at once with this status; or it pended, and the thread was given a grant with it
abbrev pub HasEnded : Knowledge → WaitCall → ℕ → ℕ → Option ℕ → Knowledge → Type 0
HasEnded old wait entry status None new = IsMade old (Call.Wait wait) entry (Ok (Reply.Status status)) new
HasEnded old wait entry status (Some granted) new =
    (asleep : Knowledge) × IsMade old (Call.Wait wait) entry (Ok Reply.Pended) asleep × IsGiven asleep granted (Ok (Reply.Status status)) new

-- the wait ended so, or was refused
abbrev pub IsWaitedFor : Prepared → Knowledge → WaitCall → Result WaitEnd Refused → Knowledge → Type 0
IsWaitedFor front old wait (Ok end) new = HasEnded old wait end.entry end.status end.granted new
IsWaitedFor front old wait (Err refused) new = IsRefused front old (Call.Wait wait) refused new

-- one word was read: it had a grant with this status, which was taken; or nothing was found
abbrev pub IsLookedFor : {X : Type 0} → Knowledge → Polled X → Type 0
IsLookedFor asleep (Polled.Ready new told) = IsReady asleep told.entry (Ok (Reply.Status told.answer)) new
IsLookedFor asleep (Polled.Still new) = IsStill asleep new

-- ---- the end of a thread, and a tick

-- the thread has its pass
abbrev pub is_pass : {X : Type 0} → Held X → Bool
is_pass (Held.Pass k) = true
is_pass _ = false

-- the thread has ended
abbrev pub is_ended : {X : Type 0} → Held X → Bool
is_ended (Held.Ended k) = true
is_ended _ = false

-- an end that was written leaves an ended thread, and one that was not the pass
abbrev pub LeavesHold : {X : Type 0} → Result (Told ⊤) Refused → Held X → Type 0
LeavesHold (Ok told) held = is_ended held ≡ true
LeavesHold (Err (Refused.Call entry refusal)) held = is_ended held ≡ true
LeavesHold (Err other) held = is_pass held ≡ true

-- the thread's end was made, or refused
abbrev pub ThreadIsEnded : {X : Type 0} → Prepared → Knowledge → Held X → Result (Told ⊤) Refused → Type 0
ThreadIsEnded front old held result = CallIsDone front old Call.Exit result (knowledge_of held) × LeavesHold result held

-- the tick was made and written, or refused so
abbrev pub FrontIsTicked : Prepared → Knowledge → ℕ → Result (Told ⊤) Refused → Knowledge → Type 0
FrontIsTicked front old moment (Ok told) new = (new ≡ with_tick old told.entry moment (Ok Reply.Done)) × IsEarlier told.entry old
FrontIsTicked front old moment (Err (Refused.Call entry refusal)) new = (new ≡ with_tick old entry moment (Err refusal)) × IsEarlier entry old
FrontIsTicked front old moment (Err Refused.JournalFull) new = (new ≡ old) × WasFull front old
FrontIsTicked front old moment (Err Refused.NoMemory) new = ⊥
