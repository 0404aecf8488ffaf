-- Answers with the entries that have them, and what refused a call.
use Rattle.std.specs.Prelude.{◌≡◌, ℕ, Result, Ok, Err}
use Rattle.nt_calls.specs.declared.call.Reply.{Reply}
use Rattle.nt_status.specs.declared.refusal.Refusal.{Refusal}
use Rattle.nt_front_calls.specs.declared.told.Told.{Told}
use Rattle.nt_front_calls.specs.declared.told.Refused.{Refused}

-- an answer of the dispatcher, or its refusal, with the number of the entry that has it
abbrev pub told_in : {A : Type 0} → ℕ → Result A Refusal → Result (Told A) Refused
told_in entry (Ok answer) = Ok (record { entry = entry; answer = answer })
told_in entry (Err refusal) = Err (Refused.Call entry refusal)

-- the refusal alone: that of the dispatcher, or why the call did not come to it
abbrev pub cause_of : Refused → Refusal
cause_of (Refused.Call entry refusal) = refusal
cause_of Refused.JournalFull = Refusal.JournalFull
cause_of Refused.NoMemory = Refusal.Memory

-- the entry's result is this status, or the refusal that is told
abbrev pub TellsEnd : ℕ → Result Reply Refusal → Result (Told ℕ) Refused → Type 0
TellsEnd entry result (Ok told) = (told.entry ≡ entry) × (result ≡ Ok (Reply.Status told.answer))
TellsEnd entry result (Err refused) = (refused ≡ Refused.Call entry (cause_of refused)) × (result ≡ Err (cause_of refused))
