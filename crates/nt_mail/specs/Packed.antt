-- Entries as journals keep them, and as they are told.
use Rattle.std.specs.Prelude.{◌≡◌, Bool, true, false, Result, Ok, Err}
use Rattle.nt_status.specs.declared.refusal.Refusal.{Refusal}
use Rattle.nt_calls.specs.declared.call.Act.{Act}
use Rattle.nt_calls.specs.declared.call.Call.{Call}
use Rattle.nt_calls.specs.declared.call.Reply.{Reply}
use Rattle.nt_mail.specs.declared.entry.Entry.{Entry}
use Rattle.nt_mail.specs.declared.entry.Entry.TheVariants.{Called, Ticked, Granted, Renewed}
use Rattle.nt_mail.specs.declared.packed.ShortReply.{ShortReply}
use Rattle.nt_mail.specs.declared.packed.Kept.{Kept}
use Rattle.nt_mail.specs.declared.packed.ReadEntry.{ReadEntry}

-- the result is an APC, or that there is none
abbrev pub hands_apc : Result Reply Refusal → Bool
hands_apc (Ok (Reply.Apc apc)) = true
hands_apc _ = false

-- an APC is answered to NextApc alone
abbrev pub CanHand : Call → Result Reply Refusal → Type 0
CanHand call result = hands_apc result ≡ true → call ≡ Call.Act Act.NextApc

-- the entry that this tells
abbrev pub read_entry : ReadEntry → Entry
read_entry (ReadEntry.Called who call result) = Called who call.now result
read_entry (ReadEntry.Handed who apc) = Called who (Call.Act Act.NextApc) (Ok (Reply.Apc apc))
read_entry (ReadEntry.Ticked by moment result) = Ticked by moment result
read_entry (ReadEntry.Granted who status) = Granted who status
read_entry (ReadEntry.Renewed who renewal result) = Renewed who renewal.now result

-- the reply that is kept so
abbrev pub long_reply : ShortReply → Reply
long_reply ShortReply.Done = Reply.Done
long_reply (ShortReply.Handle handle) = Reply.Handle handle
long_reply (ShortReply.Previous count) = Reply.Previous count
long_reply (ShortReply.Status status) = Reply.Status status
long_reply ShortReply.Pended = Reply.Pended

-- the result that is kept so
abbrev pub result_of : Result ShortReply Refusal → Result Reply Refusal
result_of (Ok short) = Ok (long_reply short)
result_of (Err cause) = Err cause

-- the entry that is kept so
abbrev pub kept_entry : Kept → Entry
kept_entry (Kept.Called who result call) = Called who call (result_of result)
kept_entry (Kept.Handed who apc) = Called who (Call.Act Act.NextApc) (Ok (Reply.Apc apc))
kept_entry (Kept.Ticked by result moment) = Ticked by moment (result_of result)
kept_entry (Kept.Granted who status) = Granted who status
kept_entry (Kept.Renewed who result renewal) = Renewed who renewal result
