-- What a call answered, and whose waits it ended, in words.
use Rattle.std.specs.Prelude.{ℕ, List, ◌++◌, ◌==◌, None, Some, Result, Ok, Err, if◌then◌else◌, codes}
use Rattle.std.specs.List.{flat_map}
use Rattle.std.specs.Fmt.{decimal, signed_decimal}
use Rattle.nt_status.specs.Status.{status_text}
use Rattle.nt_status.specs.Refusal.{name_of}
use Rattle.nt_status.specs.declared.refusal.Refusal.{Refusal}
use Rattle.nt_apc.specs.declared.apc.Apc.{Apc}
use Rattle.nt_calls.specs.declared.call.Reply.{Reply}
use Rattle.nt_calls.specs.declared.call.Grant.{Grant}
use Rattle.nt_script.specs.Transcript.{moment_text}

-- an APC's routine and argument, and a timer's due moment
abbrev pub apc_text : Apc → List ℕ
apc_text apc = (codes "apc " ++ decimal apc.routine) ++ ((codes " " ++ decimal apc.arg) ++ moment_text apc.at)

-- how a wait ended, by name; that of the first object has no number after it
abbrev pub ending_text : ℕ → List ℕ
ending_text status =
    if status == 0 then codes "WAIT_OBJECT_0"
    else if status == 128 then codes "WAIT_ABANDONED_0"
    else status_text status

-- what a call was answered, a status by its name
abbrev pub reply_text : Reply → List ℕ
reply_text Reply.Done = codes "ok"
reply_text (Reply.Handle handle) = codes "handle " ++ decimal handle
reply_text (Reply.Previous count) = codes "previous " ++ signed_decimal count
reply_text (Reply.Status status) = ending_text status
reply_text Reply.Pended = codes "pending"
reply_text (Reply.Apc None) = codes "apc none"
reply_text (Reply.Apc (Some apc)) = apc_text apc

-- the same, or the name of the refusal
abbrev pub result_text : Result Reply Refusal → List ℕ
result_text (Ok reply) = reply_text reply
result_text (Err refusal) = name_of refusal

-- whose wait a call ended
unfoldable pub whose_text : ℕ → List ℕ
whose_text thread = codes "; t" ++ decimal thread

-- how it ended
unfoldable pub how_text : ℕ → List ℕ
how_text status = codes "'s wait ends: " ++ ending_text status

abbrev pub wait_end_text : Grant → List ℕ
wait_end_text grant = whose_text grant.thread ++ how_text grant.status

-- what a call answered, and the waits that it ended
abbrev pub order_answer_text : Result Reply Refusal → List Grant → List ℕ
order_answer_text result grants = result_text result ++ flat_map wait_end_text grants
