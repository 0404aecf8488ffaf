-- What a call answers in a type of its own, and the reply for which that stands.
use Rattle.std.specs.Prelude.{ℕ, ℤ, Bool, true, false, ⊤, Option, Result, Ok, Err}
use Rattle.nt_status.specs.declared.refusal.Refusal.{Refusal}
use Rattle.nt_apc.specs.declared.apc.Apc.{Apc}
use Rattle.nt_calls.specs.declared.call.Reply.{Reply}
use Rattle.nt_answers.specs.declared.began.Began.{Began}

-- ---- the reply for which an answer stands

-- the result of a call whose answers stand for these replies
abbrev pub as_reply : {A : Type 0} → (A → Reply) → Result A Refusal → Result Reply Refusal
as_reply stands_for (Ok answer) = Ok (stands_for answer)
as_reply stands_for (Err refusal) = Err refusal

abbrev pub done_reply : Result ⊤ Refusal → Result Reply Refusal
done_reply result = as_reply (λ _. Reply.Done) result

abbrev pub created_reply : Result ℕ Refusal → Result Reply Refusal
created_reply result = as_reply Reply.Handle result

abbrev pub previous_reply : Result ℤ Refusal → Result Reply Refusal
previous_reply result = as_reply Reply.Previous result

abbrev pub apc_reply : Result (Option Apc) Refusal → Result Reply Refusal
apc_reply result = as_reply Reply.Apc result

-- how a wait began, as a reply
abbrev pub begun_as : Began → Reply
begun_as (Began.Ended status) = Reply.Status status
begun_as Began.Pended = Reply.Pended

abbrev pub began_reply : Result Began Refusal → Result Reply Refusal
began_reply result = as_reply begun_as result

-- ---- the replies for which there is such an answer

abbrev pub is_done : Result Reply Refusal → Bool
is_done (Ok Reply.Done) = true
is_done (Err refusal) = true
is_done _ = false

abbrev pub is_handle : Result Reply Refusal → Bool
is_handle (Ok (Reply.Handle handle)) = true
is_handle (Err refusal) = true
is_handle _ = false

abbrev pub is_previous : Result Reply Refusal → Bool
is_previous (Ok (Reply.Previous count)) = true
is_previous (Err refusal) = true
is_previous _ = false

abbrev pub is_apc : Result Reply Refusal → Bool
is_apc (Ok (Reply.Apc apc)) = true
is_apc (Err refusal) = true
is_apc _ = false

abbrev pub is_began : Result Reply Refusal → Bool
is_began (Ok (Reply.Status status)) = true
is_began (Ok Reply.Pended) = true
is_began (Err refusal) = true
is_began _ = false
