-- The calls of a thread that were not refused, and one more.
use Rattle.std.proofs.Common.{◌≡◌, ◌∙◌, ℕ, List, [], ◌∷◌, ◌++◌, true, Result, Ok, Err, ap, sym, append_assoc, append-nil}
use Rattle.std.specs.Prelude.{OnOk}
use Rattle.std.proofs.lemmas.Bool.{false≢true}
use Rattle.nt_calls.specs.declared.call.Call.{Call}
use Rattle.nt_calls.specs.declared.call.Reply.{Reply}
use Rattle.nt_calls.specs.Moves.{pended}
use Rattle.nt_status.specs.declared.refusal.Refusal.{Refusal}
use Rattle.nt_mail.specs.declared.knowledge.Asked.{Asked}
use Rattle.nt_mail.specs.declared.knowledge.Made.{Made}
use Rattle.nt_mail.specs.declared.knowledge.Knowledge.{Knowledge}
use Rattle.nt_mail.specs.Entries.{item}
use Rattle.nt_front.specs.Holds.{IsGiven, with_made_call}
use Rattle.nt_threads.specs.Doors.{accepted_call, accepted_calls}

accepted-push : (ms : List Made) (m : Made) → accepted_calls (ms ++ m ∷ []) ≡ accepted_calls ms ++ accepted_call m.asked m.result
accepted-push [] m = append-nil (accepted_call m.asked m.result)
accepted-push (x ∷ ms) m =
    ap (λ (calls : List Call). accepted_call x.asked x.result ++ calls) (accepted-push ms m)
    ∙ sym (append_assoc (accepted_call x.asked x.result) (accepted_calls ms) (accepted_call m.asked m.result))

-- a call that was not refused is one more
pub call_accepted : (old new : Knowledge) (call : Call) (number : ℕ) (result : Result Reply Refusal) → new ≡ with_made_call old number call result
    → OnOk result (accepted_calls new.made ≡ accepted_calls old.made ++ call ∷ [])
call_accepted old new call number (Ok reply) is = ap (λ (k : Knowledge). accepted_calls k.made) is ∙ accepted-push old.made (item number (Asked.Call call) (Ok reply))
call_accepted old new call number (Err cause) is = tt

wait_made : (old : Knowledge) (call : Call) (number : ℕ) (result : Result Reply Refusal) → pended result ≡ true
    → accepted_calls (with_made_call old number call result).made ≡ accepted_calls old.made ++ call ∷ []
wait_made old call number (Ok reply) pends = accepted-push old.made (item number (Asked.Call call) (Ok reply))
wait_made old call number (Err cause) pends = absurd (false≢true pends)

-- a wait that pended is one more, once it was granted
pub wait_accepted : (old asleep new : Knowledge) (call : Call) (number grant : ℕ) (result given : Result Reply Refusal) → asleep ≡ with_made_call old number call result
    → pended result ≡ true → IsGiven asleep grant given new → OnOk given (accepted_calls new.made ≡ accepted_calls old.made ++ call ∷ [])
wait_accepted old asleep new call number grant result (Ok reply) is pends granted =
    ap accepted_calls granted.made ∙ ap (λ (k : Knowledge). accepted_calls k.made) is ∙ wait_made old call number result pends
wait_accepted old asleep new call number grant result (Err cause) is pends granted = tt
