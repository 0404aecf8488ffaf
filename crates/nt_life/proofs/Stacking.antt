-- In which order the numbers of closed handles are given.
use Rattle.std.proofs.Common.{◌≡◌, ◌∙◌, ◌++◌, ◌==◌, ℕ, true, false, List, [], ◌∷◌, refl, sym, ap, arith, Option, None, inl}
use Rattle.std.specs.Prelude.{is_none, OnOk, OnErr}
use Rattle.std.specs.declared.result.Result.{Result}
use Rattle.std.specs.declared.result.Result.TheVariants.{Ok, Err}
use Rattle.std.proofs.lemmas.Bool.{false≢true}
use Rattle.std.proofs.lemmas.Bool.Decides.{nat_tests}
use Rattle.nt_status.specs.declared.refusal.Refusal.{Refusal}
use Rattle.nt_status.specs.declared.refusal.Refusal.TheVariants.{InvalidHandle}
use Rattle.nt_tables.specs.declared.handles.Opened.{Opened}
use Rattle.nt_tables.specs.Handles.{opened_at}
use Rattle.nt_calls.specs.declared.call.Act.{Act}
use Rattle.nt_calls.specs.declared.call.Call.{Call}
use Rattle.nt_calls.specs.declared.call.Reply.{Reply}
use Rattle.nt_calls.specs.declared.call.Grant.{Grant}
use Rattle.nt_calls.specs.State.{State}
use Rattle.nt_calls.specs.Rights.{is_denied}
use Rattle.nt_calls.specs.Steps.{Called}
use Rattle.nt_machine.proofs.Accepting.{next_causes}
use Rattle.nt_laws.specs.Laws.{call_closes}
use Rattle.nt_laws.proofs.CallKinds.{call_causes_none}
use Rattle.nt_life.specs.Lasting.{Pops, IsStacked}

own : (h : ℕ) → (h == h) ≡ true
own h = grind (arith, nat_tests)

-- a call that closes nothing
pub stacked_by : (call : Call) (result : Result Reply Refusal) (old new : List ℕ) → ((h : ℕ) → call_closes h call ≡ false) → Pops old new → IsStacked call result old new
stacked_by (Call.Act (Act.Close h)) (Ok reply) old new none pops = absurd (false≢true (sym (none h) ∙ own h))
stacked_by call result old new none pops = pops

pub stacked_close : (h : ℕ) (result : Result Reply Refusal) (old new : List ℕ) → OnOk result (new ≡ old ++ h ∷ []) → OnErr result (new ≡ old) → IsStacked (Call.Act (Act.Close h)) result old new
stacked_close h (Ok reply) old new added kept = added
stacked_close h (Err cause) old new added kept = inl kept

-- what names nothing is not closed
pub unopened_close : (X : Type 0) (old : State) (who h : ℕ) (result : Result Reply Refusal) (grants : List Grant) (new : State) → opened_at old.handles h ≡ None → Called old who (Call.Act (Act.Close h)) result grants new → OnOk result X
unopened_close X old who h (Err cause) grants new none called = tt
unopened_close X old who h (Ok reply) grants new none called =
    let causes = call_causes_none old who (is_denied old (Call.Act (Act.Close h))) (Call.Act (Act.Close h)) called.1.0 in
    let first = next_causes (is_none (opened_at old.handles h)) InvalidHandle [] causes in
    absurd (false≢true (sym first.0 ∙ ap (λ (o : Option Opened). is_none o) none))

pub kept_same : (result : Result Reply Refusal) (ns : List ℕ) → OnErr result (ns ≡ ns)
kept_same (Ok reply) ns = tt
kept_same (Err cause) ns = refl
