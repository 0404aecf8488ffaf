use Rattle.std.proofs.Common.{◌≡◌, ℕ, refl, sym, ◌∙◌, subst, w32, rules}
use Rattle.std.specs.Prelude.{Ok, Err}
use Rattle.nt_calls.specs.declared.call.Act.{Act}
use Rattle.nt_calls.specs.declared.call.Call.{Call}
use Rattle.nt_calls.specs.declared.call.Reply.{Reply}
use Rattle.nt_calls.specs.Naming.{act_named}
use Rattle.nt_calls.specs.Rights.{act_denied}
use Rattle.nt_machine.specs.Accepts.{IsCallMade}
use Rattle.std.specs.Prelude.{ℤ}
use mir.Val.{to_z, of_z}
use Rattle.std.proofs.lemmas.Int.{to_z-of_z}
use Rattle.nt_objects.specs.Object.{released, count_of}
use Rattle.nt_calls.specs.State.{object_at}
use Rattle.nt_machine.specs.Accepts.{Accepts}
use Rattle.nt_machine.proofs.Replacing.{replaced_accepted}
use Rattle.nt_machine.proofs.Exchanging.{may_count_more}
use Rattle.nt_machine.proofs.Making.{refused_with, accepted_made, release_free}
use Rattle.nt_calls.specs.Refusals.{IsJudged, release_causes}
use Rattle.nt_status.specs.Access.{modify_state}
use Rattle.nt_machine.specs.Dispatcher.{Dispatcher}
use Rattle.nt_machine.proofs.machine.Machine.release_semaphore.Goals as goal

pub returns-in_err-semaphore : goal.returns-in_err-semaphore
returns-in_err-semaphore c t free =
    let old = c.args.self.now in
    let counted : to_z w32 (of_z w32 c.args.count) ≡ c.args.count = to_z-of_z w32 c.args.count c.ranges.count in
    let act = Act.ReleaseSemaphore c.args.handle c.args.count in
    refused_with old t (act_denied old.handles act) (Call.Act (act_named old.handles act)) c.in_err-semaphore.field-0.0 c.from_residual.result c.from_residual.ensures.1 c.requires.fresh free (subst (λ (x : Dispatcher). IsJudged x.handles c.args.handle modify_state (λ denied h. release_causes x.objects denied h c.args.count) (Err c.in_err-semaphore.field-0.0)) c.self.view_is (rw counted at c.in_err-semaphore.ensures))

pub returns : goal.returns
returns c t free =
    let old = c.args.self.now in
    let new = c.raise_count.new.self in
    let counted : to_z w32 (of_z w32 c.args.count) ≡ c.args.count = to_z-of_z w32 c.args.count c.ranges.count in
    let act = Act.ReleaseSemaphore c.args.handle c.args.count in
    let semaphore = c.in_ok-semaphore.semaphore in
    let judged = (subst (λ (x : Dispatcher). IsJudged x.handles c.args.handle modify_state (λ denied h. release_causes x.objects denied h c.args.count) (Ok c.in_ok-semaphore.semaphore)) c.self.view_is (rw counted at c.in_ok-semaphore.ensures)) in
    let o = object_at old.objects semaphore in
    let may = release_free old.objects (act_denied old.handles act) semaphore c.args.count judged.1 in
    let more = may_count_more old semaphore c.args.count c.requires.fresh may.0 may.1 may.2 in
    let told = replaced_accepted old new t semaphore (released c.args.count o) (Call.Act (Act.ReleaseSemaphore semaphore c.args.count)) (Reply.Previous (count_of o)) c.requires.fresh more refl refl refl (rw counted at c.raise_count.ensures.served) in
    let previous : c.raise_count.result ≡ count_of o = c.raise_count.ensures.previous in
    let reading : to_z w32 (of_z w32 c.raise_count.result) ≡ c.raise_count.result = (let k = c.raise_count.type_inv in to_z-of_z w32 c.raise_count.result (search (rules, k))) in
    let accepted = subst (λ (z : ℤ). Accepts old new t (Call.Act (Act.ReleaseSemaphore semaphore c.args.count)) (Reply.Previous z)) (sym (reading ∙ previous)) told in
    subst (λ (h : ℕ). IsCallMade old new t (act_denied old.handles act) (Call.Act (Act.ReleaseSemaphore h c.args.count)) (Ok (Reply.Previous (to_z w32 (of_z w32 c.raise_count.result))))) judged.0
    (accepted_made old new t (act_denied old.handles act) (Call.Act (Act.ReleaseSemaphore semaphore c.args.count)) (Reply.Previous (to_z w32 (of_z w32 c.raise_count.result))) free judged.1 accepted)
