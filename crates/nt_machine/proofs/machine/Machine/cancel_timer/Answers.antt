use Rattle.std.proofs.Common.{ℕ, ap, ◌∙◌, set, subst, None}
use Rattle.std.specs.Prelude.{Ok, Err}
use Rattle.nt_objects.specs.declared.object.Object.{Object}
use Rattle.nt_objects.specs.Object.{is_timer, mutex_owner, armed_with, due_of}
use Rattle.nt_calls.specs.State.{object_at}
use Rattle.nt_machine.specs.Dispatcher.{Dispatcher}
use Rattle.nt_calls.specs.declared.call.Act.{Act}
use Rattle.nt_calls.specs.declared.call.Call.{Call}
use Rattle.nt_calls.specs.declared.call.Reply.{Reply}
use Rattle.nt_calls.specs.Naming.{act_named}
use Rattle.nt_calls.specs.Rights.{act_denied}
use Rattle.nt_machine.specs.Accepts.{IsCallMade}
use Rattle.nt_machine.proofs.Owned.{owner_armed}
use Rattle.nt_machine.proofs.Timing.{cancel_accepted}
use Rattle.nt_machine.proofs.Making.{refused_with, accepted_made, kind_free}
use Rattle.nt_calls.specs.Refusals.{IsJudged, kind_causes}
use Rattle.nt_status.specs.Access.{modify_state}
use Rattle.nt_machine.proofs.machine.Machine.cancel_timer.Goals as goal

pub returns-in_err-timer : goal.returns-in_err-timer
returns-in_err-timer c t free =
    let old = c.args.self.now in
    let act = Act.CancelTimer c.args.handle in
    refused_with old t (act_denied old.handles act) (Call.Act (act_named old.handles act)) c.in_err-timer.field-0.0 c.from_residual.result c.from_residual.ensures.1 c.requires.fresh free (subst (λ (x : Dispatcher). IsJudged x.handles c.args.handle modify_state (kind_causes is_timer x.objects) (Err c.in_err-timer.field-0.0)) c.self.view_is c.in_err-timer.ensures)

pub put_timer-requires-clause-owner : goal.put_timer-requires-clause-owner
put_timer-requires-clause-owner c = ap mutex_owner c.cancel.ensures ∙ (owner_armed None c.object-object.result ∙ ap mutex_owner c.object-object.ensures)

pub returns : goal.returns
returns c t free =
    let old = c.args.self.now in
    let mid = c.withdraw.new.self in
    let new = c.put_timer.new.self in
    let act = Act.CancelTimer c.args.handle in
    let timer = c.in_ok-timer.timer in
    let judged = (subst (λ (x : Dispatcher). IsJudged x.handles c.args.handle modify_state (kind_causes is_timer x.objects) (Ok c.in_ok-timer.timer)) c.self.view_is c.in_ok-timer.ensures) in
    let accepted = cancel_accepted old new t timer c.requires.fresh (kind_free is_timer old.objects (act_denied old.handles act) timer judged.1)
    (c.put_timer.ensures
    ∙ (ap (λ (o : Object). record mid { objects = set mid.objects timer o; alarms = set mid.alarms timer (due_of o) }) (c.cancel.ensures ∙ ap (armed_with None) c.object-object.ensures)
    ∙ ap (λ (d : Dispatcher). record d { objects = set d.objects timer (armed_with None (object_at d.objects timer)); alarms = set d.alarms timer (due_of (armed_with None (object_at d.objects timer))) }) c.withdraw.ensures)) in
    subst (λ (h : ℕ). IsCallMade old new t (act_denied old.handles act) (Call.Act (Act.CancelTimer h)) (Ok Reply.Done)) judged.0
    (accepted_made old new t (act_denied old.handles act) (Call.Act (Act.CancelTimer timer)) Reply.Done free judged.1 accepted)
