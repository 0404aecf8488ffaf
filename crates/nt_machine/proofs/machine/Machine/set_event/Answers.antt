use Rattle.std.proofs.Common.{ℕ, subst}
use Rattle.nt_calls.specs.declared.call.Act.{Act}
use Rattle.nt_calls.specs.declared.call.Call.{Call}
use Rattle.nt_calls.specs.declared.call.Reply.{Reply}
use Rattle.std.specs.Prelude.{Ok, Err}
use Rattle.nt_calls.specs.Naming.{act_named}
use Rattle.nt_calls.specs.Rights.{act_denied}
use Rattle.nt_machine.specs.Accepts.{IsCallMade}
use Rattle.nt_objects.specs.Object.{is_event}
use Rattle.nt_machine.proofs.Replacing.{set_accepted}
use Rattle.nt_machine.proofs.Making.{refused_with, accepted_made, kind_free}
use Rattle.nt_calls.specs.Refusals.{IsJudged, kind_causes}
use Rattle.nt_status.specs.Access.{modify_state}
use Rattle.nt_machine.specs.Dispatcher.{Dispatcher}
use Rattle.nt_machine.proofs.machine.Machine.set_event.Goals as goal

pub returns-in_err-event : goal.returns-in_err-event
returns-in_err-event c t free =
    let old = c.args.self.now in
    let act = Act.SetEvent c.args.handle in
    refused_with old t (act_denied old.handles act) (Call.Act (act_named old.handles act)) c.in_err-event.field-0.0 c.from_residual.result c.from_residual.ensures.1 c.requires.fresh free (subst (λ (x : Dispatcher). IsJudged x.handles c.args.handle modify_state (kind_causes is_event x.objects) (Err c.in_err-event.field-0.0)) c.self.view_is c.in_err-event.ensures)

pub returns : goal.returns
returns c t free =
    let old = c.args.self.now in
    let new = c.raise_event.new.self in
    let act = Act.SetEvent c.args.handle in
    let event = c.in_ok-event.event in
    let judged = (subst (λ (x : Dispatcher). IsJudged x.handles c.args.handle modify_state (kind_causes is_event x.objects) (Ok c.in_ok-event.event)) c.self.view_is c.in_ok-event.ensures) in
    let accepted = set_accepted old new t event c.requires.fresh (kind_free is_event old.objects (act_denied old.handles (Act.SetEvent c.args.handle)) event judged.1) c.raise_event.ensures in
    subst (λ (h : ℕ). IsCallMade old new t (act_denied old.handles act) (Call.Act (Act.SetEvent h)) (Ok Reply.Done)) judged.0
    (accepted_made old new t (act_denied old.handles act) (Call.Act (Act.SetEvent event)) Reply.Done free judged.1 accepted)
