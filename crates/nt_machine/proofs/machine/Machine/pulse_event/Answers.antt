use Rattle.std.proofs.Common.{ℕ, sym, subst, ◌≡◌, true, false}
use Rattle.nt_calls.specs.declared.call.Act.{Act}
use Rattle.nt_calls.specs.declared.call.Call.{Call}
use Rattle.nt_calls.specs.declared.call.Reply.{Reply}
use Rattle.std.specs.Prelude.{Ok, Err}
use Rattle.nt_calls.specs.Naming.{act_named}
use Rattle.nt_calls.specs.Rights.{act_denied}
use Rattle.nt_machine.specs.Accepts.{IsCallMade}
use Rattle.nt_objects.specs.Object.{is_event, with_set}
use Rattle.nt_machine.specs.Dispatcher.{Dispatcher}
use Rattle.nt_machine.specs.Accepts.{Accepts}
use Rattle.nt_machine.proofs.Changing.{known_event}
use Rattle.nt_machine.proofs.Replacing.{pulse_accepted, still_event}
use Rattle.nt_machine.proofs.Making.{refused_with, accepted_made, kind_free}
use Rattle.nt_calls.specs.Refusals.{IsJudged, kind_causes}
use Rattle.nt_status.specs.Access.{modify_state}
use Rattle.nt_calls.specs.State.{object_at}
use Rattle.nt_machine.specs.contracts.machine.Machine.{the_view}
use Rattle.nt_machine.proofs.Exchanging.{exchanged_whole}
use Rattle.nt_machine.proofs.machine.Machine.pulse_event.Goals as goal

pub returns-in_err-event : goal.returns-in_err-event
returns-in_err-event c t free =
    let old = c.args.self.now in
    let act = Act.PulseEvent c.args.handle in
    refused_with old t (act_denied old.handles act) (Call.Act (act_named old.handles act)) c.in_err-event.field-0.0 c.from_residual.result c.from_residual.ensures.1 c.requires.fresh free (subst (λ (x : Dispatcher). IsJudged x.handles c.args.handle modify_state (kind_causes is_event x.objects) (Err c.in_err-event.field-0.0)) c.self.view_is c.in_err-event.ensures)

pub reset-requires-clause-known : goal.reset-requires-clause-known
reset-requires-clause-known c =
    let old = c.args.self.now in
    let event = c.in_ok-event.event in
    let kind = kind_free is_event old.objects (act_denied old.handles (Act.PulseEvent c.args.handle)) event (subst (λ (x : Dispatcher). IsJudged x.handles c.args.handle modify_state (kind_causes is_event x.objects) (Ok c.in_ok-event.event)) c.self.view_is c.in_ok-event.ensures).1 in
    known_event c.self-2.inside.objects.items event (subst (λ (x : Dispatcher). is_event (object_at x.objects event) ≡ true) (sym c.self-2.view_is) (still_event old c.raise_event.new.self event kind c.raise_event.ensures))

pub reset-requires-clause-kind : goal.reset-requires-clause-kind
reset-requires-clause-kind c =
    let old = c.args.self.now in
    let event = c.in_ok-event.event in
    subst (λ (x : Dispatcher). is_event (object_at x.objects event) ≡ true) (sym c.self-2.view_is) (still_event old c.raise_event.new.self event (kind_free is_event old.objects (act_denied old.handles (Act.PulseEvent c.args.handle)) event (subst (λ (x : Dispatcher). IsJudged x.handles c.args.handle modify_state (kind_causes is_event x.objects) (Ok c.in_ok-event.event)) c.self.view_is c.in_ok-event.ensures).1) c.raise_event.ensures)

pub returns : goal.returns
returns c t free =
    let old = c.args.self.now in
    let new : Dispatcher = record (the_view c.self-2.inside) { objects = c.reset.new.self.items; owned = c.reset.new.self.owned } in
    let act = Act.PulseEvent c.args.handle in
    let event = c.in_ok-event.event in
    let judged = (subst (λ (x : Dispatcher). IsJudged x.handles c.args.handle modify_state (kind_causes is_event x.objects) (Ok c.in_ok-event.event)) c.self.view_is c.in_ok-event.ensures) in
    let accepted = subst (λ (d : Dispatcher). Accepts old d t (Call.Act (Act.PulseEvent event)) Reply.Done) (sym (exchanged_whole (the_view c.self-2.inside) c.raise_event.new.self event (with_set false) c.reset.new.self.items c.reset.new.self.owned c.self-2.view_is c.reset.ensures.items c.reset.ensures.owned))
    (pulse_accepted old c.raise_event.new.self t event c.requires.fresh (kind_free is_event old.objects (act_denied old.handles (Act.PulseEvent c.args.handle)) event judged.1) c.raise_event.ensures) in
    subst (λ (h : ℕ). IsCallMade old new t (act_denied old.handles act) (Call.Act (Act.PulseEvent h)) (Ok Reply.Done)) judged.0
    (accepted_made old new t (act_denied old.handles act) (Call.Act (Act.PulseEvent event)) Reply.Done free judged.1 accepted)
