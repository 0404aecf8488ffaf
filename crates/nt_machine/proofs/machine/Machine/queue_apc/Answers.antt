use Rattle.std.proofs.Common.{Option, ◌≡◌, ℕ, None, refl, sym, ◌∙◌, subst, ap}
use Rattle.std.specs.Prelude.{Ok, Err}
use Rattle.nt_apc.specs.Queues.{pushed, Apcs}
use Rattle.nt_apc.specs.declared.apc.Queued.{Queued}
use Rattle.nt_machine.specs.Dispatcher.{Dispatcher, with_queues}
use Rattle.nt_machine.specs.Lawful.{IsMachineSound}
use Rattle.nt_calls.specs.declared.call.Act.{Act}
use Rattle.nt_calls.specs.declared.call.Call.{Call}
use Rattle.nt_calls.specs.declared.call.Reply.{Reply}
use Rattle.nt_calls.specs.Naming.{act_named}
use Rattle.nt_calls.specs.Rights.{act_denied}
use Rattle.nt_machine.specs.Accepts.{IsAlertedAfter, IsCallMade, IsRoused}
use Rattle.nt_machine.proofs.Alerting.{alone_pushed, posted_sound, queued_accepted, roused_alone}
use Rattle.nt_machine.proofs.Making.{refused_with, unmade_with, accepted_made}
use Rattle.nt_calls.specs.Refusals.{IsJudged, apc_causes}
use Rattle.nt_status.specs.Access.{set_context}
use Rattle.nt_machine.specs.contracts.machine.Machine.{the_view}
use Rattle.nt_machine.proofs.Queueing.{queues_in}
use Rattle.nt_machine.proofs.machine.Machine.queue_apc.Goals as goal

pub returns-in_err-target : goal.returns-in_err-target
returns-in_err-target c t free =
    let old = c.args.self.now in
    let act = Act.QueueApc c.args.handle c.args.routine c.args.arg in
    refused_with old t (act_denied old.handles act) (Call.Act (act_named old.handles act)) c.in_err-target.field-0.0 c.from_residual.result c.from_residual.ensures.1 c.requires.fresh free (subst (λ (x : Dispatcher). IsJudged x.handles c.args.handle set_context (apc_causes x.objects) (Err c.in_err-target.field-0.0)) c.self.view_is c.in_err-target.ensures)

pub returns-in_err-push : goal.returns-in_err-push
returns-in_err-push c t free =
    let old = c.args.self.now in
    let new : Dispatcher = record (the_view c.self.inside) { apcs = c.push.new.self } in
    let act = Act.QueueApc c.args.handle c.args.routine c.args.arg in
    let judged = (subst (λ (x : Dispatcher). IsJudged x.handles c.args.handle set_context (apc_causes x.objects) (Ok c.in_ok-target.target)) c.self.view_is c.in_ok-target.ensures) in
    subst (λ (h : ℕ). IsCallMade old new t (act_denied old.handles act) (Call.Act (Act.QueueApc h c.args.routine c.args.arg)) c.from_residual-in_err-push.result) judged.0
    (unmade_with old new t (act_denied old.handles act) (Call.Act (Act.QueueApc c.in_ok-target.target c.args.routine c.args.arg)) c.from_residual-in_err-push.result c.from_residual-in_err-push.ensures.1 c.requires.fresh free judged.1 refl (ap (λ (a : Apcs). record (the_view c.self.inside) { apcs = a }) c.in_err-push.ensures.err ∙ c.self.view_is))

pub rouse-requires : goal.rouse-requires
rouse-requires c =
    let old = c.args.self.now in
    let q : Queued = record { apc = record { routine = c.args.routine; arg = c.args.arg; at = None }; timer = None } in
    record { sound = subst IsMachineSound (sym (queues_in (the_view c.self.inside) old (λ queues. pushed queues c.new-target.result q) c.push.new.self c.self.view_is (c.in_ok-push.ensures.ok ∙ ap (λ (at : Option ℕ). pushed (the_view c.self.inside).apcs.queues c.new-target.result (record { apc = record { routine = c.args.routine; arg = c.args.arg; at = at }; timer = None })) c.new.ensures) c.push.ensures.places)) (posted_sound old c.new-target.result q c.requires.fresh.steady.sound) }

pub returns : goal.returns
returns c t free =
    let old = c.args.self.now in
    let new = c.rouse.new.self in
    let act = Act.QueueApc c.args.handle c.args.routine c.args.arg in
    let q : Queued = record { apc = record { routine = c.args.routine; arg = c.args.arg; at = None }; timer = None } in
    let judged = (subst (λ (x : Dispatcher). IsJudged x.handles c.args.handle set_context (apc_causes x.objects) (Ok c.in_ok-target.target)) c.self.view_is c.in_ok-target.ensures) in
    let target : c.new-target.result ≡ c.in_ok-target.target = c.new-target.ensures ∙ c.get.ensures in
    let mid = with_queues old (pushed old.apcs.queues c.new-target.result q) in
    let roused : IsRoused mid new c.new-target.result = subst (λ (d : Dispatcher). IsRoused d new c.new-target.result) (queues_in (the_view c.self.inside) old (λ queues. pushed queues c.new-target.result q) c.push.new.self c.self.view_is (c.in_ok-push.ensures.ok ∙ ap (λ (at : Option ℕ). pushed (the_view c.self.inside).apcs.queues c.new-target.result (record { apc = record { routine = c.args.routine; arg = c.args.arg; at = at }; timer = None })) c.new.ensures) c.push.ensures.places) c.rouse.ensures.roused in
    let alerted : IsAlertedAfter mid new = roused_alone mid new c.new-target.result roused (alone_pushed old c.new-target.result q c.requires.fresh.steady.settled.alerted) c.requires.fresh.steady.unmarked in
    let accepted = queued_accepted old new t c.in_ok-target.target c.args.routine c.args.arg c.requires.fresh c.rouse.ensures.sound
    (subst (λ (k : ℕ). IsAlertedAfter (with_queues old (pushed old.apcs.queues k q)) new) target alerted) in
    subst (λ (h : ℕ). IsCallMade old new t (act_denied old.handles act) (Call.Act (Act.QueueApc h c.args.routine c.args.arg)) (Ok Reply.Done)) judged.0
    (accepted_made old new t (act_denied old.handles act) (Call.Act (Act.QueueApc c.in_ok-target.target c.args.routine c.args.arg)) Reply.Done free judged.1 accepted)
