use Rattle.std.proofs.Common.{◌≡◌, ℕ, subst, w32, w64}
use Rattle.std.specs.Prelude.{Ok, Err}
use mir.Val.{to_z, of_z}
use Rattle.std.proofs.lemmas.Int.{to_z-of_z}
use Rattle.nt_calls.specs.declared.call.Act.{Act}
use Rattle.nt_calls.specs.declared.call.Call.{Call}
use Rattle.nt_calls.specs.declared.call.Reply.{Reply}
use Rattle.nt_calls.specs.Naming.{act_named}
use Rattle.nt_calls.specs.Rights.{act_denied}
use Rattle.nt_machine.specs.Accepts.{IsCallMade}
use Rattle.nt_machine.proofs.Making.{refused_with, unmade_with, accepted_made}
use Rattle.nt_machine.proofs.Running.{free_runs}
use Rattle.nt_calls.specs.Refusals.{IsJudged, arm_causes}
use Rattle.nt_status.specs.Access.{modify_state}
use Rattle.nt_machine.specs.Dispatcher.{Dispatcher}
use Rattle.nt_machine.proofs.machine.Machine.set_timer.Goals as goal

pub returns-in_err-timer : goal.returns-in_err-timer
returns-in_err-timer c =
    let old = c.args.self.now in
    let act = Act.SetTimer c.args.handle c.args.due c.args.period c.args.routine in
    let period : to_z w32 (of_z w32 c.args.period) ≡ c.args.period = to_z-of_z w32 c.args.period c.ranges.period in
    refused_with old c.args.thread (act_denied old.handles act) (Call.Act (act_named old.handles act)) c.in_err-timer.field-0.0 c.from_residual.result c.from_residual.ensures.1 c.requires.fresh c.requires.free (subst (λ (x : Dispatcher). IsJudged x.handles c.args.handle modify_state (λ denied h. arm_causes x.objects denied h c.args.period) (Err c.in_err-timer.field-0.0)) c.self.view_is (rw period at c.in_err-timer.ensures))

pub returns-in_err-start : goal.returns-in_err-start
returns-in_err-start c =
    let old = c.args.self.now in
    let new = c.start.new.self in
    let act = Act.SetTimer c.args.handle c.args.due c.args.period c.args.routine in
    let due : to_z w64 (of_z w64 c.args.due) ≡ c.args.due = to_z-of_z w64 c.args.due c.ranges.due in
    let period : to_z w32 (of_z w32 c.args.period) ≡ c.args.period = to_z-of_z w32 c.args.period c.ranges.period in
    let judged = (subst (λ (x : Dispatcher). IsJudged x.handles c.args.handle modify_state (λ denied h. arm_causes x.objects denied h c.args.period) (Ok c.in_ok-timer.timer)) c.self.view_is (rw period at c.in_ok-timer.ensures)) in
    subst (λ (h : ℕ). IsCallMade old new c.args.thread (act_denied old.handles act) (Call.Act (Act.SetTimer h c.args.due c.args.period c.args.routine)) c.from_residual-in_err-start.result) judged.0
    (unmade_with old new c.args.thread (act_denied old.handles act) (Call.Act (Act.SetTimer c.in_ok-timer.timer c.args.due c.args.period c.args.routine)) c.from_residual-in_err-start.result c.from_residual-in_err-start.ensures.1 c.requires.fresh c.requires.free judged.1 c.in_err-start.ensures.needs c.in_err-start.ensures.err)

pub returns : goal.returns
returns c =
    let old = c.args.self.now in
    let new = c.start.new.self in
    let act = Act.SetTimer c.args.handle c.args.due c.args.period c.args.routine in
    let due : to_z w64 (of_z w64 c.args.due) ≡ c.args.due = to_z-of_z w64 c.args.due c.ranges.due in
    let period : to_z w32 (of_z w32 c.args.period) ≡ c.args.period = to_z-of_z w32 c.args.period c.ranges.period in
    let judged = (subst (λ (x : Dispatcher). IsJudged x.handles c.args.handle modify_state (λ denied h. arm_causes x.objects denied h c.args.period) (Ok c.in_ok-timer.timer)) c.self.view_is (rw period at c.in_ok-timer.ensures)) in
    let accepted = (rw (due, period) at c.in_ok-start.ensures.ok) in
    subst (λ (h : ℕ). IsCallMade old new c.args.thread (act_denied old.handles act) (Call.Act (Act.SetTimer h c.args.due c.args.period c.args.routine)) (Ok Reply.Done)) judged.0
    (accepted_made old new c.args.thread (act_denied old.handles act) (Call.Act (Act.SetTimer c.in_ok-timer.timer c.args.due c.args.period c.args.routine)) Reply.Done c.requires.free judged.1 accepted)

pub start-requires-clause-running : goal.start-requires-clause-running
start-requires-clause-running c = free_runs c.args.self.now c.args.thread c.requires.free
