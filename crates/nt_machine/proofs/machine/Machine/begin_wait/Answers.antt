use Rattle.std.proofs.Common.{◌≡◌, false, refl, sym, ap, ◌∙◌, subst, ◌&&◌}
use Rattle.nt_apc.specs.Queues.{has_apc}
use Rattle.nt_waits.specs.declared.wait.Wait.{Wait}
use Rattle.nt_calls.specs.declared.call.Reply.{Reply}
use Rattle.nt_calls.specs.State.{State, deadline_after, pending_too}
use Rattle.nt_machine.specs.Dispatcher.{Dispatcher, state}
use Rattle.nt_calls.specs.Serving.{fits, wait_on}
use Rattle.nt_machine.proofs.Beginning.{began_pending, begun_pends}
use Rattle.nt_machine.proofs.machine.Machine.begin_wait.Goals as goal

pub returns-clause-begun : goal.returns-clause-begun
returns-clause-begun c =
    let old = c.args.self.now in
    let d = c.end_at_once.new.self in
    let w : Wait = record { objects = c.args.objects.now; all = c.args.all; alertable = c.args.mode.alertable; deadline = deadline_after old.now c.args.mode.ms } in
    let same : d ≡ old = c.in_default.ensures.none in
    let pends = c.in_default.ensures.pends in
    let becomes : state c.pend.new.self ≡ pending_too (state old) c.args.thread w =
    c.in_ok-pend.ensures.pended.state ∙ (λ i. pending_too (state (same i)) c.args.thread (record { objects = c.args.objects.now; all = c.args.all; alertable = c.args.mode.alertable; deadline = deadline_after (same i).now c.args.mode.ms })) in
    ap (λ (s : State). (Reply.Pended, s)) becomes ∙ sym (begun_pends (state old) c.args.thread w c.args.mode.ms pends.0 pends.1 pends.2)

pub returns-clause-steady : goal.returns-clause-steady
returns-clause-steady c =
    let d = c.end_at_once.new.self in
    let w : Wait = record { objects = c.args.objects.now; all = c.args.all; alertable = c.args.mode.alertable; deadline = deadline_after d.now c.args.mode.ms } in
    let same = c.in_default.ensures.none in
    let pends = c.in_default.ensures.pends in
    let unfit : fits d.objects c.args.thread w ≡ false = subst (λ (x : Dispatcher). fits x.objects c.args.thread (wait_on c.args.objects.now c.args.all) ≡ false) (sym same) pends.0 in
    let quiet : (w.alertable && has_apc d.apcs.queues c.args.thread) ≡ false = subst (λ (x : Dispatcher). (c.args.mode.alertable && has_apc x.apcs.queues c.args.thread) ≡ false) (sym same) pends.1 in
    began_pending d c.pend.new.self c.args.thread c.args.mode.ms w c.end_at_once.ensures.steady unfit quiet pends.2 refl c.in_ok-pend.ensures.pended.state c.pend.ensures.pended.sound c.pend.ensures.pended.marked
