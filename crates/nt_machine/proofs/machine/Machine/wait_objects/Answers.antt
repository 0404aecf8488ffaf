use Rattle.std.proofs.Common.{List, Ok, sym, subst}
use Rattle.nt_calls.specs.declared.call.Grant.{Grant}
use Rattle.nt_calls.specs.declared.call.Call.{Call}
use Rattle.nt_calls.specs.declared.call.WaitCall.{WaitCall}
use Rattle.nt_calls.specs.Naming.{call_named}
use Rattle.nt_calls.specs.Rights.{is_denied}
use Rattle.nt_calls.specs.State.{State}
use Rattle.nt_machine.specs.Dispatcher.{state}
use Rattle.nt_calls.specs.Living.{LivesWhileKept}
use Rattle.nt_calls.specs.Steps.{Made}
use Rattle.nt_machine.proofs.machine.Machine.wait_objects.Goals as goal

pub returns-in_err-reply-clause-living : goal.returns-in_err-reply-clause-living
returns-in_err-reply-clause-living c = subst (λ (s : State). LivesWhileKept s) (sym c.in_err-reply.ensures.made.2) c.requires.living

pub returns-clause-called : goal.returns-clause-called
returns-clause-called c =
    let old = c.args.self.now in
    let left = state c.make_wait.new.self in
    let made = subst (λ (gs : List Grant). Made (state old) c.args.who (is_denied (state old) (Call.Wait (WaitCall.Objects c.args.all c.args.mode c.args.these.now))) (call_named old.handles (Call.Wait (WaitCall.Objects c.args.all c.args.mode c.args.these.now))) (Ok c.in_ok-reply.reply) gs left) (sym c.end_forgotten.ensures.grants) c.in_ok-reply.ensures.made in
    (left, made, c.end_forgotten.ensures.ends)
