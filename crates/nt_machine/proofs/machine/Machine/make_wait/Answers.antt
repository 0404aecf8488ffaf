use Rattle.std.proofs.Common.{ℕ, subst}
use Rattle.std.specs.Prelude.{OnOk}
use Rattle.nt_calls.specs.declared.call.Call.{Call}
use Rattle.nt_calls.specs.declared.call.WaitCall.{WaitCall}
use Rattle.nt_calls.specs.Naming.{wait_named}
use Rattle.nt_calls.specs.Refusals.{IsRefusal}
use Rattle.nt_calls.specs.Rights.{wait_denied}
use Rattle.nt_calls.specs.State.{State}
use Rattle.nt_machine.specs.Dispatcher.{state}
use Rattle.nt_calls.specs.Steps.{Made}
use Rattle.nt_machine.specs.Accepts.{IsLocal}
use Rattle.nt_machine.proofs.Judging.{is_refusal}
use Rattle.nt_machine.proofs.machine.Machine.make_wait.Goals as goal

pub returns : goal.returns
returns c =
    let d = c.tell_anew.new.self in
    let new = c.wait_for_objects.new.self in
    let wait = WaitCall.Objects c.args.all c.args.mode c.args.these.now in
    let made = c.wait_for_objects.ensures.made in
    let local = c.wait_for_objects.ensures.local in
    let by = subst (λ (t : ℕ). Made (state d) t (wait_denied d.handles d.objects wait) (Call.Wait (wait_named d.handles wait)) c.wait_for_objects.result new.grants (state new)) c.new.ensures made in
    let local_by = subst (λ (t : ℕ). OnOk c.wait_for_objects.result (IsLocal (state d) t (Call.Wait (wait_named d.handles wait)) new.table.looked new.grants)) c.new.ensures local in
    record {
      made = subst (λ (s : State). Made s c.args.who (wait_denied s.handles s.objects wait) (Call.Wait (wait_named s.handles wait)) c.wait_for_objects.result new.grants (state new)) c.tell_anew.ensures.state by;
      steady = c.wait_for_objects.ensures.steady;
      local = subst (λ (s : State). OnOk c.wait_for_objects.result (IsLocal s c.args.who (Call.Wait (wait_named s.handles wait)) new.table.looked new.grants)) c.tell_anew.ensures.state local_by;
      untested = c.wait_for_objects.ensures.untested;
    }

pub returns-in-Some : goal.returns-in-Some
returns-in-Some c =
    let d = c.tell_anew.new.self in
    let wait = WaitCall.Objects c.args.all c.args.mode c.args.these.now in
    let answers = subst (λ (s : State). IsRefusal s c.args.who (wait_denied s.handles s.objects wait) (Call.Wait (wait_named s.handles wait)) c.in-Some.refusal) c.tell_anew.ensures.state
    (is_refusal (state d) c.args.who (wait_denied d.handles d.objects wait) (Call.Wait (wait_named d.handles wait)) c.in-Some.refusal (c.in-Some.ensures.refused (wait_denied d.handles d.objects wait) (Call.Wait (wait_named d.handles wait)))) in
    record {
      made = (answers, c.tell_anew.ensures.fresh.no_grants, c.tell_anew.ensures.state);
      steady = c.tell_anew.ensures.fresh.steady;
      local = tt;
      untested = c.tell_anew.ensures.fresh.untested;
    }
