use Rattle.std.proofs.Common.{ℕ, sym, subst}
use Rattle.nt_calls.specs.declared.call.Call.{Call}
use Rattle.nt_calls.specs.Naming.{wait_named, call_named}
use Rattle.nt_calls.specs.Rights.{wait_denied, is_denied}
use Rattle.nt_calls.specs.State.{State}
use Rattle.nt_machine.specs.Dispatcher.{state}
use Rattle.nt_calls.specs.Steps.{Made}
use Rattle.nt_machine.specs.Accepts.{IsRunning}
use Rattle.nt_machine.proofs.Running.{free_runs}
use Rattle.nt_machine.proofs.machine.Machine.make.Goals as goal

pub returns-in-Wait-clause-made : goal.returns-in-Wait-clause-made
returns-in-Wait-clause-made c =
    let d = c.tell_anew.new.self in
    let new = c.wait.new.self in
    let by = subst (λ (t : ℕ). Made (state d) t (wait_denied d.handles d.objects c.in-Wait.wait) (Call.Wait (wait_named d.handles c.in-Wait.wait)) c.wait.result new.grants (state new)) c.new-thread.ensures c.wait.ensures.made in
    let from = subst (λ (s : State). Made s c.args.who (wait_denied s.handles s.objects c.in-Wait.wait) (Call.Wait (wait_named s.handles c.in-Wait.wait)) c.wait.result new.grants (state new)) c.tell_anew.ensures.state by in
    subst (λ (call : Call). Made (state c.args.self.now) c.args.who (is_denied (state c.args.self.now) call) (call_named c.args.self.now.handles call) c.wait.result new.grants (state new)) (sym c.in-Wait.is) from

pub exit-requires-clause-running : goal.exit-requires-clause-running
exit-requires-clause-running c =
    let d = c.tell_anew.new.self in
    subst (λ (t : ℕ). IsRunning d t) (sym c.new-thread.ensures) (free_runs d c.args.who c.in_default.ensures.free)
