use Rattle.std.proofs.Common.{refl, subst}
use Rattle.nt_calls.specs.declared.call.Call.{Call}
use Rattle.nt_calls.specs.declared.call.WaitCall.{WaitCall}
use Rattle.nt_machine.specs.Dispatcher.{state}
use Rattle.nt_life.specs.Lasting.{WithSpare, KeepsPace, LooksAt}
use Rattle.nt_life.proofs.Once.{call_may_spare}
use Rattle.nt_life.proofs.lasting.Lasting.wait_objects.Goals as goal

pub invariant_of-self : goal.invariant_of-self
invariant_of-self c = (
  c.wait_objects.ensures.lawful,
  call_may_spare (state c.self.inside.core) c.args.who (Call.Wait (WaitCall.Objects c.args.all c.args.mode c.args.handles.now)) c.wait_objects.result c.wait_objects.new.self.grants (state c.wait_objects.new.self) c.self.inside.spare
      c.self.invariant.0.steady.sound.handles.enough (λ h. refl) c.wait_objects.ensures.moves.threads c.wait_objects.ensures.called c.self.invariant.1,
)

pub returns-clause-pace : goal.returns-clause-pace
returns-clause-pace c =
    let made = c.wait_objects.ensures in
    subst (λ (life : WithSpare). KeepsPace (state life.core) c.args.who (Call.Wait (WaitCall.Objects c.args.all c.args.mode c.args.handles.now)) c.wait_objects.result c.wait_objects.new.self.grants (state c.wait_objects.new.self)) c.self.view_is
    (record { most = made.most; few = made.few; moves = made.moves; waits = λ began. refl; moment = made.moment })

pub returns-clause-looks : goal.returns-clause-looks
returns-clause-looks c =
    let made = c.wait_objects.ensures in
    subst (λ (life : WithSpare). LooksAt life.core c.args.who (Call.Wait (WaitCall.Objects c.args.all c.args.mode c.args.handles.now)) c.wait_objects.result c.wait_objects.new.self) c.self.view_is
    (record { local = made.local; untested = made.untested })
