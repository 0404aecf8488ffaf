use Rattle.std.proofs.Common.{sym, subst, refl}
use Rattle.std.specs.Prelude.{Option, Some}
use Rattle.nt_calls.specs.declared.call.Call.{Call}
use Rattle.nt_calls.specs.declared.call.WaitCall.{WaitCall}
use Rattle.nt_sleepers.specs.Sleepers.{Sleeping}
use Rattle.nt_c.specs.Asks.{Asked}
use Rattle.nt_c.proofs.Renewing.{wait_made}
use Rattle.nt_c.proofs.handle.Nt.wait.Goals as goal

pub returns : goal.returns
returns c = record {
  asked =
      subst (λ (x : Option Sleeping). Asked x c.args.who (Call.Wait (WaitCall.Objects c.args.all c.args.mode c.args.these.now)) c.wait_objects.result (Some c.wait_objects.new.self)) (sym c.held_mut.ensures.value) (
        c.wait_objects.new.self,
        refl,
        wait_made c.held_mut.result.now c.wait_objects.new.self c.args.who (WaitCall.Objects c.args.all c.args.mode c.args.these.now) c.wait_objects.result
            c.wait_objects.ensures.called c.wait_objects.ensures.lawful c.wait_objects.ensures.looks c.wait_objects.ensures.woke c.wait_objects.ensures.nobody,
      );
}
