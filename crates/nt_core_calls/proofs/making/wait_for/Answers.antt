use Rattle.nt_calls.specs.declared.call.Call.{Call}
use Rattle.nt_calls.specs.declared.call.WaitCall.{WaitCall}
use Rattle.nt_machine.specs.Dispatcher.{state}
use Rattle.nt_answers.proofs.Telling.{call_told}
use Rattle.nt_core_calls.proofs.making.wait_for.Goals as goal

pub began_told-requires : goal.began_told-requires
began_told-requires c =
    call_told (state c.args.core.now) (state c.wait_objects.new.self) c.args.who (Call.Wait (WaitCall.Objects c.args.all c.args.mode c.args.handles.now)) c.wait_objects.result c.wait_objects.new.self.grants c.wait_objects.ensures.called
