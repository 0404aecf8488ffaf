use Rattle.nt_calls.specs.declared.call.Call.{Call}
use Rattle.nt_calls.specs.declared.call.WaitCall.{WaitCall}
use Rattle.nt_machine.specs.Dispatcher.{state}
use Rattle.nt_core.proofs.Counting.{called_most, called_few}
use Rattle.nt_core.proofs.Moves.{call_moves, call_waits}
use Rattle.nt_core.proofs.dispatcher.Core.wait_objects.Goals as goal

pub returns-clause-most : goal.returns-clause-most
returns-clause-most c = called_most (state c.args.self.now) c.args.who (Call.Wait (WaitCall.Objects c.args.all c.args.mode c.args.handles.now)) c.wait_objects-result.result c.wait_objects-result.new.self.grants (state c.wait_objects-result.new.self) (rw c.self.view_is at c.wait_objects-result.ensures.called)

pub returns-clause-few : goal.returns-clause-few
returns-clause-few c = called_few (state c.args.self.now) c.args.who (Call.Wait (WaitCall.Objects c.args.all c.args.mode c.args.handles.now)) c.wait_objects-result.result c.wait_objects-result.new.self.grants (state c.wait_objects-result.new.self) (rw c.self.view_is at c.wait_objects-result.ensures.called)

pub returns-clause-moves : goal.returns-clause-moves
returns-clause-moves c = call_moves (state c.args.self.now) c.args.who (Call.Wait (WaitCall.Objects c.args.all c.args.mode c.args.handles.now)) c.wait_objects-result.result c.wait_objects-result.new.self.grants (state c.wait_objects-result.new.self) (rw c.self.view_is at c.wait_objects-result.ensures.called)

pub returns-clause-moment : goal.returns-clause-moment
returns-clause-moment c = call_waits (state c.args.self.now) c.args.who (Call.Wait (WaitCall.Objects c.args.all c.args.mode c.args.handles.now)) c.wait_objects-result.result c.wait_objects-result.new.self.grants (state c.wait_objects-result.new.self) (rw c.self.view_is at c.wait_objects-result.ensures.called)
