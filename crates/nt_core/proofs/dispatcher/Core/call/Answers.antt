use Rattle.nt_machine.specs.Dispatcher.{state}
use Rattle.nt_core.proofs.Counting.{called_most, called_few}
use Rattle.nt_core.proofs.Moves.{call_moves, call_waits, only_waits_pend}
use Rattle.nt_core.proofs.dispatcher.Core.call.Goals as goal

pub returns-clause-most : goal.returns-clause-most
returns-clause-most c = called_most (state c.args.self.now) c.args.who c.args.call.now c.call-result.result c.call-result.new.self.grants (state c.call-result.new.self) (rw c.self.view_is at c.call-result.ensures.called)

pub returns-clause-few : goal.returns-clause-few
returns-clause-few c = called_few (state c.args.self.now) c.args.who c.args.call.now c.call-result.result c.call-result.new.self.grants (state c.call-result.new.self) (rw c.self.view_is at c.call-result.ensures.called)

pub returns-clause-moves : goal.returns-clause-moves
returns-clause-moves c = call_moves (state c.args.self.now) c.args.who c.args.call.now c.call-result.result c.call-result.new.self.grants (state c.call-result.new.self) (rw c.self.view_is at c.call-result.ensures.called)

pub returns-clause-moment : goal.returns-clause-moment
returns-clause-moment c = call_waits (state c.args.self.now) c.args.who c.args.call.now c.call-result.result c.call-result.new.self.grants (state c.call-result.new.self) (rw c.self.view_is at c.call-result.ensures.called)

pub returns-clause-waits : goal.returns-clause-waits
returns-clause-waits c = only_waits_pend (state c.args.self.now) c.args.who c.args.call.now c.call-result.result c.call-result.new.self.grants (state c.call-result.new.self) (rw c.self.view_is at c.call-result.ensures.called)
