use Rattle.nt_machine.specs.Dispatcher.{state}
use Rattle.nt_core.proofs.Counting.{ticked_few}
use Rattle.nt_core.proofs.Moves.{tick_moves, tick_moment, tick_stays}
use Rattle.nt_core.proofs.dispatcher.Core.tick.Goals as goal

pub returns-clause-few : goal.returns-clause-few
returns-clause-few c = ticked_few (state c.args.self.now) c.args.m c.tick-result.result c.tick-result.new.machine.grants (state c.tick-result.new.machine) (rw c.self.view_is at c.tick-result.ensures.ticked)

pub returns-clause-moves : goal.returns-clause-moves
returns-clause-moves c by = tick_moves (state c.args.self.now) by c.args.m c.tick-result.result c.tick-result.new.machine.grants (state c.tick-result.new.machine) (rw c.self.view_is at c.tick-result.ensures.ticked)

pub returns-clause-moment : goal.returns-clause-moment
returns-clause-moment c = tick_moment (state c.args.self.now) c.args.m c.tick-result.result c.tick-result.new.machine.grants (state c.tick-result.new.machine) (rw c.self.view_is at c.tick-result.ensures.ticked)

pub returns-clause-waits : goal.returns-clause-waits
returns-clause-waits c = tick_stays (state c.args.self.now) c.args.m c.tick-result.result c.tick-result.new.machine.grants (state c.tick-result.new.machine) (rw c.self.view_is at c.tick-result.ensures.ticked)
