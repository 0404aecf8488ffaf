use Rattle.nt_machine.specs.Dispatcher.{state}
use Rattle.nt_orders.specs.Reading.{lanes_of}
use Rattle.nt_orders.proofs.Telling.{is_cut_off, is_searched}
use Rattle.nt_orders.proofs.lanes.Script.search.Goals as goal

pub returns-clause-searched : goal.returns-clause-searched
returns-clause-searched g c =
    let begun = c.begin.ensures in
    is_searched g.P.Sink.seen c.args.most (lanes_of c.args.self.now) (state c.args.self.now.session.core) c.args.progress.now c.begin.new.self c.explore.new.watcher
    c.explore.result begun.sink begun.depth begun.deeper (rw c.core.ensures at c.explore.ensures.searched)

pub returns-clause-cut_off : goal.returns-clause-cut_off
returns-clause-cut_off g c =
    let begun = c.begin.ensures in
    is_cut_off g.P.Sink.seen c.args.most (lanes_of c.args.self.now) (state c.args.self.now.session.core) c.args.progress.now c.begin.new.self c.explore.new.watcher
    c.explore.result begun.sink begun.depth begun.deeper (rw c.core.ensures at c.explore.ensures.refused)
