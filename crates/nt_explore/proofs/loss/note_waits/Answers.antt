use Rattle.nt_machine.specs.Dispatcher.{state}
use Rattle.nt_explore.proofs.Hung.{waiting_known}
use Rattle.nt_explore.proofs.Losing.{row_none, row_more}
use Rattle.nt_explore.proofs.loss.note_waits.Goals as goal

pub loop-thread-init : goal.loop-thread-init
loop-thread-init c = row_none c.args.waits.now.items (state c.args.position.now.core)

pub loop-thread-preserved : goal.loop-thread-preserved
loop-thread-preserved c = row_more c.args.waits.now.items c.loop-thread.waits.items c.push.new.self.items c.loop-thread.thread (state c.args.position.now.core) c.is_waiting.result c.in_ok-push.ensures.items c.is_waiting.ensures c.loop-thread.invariant

pub returns-in_err-push-clause-known : goal.returns-in_err-push-clause-known
returns-in_err-push-clause-known c = waiting_known c.args.position.now.core c.stands.ensures

pub returns-clause-known : goal.returns-clause-known
returns-clause-known c = waiting_known c.args.position.now.core c.stands.ensures
