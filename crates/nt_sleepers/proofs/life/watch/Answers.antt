use Rattle.std.proofs.Common.{subst}
use Rattle.std.specs.FinMap as map
use Rattle.nt_machine.specs.Dispatcher.{Dispatcher, state}
use Rattle.nt_sleepers.specs.Sleepers.{SleepsTo, time_out_of}
use Rattle.nt_sleepers.proofs.life.watch.Goals as goal

pub returns-clause-sleeps : goal.returns-clause-sleeps
returns-clause-sleeps c =
    subst (λ (d : Dispatcher). SleepsTo (state d) (time_out_of (map.get (state d).waits c.args.who)) c.watch.result) c.core.ensures c.watch.ensures.sleeps
