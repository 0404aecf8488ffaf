use Rattle.std.proofs.Common.{subst}
use Rattle.nt_machine.specs.Dispatcher.{Dispatcher, state}
use Rattle.nt_sleepers.specs.Sleepers.{IsWatched}
use Rattle.nt_sleepers.proofs.life.settle_all.Goals as goal

pub returns-clause-in_time : goal.returns-clause-in_time
returns-clause-in_time c =
    subst (λ (d : Dispatcher). IsWatched (state d) c.settle_all.new.alarms c.settle_all.new.watchers) c.core.ensures c.settle_all.ensures.in_time
