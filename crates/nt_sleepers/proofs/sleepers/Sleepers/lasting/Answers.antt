use Rattle.std.proofs.Common.{ap}
use Rattle.nt_calls.specs.State.{State}
use Rattle.nt_machine.specs.Dispatcher.{state}
use Rattle.nt_sleepers.proofs.Kept.{kept_first}
use Rattle.nt_sleepers.proofs.sleepers.Sleepers.lasting.Goals as goal

pub invariant_of-result : goal.invariant_of-result
invariant_of-result c =
    (kept_first (state c.in_ok-life.life.core) c.args.threads c.in_ok-alarms.alarms c.in_ok-watchers.watchers c.in_ok-life.ensures.ok.1 (ap (λ (s : State). s.threads) c.in_ok-life.ensures.ok.2) c.in_ok-alarms.ensures c.in_ok-watchers.ensures, tt)
