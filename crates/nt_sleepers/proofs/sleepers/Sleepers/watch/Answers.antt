use Rattle.std.proofs.Common.{refl}
use Rattle.nt_sleepers.proofs.Kept.{watches_as}
use Rattle.nt_sleepers.proofs.sleepers.Sleepers.watch.Goals as goal

pub returns : goal.returns
returns c =
    watches_as _ _ _ _ _ c.self.view_is
    (record { core = refl; spare = refl; called = refl; sleeps = c.watch.ensures.sleeps; alarms = c.watch.ensures.alarms; watchers = c.watch.ensures.watchers })
