use Rattle.nt_machine.specs.Dispatcher.{state}
use Rattle.nt_sleepers.proofs.Renewing.{kept_begun}
use Rattle.nt_sleepers.proofs.sleepers.Sleepers.begin.Goals as goal

pub invariant_of-self : goal.invariant_of-self
invariant_of-self c =
    (kept_begun (state c.self.inside.life.core) (state c.begin.new.self.core) c.self.inside.life.spare c.begin.result c.begin.new.self.core.grants c.self.inside.alarms c.self.inside.watchers c.begin.ensures.begun c.self.invariant.0, tt)
