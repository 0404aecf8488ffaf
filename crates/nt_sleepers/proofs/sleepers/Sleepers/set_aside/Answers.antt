use Rattle.nt_machine.specs.Dispatcher.{state}
use Rattle.nt_sleepers.proofs.Renewing.{kept_aside}
use Rattle.nt_sleepers.proofs.sleepers.Sleepers.set_aside.Goals as goal

pub invariant_of-self : goal.invariant_of-self
invariant_of-self c =
    (kept_aside (state c.self.inside.life.core) (state c.set_aside.new.self.core) c.self.inside.life.spare c.args.thread c.set_aside.result c.set_aside.new.self.core.grants c.self.inside.alarms c.self.inside.watchers c.set_aside.ensures.aside c.self.invariant.0, tt)
