use Rattle.std.proofs.Common.{◌≤◌, length, arith}
use Rattle.std.specs.FinMap as map
use Rattle.std.specs.Prelude.{false, None}
use Rattle.nt_machine.specs.Dispatcher.{state}
use Rattle.nt_sleepers.specs.Sleepers.{settled}
use Rattle.nt_sleepers.proofs.Staying.{tick_stayed}
use Rattle.nt_sleepers.proofs.Kept.{idle, kept_after, called_waits, nobody_by_tick}
use Rattle.nt_sleepers.proofs.sleepers.Sleepers.tick.Goals as goal

pub invariant_of-self : goal.invariant_of-self
invariant_of-self c =
    let kept = kept_after (state c.self.inside.life.core) (state c.tick-result.new.self.core) 0 false c.tick-result.new.self.core.grants None c.settle.new.called c.self.inside.alarms c.self.inside.watchers c.settle.new.alarms c.settle.new.watchers (c.tick-result.ensures.moves 0)
    (tick_stayed (state c.self.inside.life.core) c.args.m c.tick-result.result c.tick-result.new.self.core.grants (state c.tick-result.new.self.core) c.tick-result.ensures.ticked) (λ began. absurd (cc (began))) c.self.invariant.0
    c.settle.ensures.alarms c.settle.ensures.watchers c.settle.ensures.called c.settle.ensures.in_time in
    (kept, called_waits (state c.tick-result.new.self.core) (settled c.self.inside.alarms 0 false c.tick-result.new.self.core) c.settle.new.watchers c.settle.new.called kept.watching c.settle.ensures.called)

pub returns-clause-nobody : goal.returns-clause-nobody
returns-clause-nobody c =
    nobody_by_tick (state c.self.inside.life.core) (state c.tick-result.new.self.core) c.args.m c.tick-result.result c.tick-result.new.self.core.grants None c.settle.new.called c.self.inside.alarms c.self.inside.watchers _
    c.tick-result.ensures.ticked c.self.invariant.0 c.settle.ensures.watchers c.settle.ensures.called

pub settle-requires-clause-idle : goal.settle-requires-clause-idle
settle-requires-clause-idle c idle_now =
    let few = c.tick-result.ensures.few in
    let fewer : length c.tick-result.new.self.core.grants ≤ map.len (state c.self.inside.life.core).waits = omega (arith, few) in
    idle (state c.self.inside.life.core) c.tick-result.new.self.core.grants c.self.inside.watchers c.self.inside.called (c.is_idle-was_idle.ensures idle_now) fewer
    c.self.invariant.0.watching c.self.invariant.1
