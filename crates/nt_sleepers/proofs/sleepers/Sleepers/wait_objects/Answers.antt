use Rattle.std.proofs.Common.{refl, Bool, sym, subst}
use Rattle.nt_calls.specs.declared.call.Call.{Call}
use Rattle.nt_calls.specs.declared.call.WaitCall.{WaitCall}
use Rattle.nt_calls.specs.Moves.{Moves}
use Rattle.nt_machine.specs.Dispatcher.{state}
use Rattle.std.specs.FinMap.{get}
use Rattle.nt_sleepers.specs.Sleepers.{time_out_of, settled}
use Rattle.nt_sleepers.proofs.Staying.{StayedOrBegan, call_stayed}
use Rattle.nt_sleepers.proofs.Kept.{idle, kept_after, called_waits, nobody_by_call, woke_as}
use Rattle.nt_sleepers.proofs.sleepers.Sleepers.wait_objects.Goals as goal

pub invariant_of-self : goal.invariant_of-self
invariant_of-self c =
    let moves = subst (λ (b : Bool). Moves (state c.self.inside.life.core) c.args.who b c.wait_objects-result.new.self.core.grants (state c.wait_objects-result.new.self.core)) (sym c.has_pended-began.ensures) c.wait_objects-result.ensures.pace.moves in
    let stayed = subst (λ (b : Bool). StayedOrBegan (state c.self.inside.life.core) c.args.who b (state c.wait_objects-result.new.self.core)) (sym c.has_pended-began.ensures) (call_stayed (state c.self.inside.life.core) c.args.who (Call.Wait (WaitCall.Objects c.args.all c.args.mode c.args.handles.now)) c.wait_objects-result.result c.wait_objects-result.new.self.core.grants (state c.wait_objects-result.new.self.core) c.wait_objects-result.ensures.called) in
    let kept = kept_after (state c.self.inside.life.core) (state c.wait_objects-result.new.self.core) c.args.who c.has_pended-began.result c.wait_objects-result.new.self.core.grants (time_out_of (get (state c.wait_objects-result.new.self.core).waits c.args.who)) c.settle.new.called c.self.inside.alarms c.self.inside.watchers c.settle.new.alarms c.settle.new.watchers moves stayed (λ began. refl) c.self.invariant.0
    c.settle.ensures.alarms c.settle.ensures.watchers c.settle.ensures.called c.settle.ensures.in_time in
    (kept, called_waits (state c.wait_objects-result.new.self.core) (settled c.self.inside.alarms c.args.who c.has_pended-began.result c.wait_objects-result.new.self.core) c.settle.new.watchers c.settle.new.called kept.watching c.settle.ensures.called)

pub returns-clause-woke : goal.returns-clause-woke
returns-clause-woke c =
    woke_as _ _ _ _ _ _ c.self.view_is c.has_pended-began.ensures
    (record { alarms = c.settle.ensures.alarms; watchers = c.settle.ensures.watchers; called = c.settle.ensures.called })

pub returns-clause-nobody : goal.returns-clause-nobody
returns-clause-nobody c =
    nobody_by_call (state c.self.inside.life.core) (state c.wait_objects-result.new.self.core) c.args.who (Call.Wait (WaitCall.Objects c.args.all c.args.mode c.args.handles.now)) c.wait_objects-result.result c.has_pended-began.result c.wait_objects-result.new.self.core.grants (time_out_of (get (state c.wait_objects-result.new.self.core).waits c.args.who)) c.settle.new.called c.self.inside.alarms c.self.inside.watchers _
    c.wait_objects-result.ensures.called c.has_pended-began.ensures c.self.invariant.0 c.settle.ensures.watchers c.settle.ensures.called

pub settle-requires-clause-idle : goal.settle-requires-clause-idle
settle-requires-clause-idle c idle_now =
    idle (state c.self.inside.life.core) c.wait_objects-result.new.self.core.grants c.self.inside.watchers c.self.inside.called (c.is_idle-was_idle.ensures idle_now) c.wait_objects-result.ensures.pace.most
    c.self.invariant.0.watching c.self.invariant.1
