use Rattle.std.proofs.Common.{refl, ℕ, Bool, Option, ap, sym, subst}
use Rattle.nt_calls.specs.Moves.{Moves, pended}
use Rattle.nt_machine.specs.Dispatcher.{state}
use Rattle.std.specs.FinMap.{get}
use Rattle.nt_sleepers.specs.Sleepers.{Sleeping, CalledWaits, time_out_of, settled}
use Rattle.nt_sleepers.proofs.Staying.{StayedOrBegan}
use Rattle.nt_sleepers.proofs.Renewing.{makes_stayed}
use Rattle.nt_sleepers.proofs.Kept.{kept_same, refused, still, woke_still, on_err, kept_after, called_waits, nobody_by_renewal, woke_as}
use Rattle.nt_sleepers.proofs.sleepers.Sleepers.call.Goals as goal

pub invariant_of-self-2 : goal.invariant_of-self-2
invariant_of-self-2 c =
    let moves = subst (λ (b : Bool). Moves (state c.self.inside.life.core) c.args.who b c.call-result.new.self.core.grants (state c.call-result.new.self.core)) (sym c.has_pended-began.ensures) c.call-result.ensures.pace.moves in
    let stayed = subst (λ (b : Bool). StayedOrBegan (state c.self.inside.life.core) c.args.who b (state c.call-result.new.self.core)) (sym c.has_pended-began.ensures) (makes_stayed (state c.self.inside.life.core) c.self.inside.life.spare c.args.who c.args.call.now c.call-result.result c.call-result.new.self.core.grants (state c.call-result.new.self.core) c.call-result.ensures.makes) in
    let kept = kept_after (state c.self.inside.life.core) (state c.call-result.new.self.core) c.args.who c.has_pended-began.result c.call-result.new.self.core.grants (time_out_of (get (state c.call-result.new.self.core).waits c.args.who)) c.settle_all-self-inside.result c.self.inside.alarms c.self.inside.watchers c.settle_all-self-inside.new.alarms c.settle_all-self-inside.new.watchers moves stayed (λ began. refl) c.self.invariant.0
    c.settle_all-self-inside.ensures.alarms c.settle_all-self-inside.ensures.watchers c.settle_all-self-inside.ensures.called c.settle_all-self-inside.ensures.in_time in
    (kept, called_waits (state c.call-result.new.self.core) (settled c.self.inside.alarms c.args.who c.has_pended-began.result c.call-result.new.self.core) c.settle_all-self-inside.new.watchers c.settle_all-self-inside.result kept.watching c.settle_all-self-inside.ensures.called)

pub returns-clause-woke : goal.returns-clause-woke
returns-clause-woke c =
    woke_as _ _ _ _ _ _ c.self.view_is c.has_pended-began.ensures
    (record { alarms = c.settle_all-self-inside.ensures.alarms; watchers = c.settle_all-self-inside.ensures.watchers; called = c.settle_all-self-inside.ensures.called })

pub returns-clause-nobody : goal.returns-clause-nobody
returns-clause-nobody c =
    nobody_by_renewal (state c.self.inside.life.core) (state c.call-result.new.self.core) c.args.who c.call-result.result c.has_pended-began.result c.call-result.new.self.core.grants (time_out_of (get (state c.call-result.new.self.core).waits c.args.who)) c.settle_all-self-inside.result c.self.inside.alarms c.self.inside.watchers _
    c.call-result.ensures.unchanged c.has_pended-began.ensures c.self.invariant.0 c.settle_all-self-inside.ensures.watchers c.settle_all-self-inside.ensures.called

pub invariant_of-self : goal.invariant_of-self
invariant_of-self c =
    let cause = c.was_refused.ensures c.if-was_refused.true in
    let as_before = refused (state c.self.inside.life.core) (state c.call-result.new.self.core) c.call-result.result c.call-result.new.self.core.grants cause.0 cause.1 c.call-result.ensures.unchanged in
    (kept_same (state c.self.inside.life.core) (state c.call-result.new.self.core) c.self.inside.alarms c.self.inside.watchers as_before.2 c.self.invariant.0, tt)

pub invariant_of-self-then-is_still : goal.invariant_of-self-then-is_still
invariant_of-self-then-is_still c =
    let is = c.is_still.ensures c.if-is_still.true in
    let left = still (state c.self.inside.life.core) (state c.call-result.new.self.core) c.args.who (pended c.call-result.result) c.call-result.new.self.core.grants c.self.inside.called c.self.inside.alarms c.self.inside.watchers c.call-result.ensures.pace.moves is.0 is.1 c.self.invariant.0 c.self.invariant.1 in
    (left.2, subst (λ (called : Option ℕ). CalledWaits (state c.call-result.new.self.core) called) (sym left.1) tt)

pub returns-then-is_still-clause-woke : goal.returns-then-is_still-clause-woke
returns-then-is_still-clause-woke c =
    let is = c.is_still.ensures c.if-is_still.true in
    let left = still (state c.self.inside.life.core) (state c.call-result.new.self.core) c.args.who (pended c.call-result.result) c.call-result.new.self.core.grants c.self.inside.called c.self.inside.alarms c.self.inside.watchers c.call-result.ensures.pace.moves is.0 is.1 c.self.invariant.0 c.self.invariant.1 in
    woke_still c.args.self.now _ c.args.who (pended c.call-result.result) left.0 is.0 (ap (λ (s : Sleeping). s.alarms) c.self.view_is) (ap (λ (s : Sleeping). s.watchers) c.self.view_is) left.1

pub returns-then-is_still-clause-nobody : goal.returns-then-is_still-clause-nobody
returns-then-is_still-clause-nobody c =
    let is = c.is_still.ensures c.if-is_still.true in
    let left = still (state c.self.inside.life.core) (state c.call-result.new.self.core) c.args.who (pended c.call-result.result) c.call-result.new.self.core.grants c.self.inside.called c.self.inside.alarms c.self.inside.watchers c.call-result.ensures.pace.moves is.0 is.1 c.self.invariant.0 c.self.invariant.1 in
    on_err c.call-result.result left.1
