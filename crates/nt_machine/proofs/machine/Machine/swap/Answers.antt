use Rattle.std.proofs.Common.{◌≡◌, [], ◌∷◌, false, refl, sym, ap, ◌∙◌, subst}
use Rattle.nt_waits.specs.declared.wait.Wait.{Wait}
use Rattle.nt_calls.specs.declared.call.Reply.{Reply}
use Rattle.nt_calls.specs.State.{State, deadline_after, pending_too}
use Rattle.nt_machine.specs.Dispatcher.{Dispatcher, state}
use Rattle.nt_calls.specs.Serving.{wait_on}
use Rattle.nt_calls.specs.Steps.{begun}
use Rattle.nt_machine.specs.Lawful.{IsSteady}
use Rattle.nt_machine.specs.Accepts.{CanBegin}
use Rattle.nt_machine.proofs.Beginning.{began_pending, begun_pends}
use Rattle.nt_machine.proofs.Swapping.{calm_steady, calm_idle, calm_able, calm_room, swap_accepted}
use Rattle.nt_machine.proofs.machine.Machine.swap.Goals as goal
use Rattle.nt_machine.proofs.machine.Machine.swap.Goals.{After-signal}

-- once the object is signaled the wait can begin
can : (c : After-signal) → CanBegin c.signal.new.self c.args.thread (wait_on (c.args.object ∷ []) false)
can c = record {
  idle = calm_idle c.args.self.now c.signal.new.self c.args.thread c.args.signal c.args.object c.args.mode c.requires.fresh c.requires.free c.requires.living c.signal.ensures;
  able = calm_able c.args.self.now c.signal.new.self c.args.thread c.args.signal c.args.object c.args.mode c.requires.fresh c.requires.free c.requires.living c.signal.ensures (wait_on (c.args.object ∷ []) false) refl;
  room = calm_room c.args.self.now c.signal.new.self c.args.thread c.args.signal c.args.object c.args.mode c.requires.fresh c.requires.free c.requires.living c.signal.ensures;
}

steady : (c : After-signal) → IsSteady c.signal.new.self
steady c = calm_steady c.args.self.now c.signal.new.self c.args.thread c.args.signal c.args.object c.args.mode c.requires.fresh c.requires.free c.requires.living c.signal.ensures

pub end_at_once-requires-clause-can : goal.end_at_once-requires-clause-can
end_at_once-requires-clause-can c = can (goal.at.end_at_once-requires-clause-can c).After-signal

pub end_at_once-requires-clause-steady : goal.end_at_once-requires-clause-steady
end_at_once-requires-clause-steady c = steady (goal.at.end_at_once-requires-clause-steady c).After-signal

-- the wait ended at once
pub returns-in-Some : goal.returns-in-Some
returns-in-Some c =
    swap_accepted c.args.self.now c.signal.new.self c.args.thread c.args.signal c.args.object c.args.mode c.requires.fresh c.requires.free c.requires.living c.signal.ensures c.end_at_once.new.self (Reply.Status c.in-Some.status)
    c.end_at_once.ensures.kept.grants (ap (λ v. v.looked) c.end_at_once.ensures.kept.table) c.end_at_once.ensures.steady c.in-Some.ensures.begun

pub pend_one-requires-clause-can : goal.pend_one-requires-clause-can
pend_one-requires-clause-can c =
    subst (λ (d : Dispatcher). CanBegin d c.args.thread (wait_on (c.args.object ∷ []) false)) (sym c.in_default.ensures.none) (can (goal.at.pend_one-requires-clause-can c).After-signal)

-- the wait pends
pub returns : goal.returns
returns c =
    let calm = c.signal.new.self in
    let new = c.pend_one.new.self in
    let t = c.args.thread in
    let w : Wait = record { objects = c.args.object ∷ []; all = false; alertable = c.args.mode.alertable; deadline = deadline_after calm.now c.args.mode.ms } in
    let same : c.end_at_once.new.self ≡ calm = c.in_default.ensures.none in
    let pends = c.in_default.ensures.pends in
    let done = c.pend_one.ensures in
    let becomes : state new ≡ pending_too (state calm) t w =
    done.state ∙ (λ i. pending_too (state (same i)) t (record { objects = c.args.object ∷ []; all = false; alertable = c.args.mode.alertable; deadline = deadline_after (same i).now c.args.mode.ms })) in
    let settled : IsSteady new = began_pending calm new t c.args.mode.ms w (steady (goal.at.returns c).After-signal) pends.0 pends.1 pends.2 refl becomes done.sound (done.marked ∙ ap (λ (d : Dispatcher). d.marked) same) in
    let answers : (Reply.Pended, state new) ≡ begun (state calm) t w c.args.mode.ms = ap (λ (s : State). (Reply.Pended, s)) becomes ∙ sym (begun_pends (state calm) t w c.args.mode.ms pends.0 pends.1 pends.2) in
    swap_accepted c.args.self.now calm t c.args.signal c.args.object c.args.mode c.requires.fresh c.requires.free c.requires.living c.signal.ensures new Reply.Pended
    (done.grants ∙ c.end_at_once.ensures.kept.grants) (done.looked ∙ ap (λ v. v.looked) c.end_at_once.ensures.kept.table) settled answers
