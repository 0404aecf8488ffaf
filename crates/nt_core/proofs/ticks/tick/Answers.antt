use Rattle.std.proofs.Common.{◌≡◌, ◌≤◌, ◌<◌, ℕ, List, sym, ap, ◌∙◌, subst, arith}
use Rattle.std.specs.Prelude.{Ok}
use Rattle.nt_calls.specs.declared.call.Reply.{Reply}
use Rattle.nt_calls.specs.State.{State}
use Rattle.nt_machine.specs.Dispatcher.{Dispatcher, state}
use Rattle.nt_calls.specs.Steps.{Ticked}
use Rattle.nt_waits.specs.Waits.{Waits}
use Rattle.nt_calls.specs.declared.call.Grant.{Grant}
use Rattle.nt_calls.specs.Living.{Ends, LivesWhileKept}
use Rattle.nt_machine.specs.Lawful.{IsSteady}
use Rattle.nt_machine.specs.Accepts.{IsTickLocal}
use Rattle.nt_core.proofs.Coming.{left_to_come, left_smaller, tick_first, tick_next, tick_end, tick_ended, tick_countable}
use Rattle.nt_core.proofs.ticks.tick.Goals as goal

pub pass-requires-clause-countable : goal.pass-requires-clause-countable
pass-requires-clause-countable c = tick_countable c.tell_anew.new.self c.loop-u.machine c.args.m c.tell_anew.ensures.fresh.steady.sound c.loop-u.invariant

pub loop-u-init : goal.loop-u-init
loop-u-init c = tick_first c.tell_anew.new.self c.args.m c.tell_anew.ensures.fresh

pub loop-u-smaller : goal.loop-u-smaller
loop-u-smaller c =
    let less : left_to_come c.args.m c.pass.new.machine < left_to_come c.args.m c.loop-u.machine = left_smaller c.loop-u.machine c.pass.new.machine c.args.m c.in-Some.u c.in-Some.ensures c.pass.ensures in
    less

pub loop-u-preserved : goal.loop-u-preserved
loop-u-preserved c = tick_next c.tell_anew.new.self c.loop-u.machine c.pass.new.machine c.args.m c.in-Some.u c.loop-u.invariant c.in-Some.ensures c.pass.ensures

pub end_forgotten-requires : goal.end_forgotten-requires
end_forgotten-requires c = record {
  steady = subst (λ (x : Dispatcher). IsSteady (record x { now = c.args.m })) (sym c.machine-2.view_is) (tick_end c.tell_anew.new.self c.loop-u.machine c.args.m c.loop-u.invariant c.in_default.ensures).0;
}

pub returns-then-asked-present-clause-living : goal.returns-then-asked-present-clause-living
returns-then-asked-present-clause-living c = subst (λ (s : State). LivesWhileKept s) (sym c.tell_anew.ensures.state) c.requires.living

pub returns-clause-ticked : goal.returns-clause-ticked
returns-clause-ticked c =
    let h : c.get-present.result ≤ c.get-asked.result = c.if-asked-present.false in
    let k : c.get-asked.result ≡ c.args.m = c.get-asked.ensures.value in
    let p : c.get-present.result ≡ c.machine.inside.moment = c.get-present.ensures.value in
    let q : c.machine.inside.moment ≡ c.tell_anew.new.self.now = ap (λ (x : Dispatcher). x.now) c.machine.view_is in
    let new = c.end_forgotten.new.self in
    subst (λ (s : State). Ticked s c.args.m (Ok Reply.Done) new.grants (state new)) c.tell_anew.ensures.state
    (tick_ended c.tell_anew.new.self c.loop-u.machine new c.args.m (omega (arith, h, k, p, q)) c.loop-u.invariant c.in_default.ensures
    (subst (λ (x : Dispatcher). Ends (state (record x { now = c.args.m })) (state new)) c.machine-2.view_is c.end_forgotten.ensures.ends)
    (c.end_forgotten.ensures.grants ∙ ap (λ (x : Dispatcher). x.grants) c.machine-2.view_is))

pub returns-clause-local : goal.returns-clause-local
returns-clause-local c =
    let new = c.end_forgotten.new.self in
    let looked : new.table.looked ≡ c.loop-u.machine.table.looked = ap (λ (v : Waits). v.looked) (c.end_forgotten.ensures.table ∙ ap (λ (x : Dispatcher). x.table) c.machine-2.view_is) in
    let grants : new.grants ≡ c.loop-u.machine.grants = c.end_forgotten.ensures.grants ∙ ap (λ (x : Dispatcher). x.grants) c.machine-2.view_is in
    subst (λ (s : State). IsTickLocal s c.args.m new.table.looked new.grants) c.tell_anew.ensures.state
    (subst (λ (n : ℕ). IsTickLocal (state c.tell_anew.new.self) c.args.m n new.grants) (sym looked)
    (subst (λ (gs : List Grant). IsTickLocal (state c.tell_anew.new.self) c.args.m c.loop-u.machine.table.looked gs) (sym grants)
    (tick_end c.tell_anew.new.self c.loop-u.machine c.args.m c.loop-u.invariant c.in_default.ensures).1))
