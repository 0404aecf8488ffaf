use Rattle.std.proofs.Common.{ℕ, ◌-◌, get_or, ap, sym, ◌∙◌, subst, inl, inr, arith}
use Rattle.nt_machine.specs.Dispatcher.{state}
use Rattle.nt_lanes.specs.Lanes.{beginning, point_at}
use Rattle.nt_explore.specs.Walk.{IsOther}
use Rattle.nt_explore.proofs.Slots.{past_more, never_found}
use Rattle.nt_explore.proofs.met.find.Goals as goal

pub returns-then-number-eq0 : goal.returns-then-number-eq0
returns-then-number-eq0 c =
    let slots = c.args.slots.now in
    let at = ap (λ (s : ℕ). get_or slots s 0) (sym c.slot_after.ensures.slot) in
    never_found c.args.plan.now (beginning c.args.plan.now (state c.args.start.now)) c.args.visits.now slots c.args.hash (point_at c.args.position.now.places.items c.args.position.now.core) c.loop-step.step c.requires.stand c.loop-step.invariant (inl (at ∙ c.if-number-eq0.true))

pub returns-then-branch : goal.returns-then-branch
returns-then-branch c = c.in_ok-is_at.ensures.found c.if-branch.true

pub loop-step-preserved : goal.loop-step-preserved
loop-step-preserved c =
    let start = beginning c.args.plan.now (state c.args.start.now) in
    let slots = c.args.slots.now in
    let p = point_at c.args.position.now.places.items c.args.position.now.core in
    let at = ap (λ (s : ℕ). get_or slots s 0) c.slot_after.ensures.slot in
    past_more c.args.plan.now start c.args.visits.now slots c.args.hash p c.loop-step.step c.loop-step.invariant (λ e. c.if-number-eq0.false (at ∙ e))
    (subst (λ (number : ℕ). IsOther c.args.plan.now start c.args.visits.now c.args.hash p (number - 1)) at (c.in_ok-is_at.ensures.other c.if-branch.false))

pub returns : goal.returns
returns c = never_found c.args.plan.now (beginning c.args.plan.now (state c.args.start.now)) c.args.visits.now c.args.slots.now c.args.hash (point_at c.args.position.now.places.items c.args.position.now.core) c.loop-step.step c.requires.stand c.loop-step.invariant (inr (let past = c.loop-step-test.false in omega (arith, past)))
