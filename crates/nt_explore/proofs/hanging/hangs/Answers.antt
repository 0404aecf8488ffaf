use Rattle.std.proofs.Common.{◌≡◌, Bool, List, refl, sym, subst, ◌∙◌, length}
use Rattle.std.proofs.lemmas.Bool.{false≢true}
use Rattle.nt_machine.specs.Dispatcher.{state}
use Rattle.nt_look.specs.Hangs.{IsStuck, IsGreatestKnot, unmarked}
use Rattle.nt_look.specs.Orders.{goes_on}
use Rattle.nt_lanes.specs.Lanes.{point_at}
use Rattle.nt_explore.proofs.Hung.{waiting_known, someone_waits, hangs_stuck, hangs_knot, told_hangs, all_agree, decided}
use Rattle.nt_explore.proofs.hanging.hangs.Goals as goal

pub returns-then-not-one_waits : goal.returns-then-not-one_waits
returns-then-not-one_waits c = (
  λ e. absurd (false≢true e),
  λ h.
      let w = someone_waits c.args.plan.now (point_at c.args.position.now.places.items c.args.position.now.core) h in
      absurd (c.if-not-one_waits.ensures w.0 (waiting_known c.args.position.now.core c.stands.ensures w.0 w.1) w.1),
)

pub returns-then-is_stuck : goal.returns-then-is_stuck
returns-then-is_stuck c =
    let d = c.args.position.now.core in
    let p = point_at c.args.position.now.places.items d in (
      λ e. hangs_stuck d c.args.plan.now p c.deref.result.now refl (all_agree d.threads c.in_ok-over.over.items c.deref.result.now (goes_on c.args.plan.now p) c.deref.ensures.value c.in_ok-over.ensures.point) (c.is_stuck.ensures.0 c.if-is_stuck.true) c.if-not-one_waits.ensures.0 c.if-not-one_waits.ensures.1,
      λ h. refl,
    )

pub returns : goal.returns
returns c =
    let d = c.args.position.now.core in
    let plan = c.args.plan.now in
    let p = point_at c.args.position.now.places.items d in
    let over = c.deref-2.result.now in
    let knot = c.deref-3.result.now in
    let agree = all_agree d.threads c.in_ok-over.over.items over (goes_on plan p) c.deref-2.ensures.value c.in_ok-over.ensures.point in
    let greatest : IsGreatestKnot (unmarked over) (state d) knot = subst (λ (ls : List Bool). IsGreatestKnot (unmarked over) (state d) ls) (sym c.deref-3.ensures.value) c.in_ok-knot.ensures.knot in
    let count : length knot ≡ d.threads = subst (λ (ls : List Bool). length ls ≡ d.threads) (sym c.deref-3.ensures.value) c.in_ok-knot.ensures.count in
    decided c.has_waiting.result c.has_waiting.ensures
    (λ w. hangs_knot d plan p over knot refl agree count greatest w.0 w.1 w.2)
    (λ none h.
    let t = told_hangs d plan p over knot c.stands.ensures c.owners_stand.ensures refl agree (λ stuck. false≢true (sym c.if-is_stuck.false ∙ c.is_stuck.ensures.1 (subst (λ (ls : List Bool). IsStuck (unmarked ls) (state d)) (c.deref-2.ensures.value ∙ sym c.deref.ensures.value) stuck))) greatest h in
    none t.0 t.1 t.2 t.3)
