use Rattle.std.proofs.Common.{◌∙◌, List, ap, map, sym, take}
use Rattle.std.specs.List.{fold}
use Rattle.nt_plans.specs.Gates.{Item, Planned, none_planned, planned_on}
use Rattle.nt_plans.specs.Kept.{gates_of, item_of, planned_of}
use Rattle.nt_plans.specs.declared.items.Item as kept
use Rattle.nt_plans.specs.declared.laying.Made.{Made}
use Rattle.nt_plans.proofs.Lines.{item_more}
use Rattle.nt_plans.proofs.planning.plan_all.Goals as goal

pub loop-item-preserved : goal.loop-item-preserved
loop-item-preserved c =
    let step : Planned → Item → Planned = planned_on c.args.threads (gates_of c.args.gates.now) c.in_ok-all.all.items in
    let start : Planned = none_planned c.args.threads in
    let before : Planned = fold step start (map item_of (take c.loop-item.item-index c.args.items.now)) in
    c.in_ok-add.ensures ∙ (ap (λ (all : List Made). planned_on c.args.threads (gates_of c.args.gates.now) all (planned_of c.loop-item.planned) (item_of c.item-item.result)) c.deref.ensures.value
    ∙ (ap (λ (p : Planned). step p (item_of c.item-item.result)) c.loop-item.invariant
    ∙ (ap (λ (it : kept.Item). step before (item_of it)) c.item-item.is
    ∙ sym (item_more step start c.args.items.now c.loop-item.item-index c.item-item.result c.loop-item-test.true))))
