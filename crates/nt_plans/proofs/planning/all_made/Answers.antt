use Rattle.std.proofs.Common.{◌∙◌, List, [], ap, map, sym, take}
use Rattle.nt_plans.specs.Gates.{Gates, Item, all_made, with_made}
use Rattle.nt_plans.specs.Kept.{gates_of, item_of}
use Rattle.nt_plans.specs.declared.items.Item as kept
use Rattle.nt_plans.specs.declared.laying.Made.{Made}
use Rattle.nt_plans.proofs.Lines.{item_more}
use Rattle.nt_plans.proofs.planning.all_made.Goals as goal

pub loop-item-preserved : goal.loop-item-preserved
loop-item-preserved c =
    let gates : Gates = gates_of c.args.gates.now in
    let step : List Made → Item → List Made = λ above item. with_made gates above item item.does in
    let before : List Made = all_made gates (map item_of (take c.loop-item.item-index c.args.items.now)) in
    c.in_ok-add_made.ensures ∙ (ap (λ (above : List Made). step above (item_of c.item-item.result)) c.loop-item.invariant
    ∙ (ap (λ (it : kept.Item). step before (item_of it)) c.item-item.is
    ∙ sym (item_more step [] c.args.items.now c.loop-item.item-index c.item-item.result c.loop-item-test.true)))
