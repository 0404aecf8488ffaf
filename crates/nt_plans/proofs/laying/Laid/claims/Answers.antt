use Rattle.std.proofs.Common.{◌∙◌, [], List, Option, ap, sym, take}
use Rattle.std.proofs.lemmas.List.Sums.{fold_more}
use Rattle.std.specs.List.{fold}
use Rattle.nt_calls.specs.declared.call.Act.{Act}
use Rattle.nt_plans.specs.Gates.{with_claim}
use Rattle.nt_plans.specs.Kept.{item_of, laid_of}
use Rattle.nt_plans.specs.declared.laying.Made.{Made}
use Rattle.nt_plans.proofs.laying.Laid.claims.Goals as goal

pub loop-made-preserved : goal.loop-made-preserved
loop-made-preserved c =
    let step : List (Option Act) → Made → List (Option Act) = with_claim c.args.all.now (laid_of c.args.self.now) (item_of c.args.item.now) in
    let before : List (Option Act) = fold step [] (take c.loop-made.made-index c.args.above.now) in
    c.in_ok-put_claim.ensures ∙ (ap (λ (claims : List (Option Act)). step claims c.made-item.result) c.loop-made.invariant
    ∙ (ap (step before) c.made-item.is ∙ sym (fold_more step [] c.args.above.now c.loop-made.made-index c.made-item.result c.loop-made-test.true)))
