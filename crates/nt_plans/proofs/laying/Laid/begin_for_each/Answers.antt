use Rattle.std.proofs.Common.{◌∙◌, ap, sym, take}
use Rattle.std.proofs.lemmas.List.Sums.{fold_more}
use Rattle.std.specs.List.{fold}
use Rattle.nt_plans.specs.Gates.{Laid, after_if_named}
use Rattle.nt_plans.specs.Kept.{does_of, laid_of}
use Rattle.nt_plans.specs.declared.laying.Made.{Made}
use Rattle.nt_plans.proofs.laying.Laid.begin_for_each.Goals as goal

pub loop-made-preserved : goal.loop-made-preserved
loop-made-preserved c =
    let step : Laid → Made → Laid = after_if_named c.args.item.now.lane (does_of c.args.item.now.does) in
    let start : Laid = laid_of c.args.self.now in
    let before : Laid = fold step start (take c.loop-made.made-index c.args.above.now) in
    c.in_ok-wait_if_named.ensures ∙ (ap (λ (laid : Laid). step laid c.made-item.result) c.loop-made.invariant
    ∙ (ap (step before) c.made-item.is ∙ sym (fold_more step start c.args.above.now c.loop-made.made-index c.made-item.result c.loop-made-test.true)))
