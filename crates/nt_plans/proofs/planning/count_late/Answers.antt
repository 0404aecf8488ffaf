use Rattle.std.proofs.Common.{◌∙◌, ◌+◌, ℕ, ap, arith, sym}
use Rattle.std.specs.Prelude.{if◌then◌else◌}
use Rattle.nt_plans.specs.Gates.{makes}
use Rattle.nt_plans.specs.Kept.{does_of}
use Rattle.nt_plans.proofs.Lines.{late_more}
use Rattle.nt_plans.proofs.planning.count_late.Goals as goal

pub loop-item-preserved : goal.loop-item-preserved
loop-item-preserved c = record {
  count =
      ap (λ (n : ℕ). c.loop-item.count + n) c.makings-count.ensures.makes ∙ (ap (λ (n : ℕ). n + (if makes (does_of c.item-item.result.does) then 1 else 0)) c.loop-item.invariant.count
      ∙ sym (late_more c.args.items.now c.loop-item.item-index c.item-item.result c.loop-item-test.true c.item-item.is));
  few = let few = c.loop-item.invariant.few in let one = c.makings-count.ensures.one in omega (arith, few, one);
}
