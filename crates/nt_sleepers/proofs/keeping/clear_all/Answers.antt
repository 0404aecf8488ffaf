use Rattle.std.proofs.Common.{◌∙◌, None, arith}
use Rattle.std.proofs.lemmas.Bool.Decides.{nat_tests}
use Rattle.nt_sleepers.proofs.Waking.{woken_next}
use Rattle.nt_sleepers.proofs.keeping.clear_all.Goals as goal

pub loop-grant-preserved : goal.loop-grant-preserved
loop-grant-preserved c =
    woken_next None c.args.alarms.now c.loop-grant.alarms _ c.args.grants.now c.loop-grant.grant-index c.from.result c.grant-item.result
    (grind (arith, nat_tests, c.loop-grant-test.true)) c.grant-item.is (c.from.ensures ∙ c.get.ensures) c.loop-grant.invariant c.clear.ensures
