use Rattle.std.proofs.Common.{ℕ, List, subst, inr}
use Rattle.nt_machine.specs.Dispatcher.{state}
use Rattle.nt_orders.specs.Plans.{IsPlanOf}
use Rattle.nt_orders.specs.Reading.{lanes_of}
use Rattle.nt_orders.proofs.Telling.{outcome_of}
use Rattle.nt_orders.proofs.report.report_on.Goals as goal

pub returns-in-Ok : goal.returns-in-Ok
returns-in-Ok g c =
    let script = c.in_ok-script.script in
    let s = state script.session.core in
    let plan : IsPlanOf _ (lanes_of script) s = subst (λ (bytes : List ℕ). IsPlanOf bytes (lanes_of script) s) c.before_zero-lines.ensures c.in_ok-script.ensures.plan in
    let found = c.findings.ensures in
    outcome_of c.args.most _ (lanes_of script) s _ _ c.in-Ok.explored plan c.in-Ok.ensures.verdict c.in-Ok.ensures.searched c.findings.result
    found.code found.order found.fault

pub returns : goal.returns
returns g c =
    let script = c.in_ok-script.script in
    let s = state script.session.core in
    let plan : IsPlanOf _ (lanes_of script) s = subst (λ (bytes : List ℕ). IsPlanOf bytes (lanes_of script) s) c.before_zero-lines.ensures c.in_ok-script.ensures.plan in
    (tt, inr (lanes_of script, s, plan, c.in-Err.ensures.cut_off))
