use Rattle.std.proofs.Common.{rules, subst, sym, ◌∙◌}
use Rattle.nt_mail.specs.Knowledge.{IsFree, IsWaiting}
use Rattle.nt_calls.specs.declared.call.Call.{Call}
use Rattle.nt_front.proofs.Floors.{waits_after, free_after}
use Rattle.nt_front.proofs.front.Front.wait.Goals as goal

pub invariant_of-sleep : goal.invariant_of-sleep
invariant_of-sleep g c =
    subst IsWaiting (sym c.in-Ok.ensures.entered.made)
    (waits_after c.pass.inside.hold c.in-Ok.begun.entry (Call.Wait c.args.wait) c.in-Ok.begun.result (sym c.has_pended.ensures ∙ c.if-has_pended.true) c.pass.invariant c.in-Ok.ensures.entered.earlier)

pub invariant_of-result-2 : goal.invariant_of-result-2
invariant_of-result-2 g c =
    subst IsFree (sym c.in-Ok.ensures.entered.made)
    (free_after c.pass.inside.hold c.in-Ok.begun.entry (Call.Wait c.args.wait) c.in-Ok.begun.result (sym c.has_pended.ensures ∙ c.if-has_pended.false) c.pass.invariant)

pub returns-then-has_pended : goal.returns-then-has_pended
returns-then-has_pended g c = search rules
