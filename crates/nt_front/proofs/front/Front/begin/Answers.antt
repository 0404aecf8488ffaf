use Rattle.std.proofs.Common.{subst, sym, ◌∙◌}
use Rattle.nt_mail.specs.Knowledge.{IsFree, IsWaiting}
use Rattle.nt_calls.specs.declared.call.Call.{Call}
use Rattle.nt_front.proofs.Floors.{waits_after, free_after}
use Rattle.nt_front.proofs.front.Front.begin.Goals as goal

pub invariant_of-result-then-has_pended : goal.invariant_of-result-then-has_pended
invariant_of-result-then-has_pended g c =
    subst IsWaiting (sym c.in-Ok.ensures.made.0)
    (waits_after c.pass.inside.hold c.in-Ok.receipt.entry (Call.Wait c.args.wait) c.in-Ok.receipt.result (sym c.has_pended.ensures ∙ c.if-has_pended.true) c.pass.invariant c.in-Ok.ensures.made.1)

pub invariant_of-result-else-has_pended : goal.invariant_of-result-else-has_pended
invariant_of-result-else-has_pended g c =
    subst IsFree (sym c.in-Ok.ensures.made.0)
    (free_after c.pass.inside.hold c.in-Ok.receipt.entry (Call.Wait c.args.wait) c.in-Ok.receipt.result (sym c.has_pended.ensures ∙ c.if-has_pended.false) c.pass.invariant)
