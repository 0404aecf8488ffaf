use Rattle.std.proofs.Common.{refl, rules, subst, sym}
use Rattle.nt_mail.specs.Knowledge.{IsFree}
use Rattle.nt_calls.specs.declared.call.Call.{Call}
use Rattle.nt_front.proofs.Floors.{free_unless_waits}
use Rattle.nt_front.proofs.front.Front.exit.Goals as goal

pub invariant_of-result-in-Ok : goal.invariant_of-result-in-Ok
invariant_of-result-in-Ok g c =
    subst IsFree (sym c.in-Ok.ensures.made.0)
    (free_unless_waits c.pass.inside.hold c.in-Ok.receipt.entry Call.Exit c.in-Ok.receipt.result refl c.in-Ok.ensures.waits c.pass.invariant)

pub returns-in-Ok : goal.returns-in-Ok
returns-in-Ok g c = search rules
