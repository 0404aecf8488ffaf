use Rattle.std.proofs.Common.{subst}
use Rattle.std.specs.Result.{IfOk}
use Rattle.nt_calls.specs.declared.call.Call.{Call}
use Rattle.nt_front.specs.Polls.{IsMade}
use Rattle.nt_front.proofs.front.Front.call.Goals as goal

pub returns-clause-made : goal.returns-clause-made
returns-clause-made g c =
    subst (λ h. IfOk c.make.result (λ r. IsMade h (Call.Act c.args.act) r.entry r.result c.make.new.caller)) c.pass.view_is c.make.ensures.made
