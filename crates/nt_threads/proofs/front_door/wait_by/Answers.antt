use Rattle.nt_calls.specs.declared.call.Call.{Call}
use Rattle.nt_threads.proofs.Accepted.{wait_accepted}
use Rattle.nt_threads.proofs.front_door.wait_by.Goals as goal

pub returns-in-Granted-clause-made : goal.returns-in-Granted-clause-made
returns-in-Granted-clause-made g c =
    let begun = c.in-Granted.field-1 in
    let waited = c.in-Granted.ensures in
    rw c.in-Pass.is
    (wait_accepted c.in-Pass.pass waited.0 c.in-Granted.pass (Call.Wait c.args.wait) begun.entry c.in-Granted.receipt.entry begun.result c.in-Granted.receipt.result
    waited.1.0 waited.2 waited.3)
