use Rattle.std.proofs.Common.{ℕ, List, subst}
use Rattle.nt_calls.specs.declared.call.WaitCall.{WaitCall}
use Rattle.nt_machine.specs.Accepts.{IsWaitMade, replied}
use Rattle.nt_machine.proofs.machine.Machine.wait_for_listed.Goals as goal

-- the slice has the handles of the list
pub returns-in-None : goal.returns-in-None
returns-in-None c =
    rw c.replied.ensures (subst (λ (hs : List ℕ). IsWaitMade c.args.self.now c.wait_for_several.new.self c.args.thread (WaitCall.Objects c.args.all c.args.mode hs) (replied c.wait_for_several.result))
    c.as_slice.ensures c.wait_for_several.ensures)
