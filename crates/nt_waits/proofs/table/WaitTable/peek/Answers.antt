use Rattle.std.proofs.Common.{ap, sym, ◌∙◌}
use Rattle.nt_waits.specs.Waits.{wait_of}
use Rattle.nt_waits.proofs.ViewLemmas.{get-waits}
use Rattle.nt_waits.proofs.table.WaitTable.peek.Goals as goal

pub returns : goal.returns
returns c = (rw c.as_slice.ensures.value at c.wait_in.ensures) ∙ sym (get-waits c.self.inside.waits.items c.args.t) ∙ ap (λ v. wait_of v c.args.t) c.self.view_is
