use Rattle.std.proofs.Common.{ap, ◌∙◌}
use Rattle.nt_waits.specs.Deadlines.{deadline_of}
use Rattle.nt_waits.proofs.DeadlineLemmas.{alarm-deadline, earliest_is}
use Rattle.nt_waits.proofs.table.WaitTable.earliest_deadline.Goals as goal

pub returns : goal.returns
returns c =
    earliest_is c.self.inside.deadlines c.args.self.now.pending
    (λ t. alarm-deadline c.self.inside.deadlines c.self.inside.waits.items c.self.invariant.alarmed t ∙ ap (λ v. deadline_of v.pending t) c.self.view_is)
    c.earliest.result c.earliest.ensures
