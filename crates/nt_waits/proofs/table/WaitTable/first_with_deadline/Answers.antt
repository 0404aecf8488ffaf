use Rattle.std.proofs.Common.{ap, ◌∙◌}
use Rattle.nt_waits.specs.Deadlines.{deadline_of}
use Rattle.nt_waits.proofs.DeadlineLemmas.{alarm-deadline, none_before, none_with, lowest_with}
use Rattle.nt_waits.proofs.table.WaitTable.first_with_deadline.Goals as goal

pub first_at-requires : goal.first_at-requires
first_at-requires c =
    none_before c.self.inside.deadlines c.args.self.now.pending
    (λ t. alarm-deadline c.self.inside.deadlines c.self.inside.waits.items c.self.invariant.alarmed t ∙ ap (λ v. deadline_of v.pending t) c.self.view_is)
    c.args.moment c.requires

pub returns-in_err-place : goal.returns-in_err-place
returns-in_err-place c =
    rw c.from_residual.ensures (none_with c.self.inside.deadlines c.args.self.now.pending
    (λ t. alarm-deadline c.self.inside.deadlines c.self.inside.waits.items c.self.invariant.alarmed t ∙ ap (λ v. deadline_of v.pending t) c.self.view_is)
    c.args.moment c.in_err-place.ensures)

pub returns : goal.returns
returns c =
    rw c.new.ensures (lowest_with c.self.inside.deadlines c.args.self.now.pending
    (λ t. alarm-deadline c.self.inside.deadlines c.self.inside.waits.items c.self.invariant.alarmed t ∙ ap (λ v. deadline_of v.pending t) c.self.view_is)
    c.args.moment c.in_ok-place.place c.in_ok-place.ensures)
