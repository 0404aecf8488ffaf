use Rattle.std.proofs.Common.{ap, subst}
use Rattle.atomic_table.specs.Table.{Me}
use Rattle.nt_mail.specs.Seats.{Gathered}
use Rattle.nt_mail.specs.Entries.{Each}
use Rattle.nt_mail.specs.Rule.{IsTold}
use Rattle.nt_mail.specs.declared.knowledge.View.{View}
use Rattle.nt_mail.proofs.Closing.{told_at_close}
use Rattle.nt_mail.proofs.mail.Mail.close.Goals as goal

pub returns : goal.returns
returns c =
    let last = c.close_with.ensures.values.2 in
    let keeps = ap (λ (m : Me (Unit {0}) View). m.0.keeps) c.all.invariant in
    subst (λ (g : Gathered). Each (IsTold g.written g.published) g.parts) c.all.view_is (told_at_close _ _ _ _ _ _ last.1.0.2 last.1.1 keeps)
