use Rattle.std.proofs.Common.{ap, rules}
use Rattle.atomic_table.specs.Table.{Me}
use Rattle.nt_mail.specs.declared.knowledge.View.{View}
use Rattle.nt_mail.proofs.Seating.{joins_together}
use Rattle.nt_mail.proofs.mail.Mail.join.Goals as goal

pub join_seat-requires : goal.join_seat-requires
join_seat-requires c =
    let plain = ap (λ (m : Me (Unit {0}) View). m.0.keeps) c.into_place-seat.ensures.view in
    (search rules, search rules, search rules, search rules, joins_together _ _ _ _ plain)
