use Rattle.std.proofs.Common.{◌≡◌, ap, ◌∙◌, false, rules}
use Rattle.atomic_table.specs.Table.{Me}
use Rattle.nt_mail.specs.declared.knowledge.View.{View}
use Rattle.nt_mail.proofs.Seating.{splits_spare, splits_apart, joins_together}
use Rattle.nt_mail.proofs.mail.Mail.look.Goals as goal

pub split_seat-spare-requires : goal.split_seat-spare-requires
split_seat-spare-requires c = (search rules, search rules, splits_spare _ _)

pub join_seat-requires : goal.join_seat-requires
join_seat-requires c =
    let plain : c.replace-seat.result.me.0.keeps ≡ false = ap (λ p. p.me.0.keeps) c.replace-seat.ensures.value ∙ ap (λ (m : Me (Unit {0}) View). m.0.keeps) c.caller.invariant.0 in
    (search rules, search rules, search rules, search rules, joins_together _ _ _ _ plain)

pub split_seat-requires : goal.split_seat-requires
split_seat-requires c = (search rules, search rules, splits_apart _ _)
