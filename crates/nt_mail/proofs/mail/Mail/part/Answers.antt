use Rattle.std.proofs.Common.{rules}
use Rattle.nt_mail.proofs.Seating.{splits_apart}
use Rattle.nt_mail.proofs.mail.Mail.part.Goals as goal

pub split_seat-seat-requires : goal.split_seat-seat-requires
split_seat-seat-requires c = (search rules, search rules, splits_apart _ _)
