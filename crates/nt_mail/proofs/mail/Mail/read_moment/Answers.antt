use Rattle.std.proofs.Common.{rules}
use Rattle.nt_mail.proofs.Reading.{reads_as}
use Rattle.nt_mail.proofs.mail.Mail.read_moment.Goals as goal

pub load-word-requires : goal.load-word-requires
load-word-requires c = (search rules, search rules, reads_as _ _ _ c.seat.invariant.0)
