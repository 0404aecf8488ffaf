use Rattle.std.proofs.Common.{rules, arith}
use Rattle.nt_mail.proofs.Reading.{polls_as}
use Rattle.nt_mail.proofs.mail.Mail.poll.Goals as goal

pub load-requires : goal.load-requires
load-requires c = (search rules, search rules, polls_as _ _ _ _ c.seat.invariant.0 (omega (arith, c.seat.invariant.1)))
