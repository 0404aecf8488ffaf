use Rattle.std.proofs.Common.{rules, arith}
use Rattle.nt_mail.proofs.Reading.{takes_as}
use Rattle.nt_mail.proofs.mail.Mail.take.Goals as goal

pub compare_exchange-found-requires : goal.compare_exchange-found-requires
compare_exchange-found-requires c = (search rules, search rules, takes_as _ _ _ _ _ _ c.seat.invariant.0 (omega (arith, c.seat.invariant.1)) c.requires.granted (omega arith))
