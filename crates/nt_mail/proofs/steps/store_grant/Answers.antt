use Rattle.std.proofs.Common.{rules, arith}
use Rattle.nt_mail.proofs.Writing.{grants_as}
use Rattle.nt_mail.proofs.steps.store_grant.Goals as goal

pub store-requires : goal.store-requires
store-requires g c = (search rules, search rules, grants_as _ _ _ c.args.thread c.args.status _ _ _ c.requires.view c.requires.entry (search rules) c.requires.armed (search rules) (omega arith))
