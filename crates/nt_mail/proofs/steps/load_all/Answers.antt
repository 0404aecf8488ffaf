use Rattle.std.proofs.Common.{rules}
use Rattle.nt_mail.proofs.Looking.{looks_as}
use Rattle.nt_mail.proofs.steps.load_all.Goals as goal

pub load-requires : goal.load-requires
load-requires c = (search rules, search rules, looks_as _ _ _ c.requires.view)
