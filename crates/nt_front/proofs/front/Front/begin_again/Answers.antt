use Rattle.std.proofs.Common.{subst, sym}
use Rattle.nt_mail.specs.Knowledge.{IsFree}
use Rattle.nt_front.proofs.Floors.{free_begins}
use Rattle.nt_front.proofs.front.Front.begin_again.Goals as goal

pub invariant_of-result : goal.invariant_of-result
invariant_of-result g c = subst IsFree (sym c.in-Ok.ensures.entered.made) (free_begins c.ended.inside.hold _ _ c.ended.invariant)
