use Rattle.std.proofs.Common.{Bool, List, [], sym, subst}
use Rattle.nt_front.specs.Marks.{AreMarks}
use Rattle.nt_front.proofs.Marking.{marks_at_first}
use Rattle.nt_front.proofs.wake.mark_all.Goals as goal

pub loop-grant-init : goal.loop-grant-init
loop-grant-init c = subst (λ (marks : List Bool). AreMarks marks []) (sym c.none-marks.ensures) (marks_at_first c.args.grants.now)
