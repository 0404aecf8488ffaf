use Rattle.std.proofs.Common.{take}
use Rattle.nt_front.specs.Marks.{AreMarks}
use Rattle.nt_front.proofs.wake.mark_all.Given as goal

abbrev pub invariant-loop-grant : goal.invariant-loop-grant
invariant-loop-grant l = AreMarks l.marks (take l.grant-index l.grants)
