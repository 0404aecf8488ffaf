use Rattle.std.proofs.Common.{◌-◌, length}
use Rattle.nt_marks.specs.Marks.{marked_places}
use Rattle.nt_machine.proofs.Passing.{ExpiredSoFar}
use Rattle.nt_core.proofs.ticks.expire_all.Given as goal

abbrev pub invariant-loop-place : goal.invariant-loop-place
invariant-loop-place l = ExpiredSoFar l.initial.machine l.machine l.m l.u (marked_places l.machine.marked.changed) l.machine.marked.alerted

-- objects that are not marked
abbrev pub decreases-loop-place : goal.decreases-loop-place
decreases-loop-place l = length l.machine.objects - length (marked_places l.machine.marked.changed)
