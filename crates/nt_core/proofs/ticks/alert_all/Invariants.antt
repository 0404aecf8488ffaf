use Rattle.nt_marks.proofs.Counting.{marks_left}
use Rattle.nt_machine.proofs.Rousing.{AlertedSoFar}
use Rattle.nt_core.proofs.ticks.alert_all.Given as goal

abbrev pub invariant-loop-place : goal.invariant-loop-place
invariant-loop-place l = AlertedSoFar l.initial.machine l.machine l.machine.marked.alerted

-- marks that are left
abbrev pub decreases-loop-place : goal.decreases-loop-place
decreases-loop-place l = marks_left l.machine.marked.alerted
