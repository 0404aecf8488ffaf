use Rattle.nt_machine.proofs.Places.{ServedSoFar}
use Rattle.nt_marks.proofs.Counting.{marks_left}
use Rattle.nt_machine.proofs.machine.Machine.serve_marked.Given as goal

abbrev pub invariant-loop-place : goal.invariant-loop-place
invariant-loop-place l = ServedSoFar l.initial.self l.self

-- marks that are left
abbrev pub decreases-loop-place : goal.decreases-loop-place
decreases-loop-place l = marks_left l.self.marked.changed
