use Rattle.std.proofs.Common.{◌≡◌, ◌+◌}
use Rattle.nt_marks.proofs.Counting.{marks_left}
use Rattle.nt_front.specs.Wakes.{marked_below}
use Rattle.nt_front.proofs.wake.Bells.ring_slow.Given as goal

abbrev pub invariant-loop-thread : goal.invariant-loop-thread
invariant-loop-thread l = l.rung + marked_below l.self l.marks ≡ marked_below l.self l.initial.marks

abbrev pub decreases-loop-thread : goal.decreases-loop-thread
decreases-loop-thread l = marks_left l.marks
