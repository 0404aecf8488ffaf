use Rattle.std.proofs.Common.{◌<◌, Bool, List, sym, subst}
use Rattle.nt_marks.proofs.Counting.{marks_left, marks_less}
use Rattle.nt_front.proofs.wake.Bells.ring_slow.Goals as goal

pub loop-thread-smaller-in-Some-get : goal.loop-thread-smaller-in-Some-get
loop-thread-smaller-in-Some-get c =
    subst (λ (marks : List Bool). marks_left marks < marks_left c.loop-thread.marks) (sym c.in-Some.ensures.rest)
    (marks_less c.loop-thread.marks c.in-Some.thread c.in-Some.ensures.first.here)

pub loop-thread-smaller : goal.loop-thread-smaller
loop-thread-smaller c =
    subst (λ (marks : List Bool). marks_left marks < marks_left c.loop-thread.marks) (sym c.in-Some.ensures.rest)
    (marks_less c.loop-thread.marks c.in-Some.thread c.in-Some.ensures.first.here)
