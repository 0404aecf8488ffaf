use Rattle.std.proofs.Common.{◌≡◌, false, replicate}
use Rattle.nt_marks.proofs.marks.Marks.with_places.Given as goal

abbrev pub invariant-loop : goal.invariant-loop
invariant-loop l = l.marks ≡ replicate l.counter false
