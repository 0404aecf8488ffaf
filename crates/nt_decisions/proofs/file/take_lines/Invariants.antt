use Rattle.std.proofs.Common.{◌≡◌, length, Some}
use Rattle.std.specs.List.{slice_split}
use Rattle.nt_decisions.specs.Decisions.{is_end, read_on}
use Rattle.nt_decisions.proofs.file.take_lines.Given as goal

abbrev pub invariant-loop-left : goal.invariant-loop-left
invariant-loop-left l =
    read_on (Some l.decisions.items) (slice_split is_end l.left) ≡ read_on (Some l.initial.decisions.items) (slice_split is_end l.initial.left)

abbrev pub decreases-loop-left : goal.decreases-loop-left
decreases-loop-left l = length l.left
