-- The lines so far and those that are left are all lines.
use Rattle.std.proofs.Common.{◌≡◌, ◌+◌, ◌≤◌, length}
use Rattle.nt_lines.specs.Lines.{lines_of}
use Rattle.nt_hangs.proofs.input.lines_in.Given as goal

abbrev pub invariant-loop-rest : goal.invariant-loop-rest
invariant-loop-rest l = record {
  counted : l.count + length (lines_of l.rest) ≡ length (lines_of l.bytes);
  few : l.count + length l.rest ≤ length l.bytes;
}

abbrev pub decreases-loop-rest : goal.decreases-loop-rest
decreases-loop-rest l = length l.rest
