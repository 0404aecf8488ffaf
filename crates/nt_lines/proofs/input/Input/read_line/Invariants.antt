use Rattle.std.proofs.Common.{length, ◌≡◌, ◌≤◌, ◌-◌, vec_capacity}
use Rattle.std.specs.Io.KnownBytes.{Consumes}
use Rattle.nt_lines.specs.Lines.{to_come}
use Rattle.nt_lines.specs.Lines.{HasNoFeed}
use Rattle.nt_lines.proofs.input.Input.read_line.Given as goal

abbrev pub invariant-loop-self : goal.invariant-loop-self
invariant-loop-self g l = record {
  taken : Consumes (to_come l.fn.self (g.R.Source.seen l.fn.reader).left) (to_come l.self (g.R.Source.seen l.reader).left) l.line.items;
  one_line : HasNoFeed l.line.items;
  short : length l.line.items ≤ 4096;
  room : vec_capacity l.fn.line ≤ vec_capacity l.line;
  failed : (g.R.Source.seen l.reader).failed ≡ (g.R.Source.seen l.fn.reader).failed;
}

abbrev pub decreases-loop-self : goal.decreases-loop-self
decreases-loop-self g l = 4097 - length l.line.items
