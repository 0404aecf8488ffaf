use Rattle.std.proofs.Common.{◌≡◌, ◌≤◌, [], replicate, vec_len, vec_capacity}
use Rattle.nt_plans.specs.Kept.{texts_of}
use Rattle.nt_plans.proofs.line.no_lines.Given as goal

abbrev pub invariant-loop : goal.invariant-loop
invariant-loop l = record {
  count : vec_len l.lines ≡ l.counter;
  room : l.count ≤ vec_capacity l.lines;
  lines : texts_of l.lines.items ≡ replicate l.counter [];
}
