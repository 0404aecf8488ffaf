use Rattle.std.proofs.Common.{◌≡◌, ◌<◌, ◌^◌, drop}
use Rattle.nt_lines.specs.Words.{value_after}
use Rattle.nt_lines.proofs.words.value_of.Given as goal

abbrev pub invariant-loop-digit : goal.invariant-loop-digit
invariant-loop-digit l = record {
  so_far : value_after l.value (drop l.digit-index l.digits) ≡ value_after 0 l.digits;
  fits : l.value < 2 ^ 64;
}
