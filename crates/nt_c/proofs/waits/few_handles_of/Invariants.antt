use Rattle.std.proofs.Common.{◌≡◌, length, take}
use Rattle.nt_c.proofs.waits.few_handles_of.Given as goal

abbrev pub invariant-loop-number : goal.invariant-loop-number
invariant-loop-number l = record {
  items : l.handles.items ≡ take l.number-index l.numbers;
  count : length l.handles.items ≡ l.number-index;
}
