use Rattle.std.proofs.Common.{◌≡◌, ◌≤◌, length}
use Rattle.nt_explore.specs.Walk.{used, AreInSlots}
use Rattle.nt_explore.proofs.met.slots_of.Given as goal

abbrev pub invariant-loop-index : goal.invariant-loop-index
invariant-loop-index l = record {
  stand : AreInSlots l.visits l.index l.slots.items;
  few : used l.slots.items ≤ l.index;
  room : length l.slots.items ≡ l.count;
}
