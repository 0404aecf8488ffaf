use Rattle.std.proofs.Common.{◌≡◌, ◌≤◌, map, take}
use Rattle.std.specs.Prelude.{count_by}
use Rattle.nt_plans.specs.Gates.{is_late}
use Rattle.nt_plans.specs.Kept.{item_of}
use Rattle.nt_plans.proofs.planning.count_late.Given as goal

abbrev pub invariant-loop-item : goal.invariant-loop-item
invariant-loop-item l = record {
  count : l.count ≡ count_by is_late (map item_of (take l.item-index l.items));
  few : l.count ≤ l.item-index;
}
