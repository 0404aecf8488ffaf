use Rattle.std.proofs.Common.{◌≡◌, length}
use Rattle.nt_tables.specs.Handles.{own_handles}
use Rattle.nt_tables.proofs.handles.HandleTable.new.Given as goal

abbrev pub invariant-loop-object : goal.invariant-loop-object
invariant-loop-object l = record {
  opened : l.table.opened ≡ own_handles l.object l.access;
  count : length l.table.opened ≡ l.object;
}
