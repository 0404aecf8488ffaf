use Rattle.std.proofs.Common.{◌≡◌, map, length}
use Rattle.nt_objects.specs.Object.{abandoned_by}
use Rattle.nt_tables.specs.Owned.{list_of}
use Rattle.nt_tables.specs.Objects.{OwnersAgree}
use Rattle.nt_tables.proofs.AbandonLemmas.{MarkedSoFar}
use Rattle.nt_tables.proofs.table.abandon_each.Given as goal

abbrev pub invariant-loop-mutex : goal.invariant-loop-mutex
invariant-loop-mutex l = record {
  agree : OwnersAgree l.objects l.owners.lists;
  all : map (abandoned_by l.thread) l.objects ≡ map (abandoned_by l.thread) l.initial.objects;
  so_far : MarkedSoFar l.initial.objects l.objects l.thread l.initial.changed l.changed;
  room : l.owners.room ≡ l.initial.owners.room;
  threads : length l.owners.lists ≡ length l.initial.owners.lists;
}

abbrev pub decreases-loop-mutex : goal.decreases-loop-mutex
decreases-loop-mutex l = length (list_of l.owners.lists l.thread)
