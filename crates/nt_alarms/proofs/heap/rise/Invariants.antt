use Rattle.std.proofs.Common.{◌≡◌, ◌<◌}
use Rattle.nt_alarms.specs.Heap.{alarms_of, alarm_ranked, AreRanked, IsHeapButAbove}
use Rattle.nt_alarms.proofs.heap.rise.Given as goal

abbrev pub invariant-loop-at : goal.invariant-loop-at
invariant-loop-at l = record {
  places : AreRanked l.moments l.ranks l.places;
  in_range : l.at < l.armed;
  heap : IsHeapButAbove l.armed (alarm_ranked l.moments l.places) l.at;
  same : alarms_of l.armed l.moments l.ranks ≡ alarms_of l.armed l.initial.moments l.initial.ranks;
}

abbrev pub decreases-loop-at : goal.decreases-loop-at
decreases-loop-at l = l.at
