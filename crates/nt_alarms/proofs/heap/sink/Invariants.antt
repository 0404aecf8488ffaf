use Rattle.std.proofs.Common.{◌≡◌, ◌<◌, ◌-◌}
use Rattle.nt_alarms.specs.Heap.{alarms_of, alarm_ranked, AreRanked, IsHeapButBelow}
use Rattle.nt_alarms.proofs.heap.sink.Given as goal

abbrev pub invariant-loop-below : goal.invariant-loop-below
invariant-loop-below l = record {
  places : AreRanked l.moments l.ranks l.places;
  in_range : l.at < l.armed;
  heap : IsHeapButBelow l.armed (alarm_ranked l.moments l.places) l.at;
  same : alarms_of l.armed l.moments l.ranks ≡ alarms_of l.armed l.initial.moments l.initial.ranks;
}

abbrev pub decreases-loop-below : goal.decreases-loop-below
decreases-loop-below l = l.armed - l.at
