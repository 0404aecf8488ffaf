use Rattle.std.proofs.Common.{refl, ◌∙◌, arith}
use Rattle.nt_alarms.proofs.HeapLemmas.{alarms_moved, ranked_swapped, disarmed_at, disarmed_last, disarmed_alarms}
use Rattle.std.specs.Prelude.{slice_index, length, ◌<◌}
use Rattle.nt_alarms.proofs.heap.disarm.Goals as goal

pub settle-requires-clause-places : goal.settle-requires-clause-places
settle-requires-clause-places c =
    let rank = slice_index c.args.ranks.now c.args.place in
    let count = c.requires.table.sound.places_too in
    let few = c.requires.table.few in
    ranked_swapped _ _ _ _ _ rank c.args.left c.requires.table.sound (omega arith) (omega arith) c.swap.ensures.places c.swap.ensures.ranks
    c.swap.ensures.lengths.0 c.swap.ensures.lengths.1

pub settle-requires-clause-heap : goal.settle-requires-clause-heap
settle-requires-clause-heap c =
    let rank = slice_index c.args.ranks.now c.args.place in
    disarmed_at c.args.left _ _ rank c.requires.table.heap c.if-rank-left.true (alarms_moved c.args.moments.now _ _ rank c.args.left c.swap.ensures.places)

pub returns-then-rank-left-clause-cleared : goal.returns-then-rank-left-clause-cleared
returns-then-rank-left-clause-cleared c =
    c.settle.ensures.same
    ∙ disarmed_alarms c.args.left _ _ _ _ c.args.place _ c.requires.table.sound c.swap.ensures.lengths.0 c.requires.table.few c.requires.in_range refl
    c.requires.set c.swap.ensures.ranks

pub returns-else-rank-left-clause-table : goal.returns-else-rank-left-clause-table
returns-else-rank-left-clause-table c =
    let rank = slice_index c.args.ranks.now c.args.place in
    let count = c.requires.table.sound.places_too in
    let few = c.requires.table.few in
    let set = c.requires.set in
    record {
      sound = ranked_swapped _ _ _ _ _ rank c.args.left c.requires.table.sound (omega arith) (omega arith) c.swap.ensures.places c.swap.ensures.ranks
          c.swap.ensures.lengths.0 c.swap.ensures.lengths.1;
      few = omega arith;
      heap = disarmed_last c.args.left _ _ rank c.requires.table.heap (omega arith) (alarms_moved c.args.moments.now _ _ rank c.args.left c.swap.ensures.places);
    }

pub returns-else-rank-left-clause-cleared : goal.returns-else-rank-left-clause-cleared
returns-else-rank-left-clause-cleared c =
    disarmed_alarms c.args.left _ _ _ _ c.args.place _ c.requires.table.sound c.swap.ensures.lengths.0 c.requires.table.few c.requires.in_range refl
    c.requires.set c.swap.ensures.ranks
