use Rattle.std.proofs.Common.{sym, ◌∙◌, arith}
use Rattle.nt_alarms.proofs.HeapLemmas.{by_same, sunk, alarms_moved, ranked_swapped, swapped_same}
use Rattle.nt_alarms.proofs.heap.sink.Goals as goal

pub loop-below-preserved : goal.loop-below-preserved
loop-below-preserved c =
    let at = c.loop-below.at in
    let low = c.in-Some.below in
    let kept = c.loop-below.invariant in
    let count = kept.places.places_too in
    let in_range = c.in-Some.ensures.in_range in
    record {
      places = ranked_swapped _ _ _ _ _ at low kept.places (omega arith) (omega arith) c.swap.ensures.places c.swap.ensures.ranks
          c.swap.ensures.lengths.0 c.swap.ensures.lengths.1;
      in_range = in_range;
      heap = sunk _ _ _ at low kept.heap c.in-Some.ensures
          (by_same _ _ _ _ (c.precedes.ensures.no c.if-precedes.false) (sym c.ranked-in-Some.ensures) (sym c.ranked.ensures))
          (alarms_moved c.args.moments.now _ _ at low c.swap.ensures.places);
      same = swapped_same _ _ _ _ _ at low kept.places c.swap.ensures.lengths.0 kept.in_range in_range c.requires.few c.swap.ensures.ranks ∙ kept.same;
    }
