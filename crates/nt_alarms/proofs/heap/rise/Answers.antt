use Rattle.std.proofs.Common.{sym, ◌∙◌, ◌-◌, ◌/◌, arith}
use Rattle.nt_alarms.specs.Heap.{above}
use Rattle.nt_alarms.proofs.HeapLemmas.{by_same, risen, risen_enough, alarms_moved, ranked_swapped, swapped_same}
use Rattle.nt_alarms.proofs.heap.rise.Goals as goal

pub returns-then-precedes-clause-heap : goal.returns-then-precedes-clause-heap
returns-then-precedes-clause-heap c =
    risen_enough _ _ c.loop-at.at c.loop-at.invariant.heap
    (by_same _ _ _ _ (c.precedes.ensures.yes c.if-precedes.true) (sym c.ranked.ensures) (sym c.ranked-in-loop-at.ensures))

pub loop-at-preserved : goal.loop-at-preserved
loop-at-preserved c =
    let at = c.loop-at.at in
    let kept = c.loop-at.invariant in
    let count = kept.places.places_too in
    record {
      places = ranked_swapped _ _ _ _ _ (above at) at kept.places (omega arith) (omega arith) c.swap.ensures.places c.swap.ensures.ranks
          c.swap.ensures.lengths.0 c.swap.ensures.lengths.1;
      in_range = omega arith;
      heap = risen _ _ _ at kept.heap c.loop-at-test.true kept.in_range
          (by_same _ _ _ _ (c.precedes.ensures.no c.if-precedes.false) (sym c.ranked-in-loop-at.ensures) (sym c.ranked.ensures))
          (alarms_moved c.args.moments.now _ _ (above at) at c.swap.ensures.places);
      same = swapped_same _ _ _ _ _ (above at) at kept.places c.swap.ensures.lengths.0 (omega arith) kept.in_range c.requires.few c.swap.ensures.ranks ∙ kept.same;
    }
