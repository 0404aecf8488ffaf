use Rattle.std.proofs.Common.{sym}
use Rattle.nt_alarms.proofs.HeapLemmas.{by_same, but_above}
use Rattle.nt_alarms.proofs.heap.settle.Goals as goal

pub rise-requires-clause-heap : goal.rise-requires-clause-heap
rise-requires-clause-heap c =
    but_above _ _ c.args.rank c.requires.heap c.if-rank-gt0.true
    (by_same _ _ _ _ (c.precedes.ensures.yes c.if-precedes.true) (sym c.ranked.ensures) (sym c.ranked-then-rank-gt0.ensures))
