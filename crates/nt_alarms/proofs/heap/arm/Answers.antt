use Rattle.std.proofs.Common.{refl, ◌∙◌, arith, length-set}
use Rattle.std.specs.Prelude.{slice_index}
use Rattle.nt_alarms.proofs.HeapLemmas.{armed_last, armed_still, armed_alarms}
use Rattle.nt_alarms.proofs.heap.arm.Goals as goal

pub rise-requires-clause-heap : goal.rise-requires-clause-heap
rise-requires-clause-heap c =
    armed_last c.args.armed _ _ c.requires.table.heap
    (λ r lt. armed_still c.args.armed _ _ _ _ c.args.place (slice_index c.args.ranks.now c.args.place) c.args.moment c.requires.table.sound c.requires.table.few
    c.requires.in_range refl c.requires.clear c.swap.ensures.places r lt)

pub returns-clause-set : goal.returns-clause-set
returns-clause-set c =
    c.rise.ensures.same
    ∙ armed_alarms c.args.armed _ _ _ _ c.args.place (slice_index c.args.ranks.now c.args.place) c.args.moment c.requires.table.sound c.swap.ensures.lengths.0
    c.requires.in_range refl c.requires.clear c.swap.ensures.ranks
