use Rattle.std.proofs.Common.{refl, sym, ◌∙◌, arith, None}
use Rattle.std.proofs.lemmas.List.{get_or_past}
use Rattle.nt_alarms.proofs.HeapLemmas.{is_armed, is_not_armed, length-alarms}
use Rattle.nt_alarms.specs.Heap.{alarms_of}
use Rattle.nt_alarms.proofs.heap.moment_of.Goals as goal
use Rattle.nt_alarms.proofs.heap.moment_of.Goals.{else-place-moments-via-then-place-moments+else-ranks-place, else-place-moments-via-else-place-moments}

pub returns-then-ranks-place : goal.returns-then-ranks-place
returns-then-ranks-place c =
    sym (is_armed c.args.armed c.args.moments.now c.args.ranks.now c.args.place c.requires c.if-place-moments.true c.if-ranks-place.true)

pub returns-else-place-moments : goal.returns-else-place-moments
returns-else-place-moments c = elim c.else-place-moments.branch [
  | else-place-moments-via-then-place-moments+else-ranks-place w ↦
      sym (is_not_armed c.args.armed c.args.moments.now c.args.ranks.now c.args.place c.requires w.if-place-moments.true w.if-ranks-place.false)
  | else-place-moments-via-else-place-moments w ↦
      let count = length-alarms c.args.armed c.args.moments.now c.args.ranks.now c.requires in
      let past = w.if-place-moments.false in
      sym (get_or_past (alarms_of c.args.armed c.args.moments.now c.args.ranks.now) c.args.place None (omega arith))
]
