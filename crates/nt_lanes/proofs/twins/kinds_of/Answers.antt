use Rattle.std.proofs.Common.{ℕ, List, arith, ap, length}
use Rattle.std.proofs.lemmas.List.{length_push}
use Rattle.nt_lanes.proofs.Adding.{kinds_more}
use Rattle.nt_lanes.proofs.twins.kinds_of.Goals as goal

pub loop-lane-preserved : goal.loop-lane-preserved
loop-lane-preserved c = (
  let more = ap (λ (ls : List ℕ). length ls) c.in_ok-push.ensures.items in
      let one = length_push c.loop-lane.kinds.items c.twin_of.result in
      let old = c.loop-lane.invariant.0 in omega (arith, more, one, old),
  kinds_more c.args.plan.now c.loop-lane.kinds.items c.push.new.self.items c.twin_of.result c.loop-lane.lane c.in_ok-push.ensures.items c.loop-lane.invariant.0 c.twin_of.ensures c.loop-lane.invariant.1,
)
