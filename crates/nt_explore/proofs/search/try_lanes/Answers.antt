use Rattle.std.proofs.Common.{◌≡◌, ℕ, arith, length, subst}
use Rattle.nt_machine.specs.Dispatcher.{state}
use Rattle.nt_lanes.specs.Lanes.{beginning, point_at}
use Rattle.nt_explore.specs.Walk.{Tries}
use Rattle.nt_explore.proofs.Walks.{tries_none, tries_more}
use Rattle.nt_explore.proofs.search.try_lanes.Goals as goal

pub loop-lane-init : goal.loop-lane-init
loop-lane-init c = (
  c.requires.table,
  omega arith,
  λ point walk here. tries_none c.args.plan.now c.args.kinds.now.items (beginning c.args.plan.now (state c.args.start.now)) c.args.met.now.visits.items c.args.pairs.now.items (point_at c.args.position.now.places.items c.args.position.now.core) c.args.index point walk,
)

pub loop-lane-preserved : goal.loop-lane-preserved
loop-lane-preserved c = (
  c.in_ok-try_lane.ensures.table,
  let one = c.loop-lane.invariant.1 in let two = c.in_ok-try_lane.ensures.longer in omega (arith, one, two),
  λ point walk here. tries_more c.args.plan.now c.args.kinds.now.items (beginning c.args.plan.now (state c.args.start.now)) c.args.met.now.visits.items c.loop-lane.met.visits.items c.try_lane.new.met.visits.items c.args.pairs.now.items c.loop-lane.pairs.items c.try_lane.new.pairs.items (point_at c.args.position.now.places.items c.args.position.now.core) c.loop-lane.lane c.args.index point c.requires.there here (c.loop-lane.invariant.2 point walk here) c.in_ok-try_lane.ensures.point,
)

pub returns-clause-point : goal.returns-clause-point
returns-clause-point c = λ point walk here.
    let all : c.loop-lane.lane ≡ length c.args.plan.now = let one = c.loop-lane.auto.lane-end in let two = c.loop-lane-test.false in let count = c.lanes-lane-end.ensures.count in omega (arith, one, two, count) in
    subst (λ (n : ℕ). Tries c.args.plan.now c.args.kinds.now.items (beginning c.args.plan.now (state c.args.start.now)) c.args.met.now.visits.items c.loop-lane.met.visits.items c.args.pairs.now.items c.loop-lane.pairs.items (point_at c.args.position.now.places.items c.args.position.now.core) c.args.index n point) all (c.loop-lane.invariant.2 point walk here)
