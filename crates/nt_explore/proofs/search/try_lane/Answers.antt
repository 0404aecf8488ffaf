use Rattle.std.proofs.Common.{ap}
use Rattle.std.specs.Option.{option_map}
use Rattle.nt_machine.specs.Dispatcher.{state}
use Rattle.nt_lanes.specs.Lanes.{beginning, point_at, point_of}
use Rattle.nt_explore.proofs.Walks.{lane_never, lane_leads}
use Rattle.nt_explore.proofs.Ways.{on_ok}
use Rattle.nt_explore.proofs.search.try_lane.Goals as goal

pub returns-in-None-clause-point : goal.returns-in-None-clause-point
returns-in-None-clause-point c = λ point walk here. lane_never c.args.plan.now c.args.kinds.now.items (beginning c.args.plan.now (state c.args.start.now)) c.args.met.now.visits.items c.args.pairs.now.items (point_at c.args.position.now.places.items c.args.position.now.core) c.args.index c.args.lane (option_map point_of c.in_ok-next.next) (ap (option_map point_of) c.in-None.is) c.in_ok-next.ensures point walk

pub returns-in-Some-clause-point : goal.returns-in-Some-clause-point
returns-in-Some-clause-point c =
    let p = point_at c.args.position.now.places.items c.args.position.now.core in
    on_ok _ _ c.meet_next.result (λ told point walk here. told c.args.kinds.now.items p c.requires.wide point walk here (lane_leads c.args.plan.now c.args.kinds.now.items p (point_of c.in-Some.next) c.args.lane (option_map point_of c.in_ok-next.next) (ap (option_map point_of) c.in-Some.is) c.in_ok-next.ensures)) c.meet_next.ensures.point
