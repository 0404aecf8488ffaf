use Rattle.nt_machine.specs.Dispatcher.{state}
use Rattle.nt_lanes.specs.Lanes.{beginning, point_of}
use Rattle.nt_explore.proofs.Walks.{lane_met}
use Rattle.nt_explore.proofs.Ways.{on_ok}
use Rattle.nt_explore.proofs.search.meet_next.Goals as goal

pub returns-clause-point : goal.returns-clause-point
returns-clause-point c = on_ok _ _ c.lead.result (λ added kinds p wide point walk here goes. lane_met c.args.plan.now kinds (beginning c.args.plan.now (state c.args.start.now)) c.args.met.now.visits.items c.meet.new.self.visits.items c.args.pairs.now.items c.lead.new.pairs.items p (point_of c.args.next.now) c.args.lane c.args.index c.in_ok-to.to wide added c.in_ok-to.ensures.point point walk here goes) c.lead.ensures
