use Rattle.nt_lanes.specs.Lanes.{point_at}
use Rattle.nt_explore.proofs.Walks.{never_went}
use Rattle.nt_explore.proofs.search.next_of.Goals as goal

pub returns-else-branch : goal.returns-else-branch
returns-else-branch c = λ q goes. never_went c.args.plan.now (point_at c.args.position.now.places.items c.args.position.now.core) (point_at c.in_ok-next.next.places.items c.in_ok-next.next.core) _ c.args.lane c.in_ok-go.field-0 c.if-branch.false c.in_ok-next.ensures.point c.in_ok-go.ensures.point q goes.1
