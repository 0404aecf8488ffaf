use Rattle.std.proofs.Common.{Some}
use Rattle.nt_lanes.specs.Lanes.{beginning}
use Rattle.nt_explore.proofs.Levels.{hangs_there}
use Rattle.nt_explore.proofs.search.judge_hang.Goals as goal

pub returns-clause-told : goal.returns-clause-told
returns-clause-told c = λ plan kinds s search. (
  hangs_there plan kinds s c.args.visits.now c.args.edges.now c.args.looked c.args.first c.in_ok-lanes.lanes.items c.reverse.new.self.items c.reverse.ensures.items (λ point walk. c.in_ok-lanes.ensures.way plan (beginning plan s) point walk) search,
  c.in_ok-loss.ensures.told (Some c.args.first) plan kinds s search,
)

pub returns-clause-whole : goal.returns-clause-whole
returns-clause-whole c = λ plan kinds s search all. c.in_ok-loss.ensures.whole c.args.first plan kinds s search all
