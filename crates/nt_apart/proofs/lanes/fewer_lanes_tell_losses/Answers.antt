use Rattle.nt_apart.proofs.Chosen.{losses_by_chosen, losses_met_as_soon, lowest_come_as_soon}
use Rattle.nt_apart.proofs.lanes.fewer_lanes_tell_losses.Goals as goal

pub returns-clause-backwards : goal.returns-clause-backwards
returns-clause-backwards c = losses_by_chosen

pub returns-clause-met : goal.returns-clause-met
returns-clause-met c = losses_met_as_soon

pub returns-clause-within : goal.returns-clause-within
returns-clause-within c = lowest_come_as_soon
