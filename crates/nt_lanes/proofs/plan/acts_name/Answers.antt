use Rattle.std.proofs.Common.{◌∙◌}
use Rattle.nt_lanes.proofs.Adding.{any_tried}
use Rattle.nt_lanes.proofs.plan.acts_name.Goals as goal

pub returns : goal.returns
returns c = c.one_names.ensures ∙ any_tried c.args.handle c.args.acts.now
