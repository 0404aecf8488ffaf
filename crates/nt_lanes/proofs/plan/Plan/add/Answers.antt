use Rattle.std.proofs.Common.{◌<◌, ◌∙◌, [], ◌∷◌, ◌++◌, set, ap, arith, length}
use Rattle.nt_look.specs.Orders as orders
use Rattle.nt_look.specs.Orders.{asks}
use Rattle.nt_lanes.specs.Lanes.{asked}
use Rattle.nt_lanes.proofs.Adding.{lanes_added, lanes_kept, on_err}
use Rattle.nt_lanes.proofs.plan.Plan.add.Goals as goal

pub returns-in_err-push-clause-err : goal.returns-in_err-push-clause-err
returns-in_err-push-clause-err c = on_err _ c.from_residual.result (lanes_kept c.self.inside.lanes.items c.args.lane c.index_mut.result.now c.push.new.self c.index_mut.ensures.value c.in_err-push.ensures.items ∙ c.self.view_is)

pub returns-clause-ok : goal.returns-clause-ok
returns-clause-ok c =
    let within : c.args.lane < length c.self.inside.lanes.items = let below = c.if-lane-len.false in let count = c.len.ensures in grind (arith, below, count) in
    lanes_added c.self.inside.lanes.items c.args.lane c.index_mut.result.now c.push.new.self c.args.ask within c.index_mut.ensures.value c.in_ok-push.ensures.items
    ∙ ap (λ (p : orders.Plan). set p c.args.lane (asks p c.args.lane ++ asked c.args.ask ∷ [])) c.self.view_is
