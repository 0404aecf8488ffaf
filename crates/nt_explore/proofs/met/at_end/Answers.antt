use Rattle.std.proofs.Common.{◌≡◌, ◌∙◌, arith, subst, ℕ}
use Rattle.std.specs.Prelude.{drop}
use Rattle.nt_machine.specs.Dispatcher.{state}
use Rattle.nt_look.specs.Orders.{Point}
use Rattle.nt_lanes.specs.Lanes.{beginning, point_at}
use Rattle.nt_explore.specs.Walk.{Arrives}
use Rattle.nt_explore.proofs.Ways.{far_back, far_end}
use Rattle.nt_explore.proofs.met.at_end.Goals as goal

pub loop-left-preserved : goal.loop-left-preserved
loop-left-preserved c = (
  let inside = c.loop-left.invariant.0 in omega (arith, inside),
  c.in_ok-go_on.ensures.wide,
  c.go_on.ensures.threads ∙ c.loop-left.invariant.2,
  far_back c.args.plan.now (beginning c.args.plan.now (state c.args.start.now)) c.args.way.now (point_at c.loop-left.position.places.items c.loop-left.position.core) (point_at c.go_on.new.position.places.items c.go_on.new.position.core) c.loop-left.left c.loop-left-test.true c.loop-left.invariant.0 c.in_ok-go_on.ensures.point c.loop-left.invariant.3,
)

pub returns-clause-point : goal.returns-clause-point
returns-clause-point c =
    let start = beginning c.args.plan.now (state c.args.start.now) in
    let here = point_at c.loop-left.position.places.items c.loop-left.position.core in
    let none : c.loop-left.left ≡ 0 = let past = c.loop-left-test.false in omega (arith, past) in
    far_end c.args.plan.now start here c.args.way.now (subst (λ (k : ℕ). (q : Point) → Arrives c.args.plan.now start c.args.way.now q → Arrives c.args.plan.now start (drop k c.args.way.now) here) none c.loop-left.invariant.3)
