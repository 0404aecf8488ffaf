use Rattle.std.proofs.Common.{◌≡◌, ◌-◌, sym, ap, ◌∙◌, arith, Some}
use Rattle.nt_schedule.specs.declared.tree.Node.{Node}
use Rattle.nt_schedule.specs.Tree.{after, node_at}
use Rattle.nt_schedule.proofs.Branches.{found_at, none_at}
use Rattle.nt_schedule.proofs.tree.next_branch.Goals as goal

pub returns-in-Some-clause-prefix : goal.returns-in-Some-clause-prefix
returns-in-Some-clause-prefix c =
    let bound = c.args.bound in
    let path = c.args.path.now in
    let at = c.loop-at.at - 1 in
    let found : after bound (node_at path at) ≡ Some c.in-Some.choice = ap (λ (node : Node). after bound node) (sym c.node_at.ensures) ∙ sym c.in-Some.ensures in
    sym (found_at bound path at c.in-Some.choice (omega arith) (λ k lt long. c.loop-at.invariant.none k (omega (arith, lt)) long) found)

pub returns-clause-prefix : goal.returns-clause-prefix
returns-clause-prefix c = sym (none_at c.args.bound c.args.path.now (λ k lt. c.loop-at.invariant.none k (omega arith) lt))
