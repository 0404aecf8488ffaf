use Rattle.std.proofs.Common.{◌≡◌, ◌≤◌, ℕ, ap, rules, subst}
use Rattle.std.specs.Prelude.{vec_capacity}
use Rattle.nt_front.specs.Names.{Prepared}
use Rattle.nt_front.proofs.blank.make_rest.Goals as goal

pub returns-in-Ok-clause-passes : goal.returns-in-Ok-clause-passes
returns-in-Ok-clause-passes g c =
    let threads : c.blank.inside.threads ≡ c.args.blank.now.threads = ap (λ (b : Prepared). b.threads) c.blank.view_is in
    (c.in_ok-passes.ensures.items, subst (λ (t : ℕ). t ≤ vec_capacity c.in_ok-passes.passes) threads c.in_ok-passes.ensures.capacity)

pub returns-in-Ok-clause-base : goal.returns-in-Ok-clause-base
returns-in-Ok-clause-base g c = search rules
