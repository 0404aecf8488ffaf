use Rattle.std.proofs.Common.{◌≤◌, ℕ, subst}
use Rattle.nt_status.specs.declared.limits.TheConstants.{MAX_MOMENT}
use Rattle.nt_explore.proofs.going.tick.Goals as goal

pub returns-clause-made : goal.returns-clause-made
returns-clause-made c =
    let known = subst (λ (n : ℕ). n ≤ MAX_MOMENT) c.get-units.ensures.value c.get-units.ensures.limit in
    (c.tick-answer.result, c.tick-answer.new.self.grants, c.tick-answer.ensures.ticked, known)

pub returns-clause-threads : goal.returns-clause-threads
returns-clause-threads c = (c.tick-answer.ensures.moves c.args.thread).threads
