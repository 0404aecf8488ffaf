use Rattle.std.proofs.Common.{subst, Some, arith, refl, length}
use Rattle.nt_lanes.specs.Lanes.{beginning}
use Rattle.nt_explore.specs.Levels.{IsFirstLoss}
use Rattle.nt_explore.proofs.Levels.{loss_there, never_none}
use Rattle.nt_explore.proofs.loss.first_loss.Goals as goal

pub returns-clause-told : goal.returns-clause-told
returns-clause-told c = λ first plan kinds s search.
    let lost = c.in_ok-found.ensures plan kinds (beginning plan s) c.args.visits.now first search.0 refl search.1 search.2 in
    loss_there plan kinds s c.args.visits.now c.args.edges.now c.in-Some.state c.in-Some.thread c.in_ok-lanes.lanes.items c.reverse.new.self.items first search.0 c.reverse.ensures.items (c.in_ok-lanes.ensures.way plan (beginning plan s) search.0 search.1.walk) search.1 search.2
    (subst (IsFirstLoss plan search.0 (length c.args.visits.now) c.args.edges.now.threads) c.in-Some.is lost)

pub returns-in_default-clause-whole : goal.returns-in_default-clause-whole
returns-in_default-clause-whole c = λ h plan kinds s search. absurd (never_none plan kinds (beginning plan s) c.args.visits.now c.args.edges.now h search
    (subst (IsFirstLoss plan search.0 (length c.args.visits.now) c.args.edges.now.threads) c.in_default.is (c.in_ok-found.ensures plan kinds (beginning plan s) c.args.visits.now (Some h) search.0 refl search.1 search.2)))

pub returns-then-state-visits-clause-whole : goal.returns-then-state-visits-clause-whole
returns-then-state-visits-clause-whole c = λ h plan kinds s search.
    let lost = subst (IsFirstLoss plan search.0 (length c.args.visits.now) c.args.edges.now.threads) c.in-Some.is (c.in_ok-found.ensures plan kinds (beginning plan s) c.args.visits.now (Some h) search.0 refl search.1 search.2) in
    let there = lost.0 in let past = c.if-state-visits.true in absurd (grind (arith, there, past))
