use Rattle.std.proofs.Common.{◌≡◌, Some, arith, length, subst, ℕ}
use Rattle.nt_lanes.specs.Lanes.{beginning}
use Rattle.nt_explore.specs.Levels.{IsSearch}
use Rattle.nt_explore.proofs.Ways.{if_ok}
use Rattle.nt_explore.proofs.search.loss_at.Goals as goal

pub returns-clause-told : goal.returns-clause-told
returns-clause-told c = if_ok _ _ c.first_loss.result (λ loss told first plan kinds s search.
    let all : c.args.looked ≡ length c.args.visits.now = let other = c.if-looked-visits.false in let within = search.1.within in grind (arith, other, within) in
    told first plan kinds s (subst (λ (n : ℕ). IsSearch plan kinds (beginning plan s) c.args.visits.now c.args.edges.now n first) all search)) c.first_loss.ensures.told

pub returns-then-looked-visits-clause-whole : goal.returns-then-looked-visits-clause-whole
returns-then-looked-visits-clause-whole c = λ h plan kinds s search all. let less = c.if-looked-visits.true in absurd (grind (arith, less, all))

pub returns-clause-whole : goal.returns-clause-whole
returns-clause-whole c = if_ok _ _ c.first_loss.result (λ loss told h plan kinds s search past.
    let all : c.args.looked ≡ length c.args.visits.now = let within = search.1.within in omega (arith, past, within) in
    told h plan kinds s (subst (λ (n : ℕ). IsSearch plan kinds (beginning plan s) c.args.visits.now c.args.edges.now n (Some h)) all search)) c.first_loss.ensures.whole
