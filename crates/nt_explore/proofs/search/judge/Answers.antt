use Rattle.std.proofs.Common.{subst, sym, ℕ}
use Rattle.std.specs.Prelude.{Option}
use Rattle.nt_lanes.specs.Lanes.{beginning}
use Rattle.nt_explore.specs.Levels.{IsSearch, LiesAt}
use Rattle.nt_explore.proofs.Ways.{if_ok}
use Rattle.nt_explore.proofs.search.judge.Goals as goal

pub returns-in-Some-clause-told : goal.returns-in-Some-clause-told
returns-in-Some-clause-told c = if_ok _ _ c.judge_hang.result (λ verdict told plan kinds s search. told plan kinds s (subst (λ (f : Option ℕ). IsSearch plan kinds (beginning plan s) c.args.visits.now c.args.edges.now c.args.looked f) c.in-Some.is search)) c.judge_hang.ensures.told

pub returns-in-None-clause-told : goal.returns-in-None-clause-told
returns-in-None-clause-told c = if_ok _ _ c.judge_rest.result (λ verdict told plan kinds s search. told c.args.edges.now plan kinds s (subst (λ (f : Option ℕ). IsSearch plan kinds (beginning plan s) c.args.visits.now c.args.edges.now c.args.looked f) c.in-None.is search)) c.judge_rest.ensures.told

pub returns-in-Some-clause-whole : goal.returns-in-Some-clause-whole
returns-in-Some-clause-whole c = if_ok _ _ c.judge_hang.result (λ verdict told plan kinds s search. told plan kinds s (subst (λ (f : Option ℕ). IsSearch plan kinds (beginning plan s) c.args.visits.now c.args.edges.now c.args.looked f) c.in-Some.is search)) c.judge_hang.ensures.whole

pub returns-in-None-clause-whole : goal.returns-in-None-clause-whole
returns-in-None-clause-whole c = if_ok _ _ c.judge_rest.result (λ verdict told plan kinds s search all. told) c.judge_rest.ensures.whole

pub returns-in-Some-clause-level : goal.returns-in-Some-clause-level
returns-in-Some-clause-level c = if_ok _ _ c.judge_hang.result (λ verdict lies. subst (λ (f : Option ℕ). LiesAt c.args.visits.now c.args.looked f verdict) (sym c.in-Some.is) lies) c.judge_hang.ensures.level

pub returns-in-None-clause-level : goal.returns-in-None-clause-level
returns-in-None-clause-level c = if_ok _ _ c.judge_rest.result (λ verdict lies. subst (λ (f : Option ℕ). LiesAt c.args.visits.now c.args.looked f verdict) (sym c.in-None.is) lies) c.judge_rest.ensures.level
