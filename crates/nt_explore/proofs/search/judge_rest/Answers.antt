use Rattle.std.proofs.Common.{◌<◌, arith, length, ◌≡◌, ◌+◌, ◌-◌, refl}
use Rattle.nt_lanes.specs.Lanes.{beginning}
use Rattle.nt_explore.proofs.Levels.{none_there, bound_there}
use Rattle.nt_explore.proofs.search.judge_rest.Goals as goal

pub returns-then-looked-visits-clause-told : goal.returns-then-looked-visits-clause-told
returns-then-looked-visits-clause-told c = λ edges plan kinds s search. none_there plan kinds s c.args.visits.now edges c.args.looked (let all = c.if-looked-visits.true in omega (arith, all)) search

pub returns-clause-told : goal.returns-clause-told
returns-clause-told c = λ edges plan kinds s search.
    let more : c.args.looked < length c.args.visits.now = let other = c.if-looked-visits.false in let within = c.requires.within in grind (arith, other, within) in
    let level : c.saturating_sub-level.result ≡ length c.in_ok-way.way.items - 1 = let one = c.saturating_sub-level.ensures in let two = c.len.ensures in grind (arith, one, two) in
    bound_there plan kinds s c.args.visits.now edges c.args.looked c.saturating_sub-level.result c.in_ok-way.way.items c.requires.some more level (λ point walk. c.in_ok-way.ensures.way plan (beginning plan s) point walk) search

pub returns-clause-level : goal.returns-clause-level
returns-clause-level c =
    let more : c.args.looked < length c.args.visits.now = let other = c.if-looked-visits.false in let within = c.requires.within in grind (arith, other, within) in
    let level : length c.in_ok-way.way.items ≡ c.saturating_sub-level.result + 1 = let one = c.saturating_sub-level.ensures in let two = c.len.ensures in let some = c.in_ok-way.ensures.some c.requires.some in grind (arith, one, two, some) in
    (refl, more, c.in_ok-way.way.items, level, c.in_ok-way.ensures.way)
