use Rattle.std.proofs.Common.{◌≡◌, arith, subst, ap, ℕ, List, length}
use Rattle.std.proofs.lemmas.List.{length_push}
use Rattle.nt_explore.specs.Walk.{lane_of}
use Rattle.nt_explore.proofs.Ways.{LeadsOn, leads_up, leads_end, parent_inside}
use Rattle.nt_explore.proofs.met.way_to.Goals as goal

pub loop-at-preserved : goal.loop-at-preserved
loop-at-preserved c =
    let inside = c.loop-at.invariant.0 in (
      parent_inside c.args.visits.now c.loop-at.at c.loop-at-test.true inside c.requires.behind,
      leads_up c.args.visits.now c.args.index c.loop-at.at c.loop-at.way.items c.push.new.self.items c.loop-at-test.true inside c.in_ok-push.ensures.items c.loop-at.invariant.1,
      λ less. let more = ap (λ (ls : List ℕ). length ls) c.in_ok-push.ensures.items in let count = length_push c.loop-at.way.items (lane_of c.args.visits.now c.loop-at.at) in omega (arith, more, count),
    )

pub returns-clause-way : goal.returns-clause-way
returns-clause-way c =
    let none : c.loop-at.at ≡ 0 = let past = c.loop-at-test.false in omega (arith, past) in
    leads_end c.args.visits.now c.args.index c.loop-at.way.items (subst (λ (k : ℕ). LeadsOn c.args.visits.now c.args.index k c.loop-at.way.items) none c.loop-at.invariant.1)

pub returns-clause-some : goal.returns-clause-some
returns-clause-some c = λ some. c.loop-at.invariant.2 (let past = c.loop-at-test.false in omega (arith, past, some))
