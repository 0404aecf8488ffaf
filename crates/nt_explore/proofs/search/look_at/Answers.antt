use Rattle.std.proofs.Common.{◌≡◌, ℕ, true, List, subst, sym, refl, arith}
use Rattle.std.specs.Prelude.{◌↔◌}
use Rattle.nt_machine.specs.Dispatcher.{state}
use Rattle.nt_explore.specs.declared.met.Visit.{Visit}
use Rattle.nt_lanes.specs.Lanes.{beginning, point_at, AreKinds, is_tried}
use Rattle.nt_explore.specs.Walk.{IsWalk}
use Rattle.nt_look.proofs.Searching.{for_good}
use Rattle.nt_look.specs.Orders.{Point, Hangs}
use Rattle.nt_apart.specs.Fewer.{IsLowestChosen}
use Rattle.nt_lanes.proofs.Bare.{lowest_tried}
use Rattle.nt_explore.proofs.Levels.{search_more}
use Rattle.nt_explore.proofs.Counting.{met_more}
use Rattle.nt_explore.proofs.search.look_at.Goals as goal

pub returns-clause-point : goal.returns-clause-point
returns-clause-point c =
    let plan = c.args.plan.now in
    let start = beginning plan (state c.args.start.now) in
    let old = c.args.met.now.visits.items in
    let new = c.try_lanes.new.met.visits.items in
    let kinds = c.args.kinds.now.items in
    let p = point_at c.in_ok-position.position.places.items c.in_ok-position.position.core in
    let alike : AreKinds plan c.in_ok-position.position.core.threads kinds = subst (λ (n : ℕ). AreKinds plan n kinds) (sym c.in_ok-position.ensures.threads) c.requires.alike in
    let least = lowest_tried c.in_ok-position.position.core c.in_ok-position.position.places.items plan kinds c.stands.ensures c.in_ok-position.ensures.wide alike in
    let is : (point : ℕ → Point) → IsWalk plan start old point → p ≡ point c.args.index =
    λ point walk. c.in_ok-position.ensures.point point (subst (λ (es : List Visit). IsWalk plan start es point) (sym c.deref.ensures.value) walk) in
    λ met so.
    let next = search_more plan kinds start old new c.args.edges.now (record { threads = c.args.edges.now.threads; pairs = c.try_lanes.new.pairs; waits = c.note_waits.new.waits }) c.args.index c.in_ok-hung.hung c.args.counts.now.first c.first_then-counts.result p c.requires.there refl
    is
    c.in_ok-hung.ensures
    (λ e. let good = for_good c.in_ok-position.position.core plan p c.stands.ensures refl (c.in_ok-hung.ensures.0 e) in (good.0, good.1))
    least
    c.in_ok-try_lanes.ensures.point
    c.in_ok-note_waits.ensures.row
    (λ t waits. let below = c.note_waits.ensures.known t waits in let same = c.in_ok-position.ensures.threads in omega (arith, below, same))
    c.first_then-counts.ensures
    so.0 in
    let told = subst (λ (z : Point). c.in_ok-hung.hung ≡ true ↔ Hangs plan z) (is so.0.0 so.0.1.walk) c.in_ok-hung.ensures in (
      (next.0.points, next.1, next.2, next.3),
      met_more plan kinds start old new c.args.edges.now.pairs.items c.try_lanes.new.pairs.items c.args.index c.args.counts.now.hangs c.one_more_if-counts.result c.in_ok-hung.hung so.0.0 met c.requires.there told c.one_more_if-counts.ensures (subst (λ (z : Point). IsLowestChosen plan z (is_tried kinds z)) (is so.0.0 so.0.1.walk) least) next.0 so.1,
    )
