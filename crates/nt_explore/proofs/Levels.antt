-- What a search has come to, level by level.
use Rattle.std.proofs.Common.{mul_comm, ◌≡◌, ◌<◌, ◌≤◌, ℕ, ◌+◌, ◌*◌, ◌-◌, Contains, Bool, true, false, List, [], length, refl, sym, ap, ◌∙◌, subst, arith, Option, Some, None, ltb, inl, inr, ◌⊎◌}
use Rattle.std.specs.Prelude.{reverse, ◌↔◌}
use Rattle.std.proofs.lemmas.Bool.{false≢true}
use Rattle.std.proofs.lemmas.Bool.Decides.{nat_tests}
use Rattle.std.proofs.lemmas.List.{length-reverse}
use Rattle.nt_calls.specs.State.{State}
use Rattle.std.proofs.lemmas.Nat.{mul-add-lt, rows}
use Rattle.nt_calls.specs.State.{pends}
use Rattle.nt_look.specs.Hangs.{marked}
use Rattle.nt_look.specs.Orders.{Plan, Point, Goes, Hangs, IsLost, NoneHangs, NoneHangsWithin, IsShortestHang, IsShortestLoss, steps, place}
use Rattle.nt_look.proofs.Searching.{lane_there}
use Rattle.nt_apart.specs.Fewer.{IsLowestChosen, LosesOne}
use Rattle.nt_explore.specs.declared.met.Visit.{Visit}
use Rattle.nt_lanes.specs.Lanes.{TriedGoes, is_tried, beginning}
use Rattle.nt_explore.specs.Walk.{parent_of, lane_of, IsWalk, HasPoint, Tries, Arrives}
use Rattle.nt_explore.specs.declared.loss.Edge.{Edge}
use Rattle.nt_explore.specs.declared.loss.Edges.{Edges}
use Rattle.nt_explore.specs.Levels.{IsFirst, AreLooked, AreEdges, IsEdge, IsRow, IsColumn, IsFirstMark, IsFirstLost, IsFirstLoss, IsLostThere, IsSearch, AreMet, IsCounted, first_then, passed}
use Rattle.nt_explore.proofs.Losing.{below_or, AreOnward, lost_forth, lost_back, passed_tells, length_passed}
use Rattle.nt_explore.proofs.Walks.{deeper, one_visit}
use Rattle.nt_explore.proofs.Ways.{order_of, begins_wide, before_of, come_before, comes_to_loss, counted, none_hangs, none_within, shortest, depth_of}
use Rattle.nt_explore.proofs.Counting.{met_begins}

-- ---- the start

pub begins : (plan : Plan) (kinds : List ℕ) (s : State) → AreLooked plan kinds (beginning plan s) one_visit 0 None (λ i. beginning plan s)
begins plan kinds s = record {
  walk = record {
    some = omega arith;
    first = refl;
    behind = λ i some below. absurd (omega (arith, some, below));
    wide = λ i below. begins_wide plan s;
    came = λ i some below. absurd (omega (arith, some, below));
    hashed = λ i some below. absurd (omega (arith, some, below));
    differ = λ i j first below. absurd (omega (arith, first, below));
  };
  within = omega arith;
  rising = λ i j before below. omega arith;
  near = λ j more below. omega arith;
  closed = λ i lane q below. absurd (omega (arith, below));
  lowest = λ i below. absurd (omega (arith, below));
  told = λ i below. absurd (omega (arith, below));
}

-- ---- one point more is looked at

first_more : (plan : Plan) (point points : ℕ → Point) (looked : ℕ) (hung : Bool) (first : Option ℕ) → ((i : ℕ) → i < looked + 1 → points i ≡ point i) → (hung ≡ true ↔ Hangs plan (point looked)) → IsFirst plan point looked first → IsFirst plan points (looked + 1) (first_then hung looked first)
first_more plan point points looked true None same told none = (
  omega arith,
  subst (Hangs plan) (sym (same looked (omega arith))) (told.0 refl),
  λ i below hangs. none i below (subst (Hangs plan) (same i (omega (arith, below))) hangs),
)
first_more plan point points looked false None same told none = λ i below hangs. go i (subst (Hangs plan) (same i below) hangs) (below_or i looked below)
  where
    go : (i : ℕ) → Hangs plan (point i) → (i < looked) ⊎ (i ≡ looked) → ⊥
    go i hangs (inl before) = none i before hangs
    go i hangs (inr last) = false≢true (told.1 (subst (λ (k : ℕ). Hangs plan (point k)) last hangs))
first_more plan point points looked hung (Some h) same told is = (
  let before = is.0 in omega (arith, before),
  let before = is.0 in subst (Hangs plan) (sym (same h (omega (arith, before)))) is.1,
  λ i below hangs. let before = is.0 in is.2 i below (subst (Hangs plan) (same i (omega (arith, below, before))) hangs),
)

pub look_more : (plan : Plan) (kinds : List ℕ) (start : Point) (old new : List Visit) (looked : ℕ) (hung : Bool) (first : Option ℕ) (point : ℕ → Point) → AreLooked plan kinds start old looked first point → looked < length old → (hung ≡ true ↔ Hangs plan (point looked)) → IsLowestChosen plan (point looked) (is_tried kinds (point looked)) → (pairs more : List Edge) → (tries : Tries plan kinds start old new pairs more (point looked) looked (length plan) point) → AreLooked plan kinds start new (looked + 1) (first_then hung looked first) tries.points
look_more plan kinds start old new looked hung first point so within told least pairs more tries = record {
  walk = tries.grows.walk;
  within = omega (arith, within, longer);
  rising = rising;
  near = λ j more below.
      let up = rising looked (looked + 1) (omega arith) more in
      let at = ap (λ (p : Point). steps p.at) (same looked within) in
      let close = near j below in
      omega (arith, up, at, close);
  closed = λ i lane q below goes. closed i lane q goes (below_or i looked below);
  lowest = λ i below. lowest i (below_or i looked below);
  told = first_more plan point tries.points looked hung first (λ i below. same i (omega (arith, below, within))) told so.told;
}
  where
    longer : length old ≤ length new
    longer = tries.grows.longer

    same : (i : ℕ) → i < length old → tries.points i ≡ point i
    same = tries.grows.same

    depth : (i : ℕ) → i < length old → steps (tries.points i).at ≡ steps (point i).at
    depth i below = ap (λ (p : Point). steps p.at) (same i below)

    near : (j : ℕ) → j < length new → steps (tries.points j).at ≤ steps (point looked).at + 1
    near j below = go (ltb j (length old)) refl
      where
        go : (b : Bool) → ltb j (length old) ≡ b → steps (tries.points j).at ≤ steps (point looked).at + 1
        go true e =
            let inside : j < length old = grind (arith, nat_tests, e) in
            let close = so.near j within inside in let at = depth j inside in omega (arith, close, at)
        go false e = let at = tries.deep j (grind (arith, nat_tests, e)) below in omega (arith, at)

    rising : (i j : ℕ) → i ≤ j → j < length new → steps (tries.points i).at ≤ steps (tries.points j).at
    rising i j before below = go (ltb j (length old)) refl
      where
        go : (b : Bool) → ltb j (length old) ≡ b → steps (tries.points i).at ≤ steps (tries.points j).at
        go true e =
            let inside : j < length old = grind (arith, nat_tests, e) in
            let up = so.rising i j before inside in
            let a = depth i (omega (arith, before, inside)) in let b = depth j inside in omega (arith, up, a, b)
        go false e =
            let at = tries.deep j (grind (arith, nat_tests, e)) below in
            let close = near i (omega (arith, before, below)) in omega (arith, at, close)

    lowest : (i : ℕ) → (i < looked) ⊎ (i ≡ looked) → IsLowestChosen plan (tries.points i) (is_tried kinds (tries.points i))
    lowest i (inl less) = subst (λ (p : Point). IsLowestChosen plan p (is_tried kinds p)) (sym (same i (omega (arith, less, within)))) (so.lowest i less)
    lowest i (inr is) = subst (λ (p : Point). IsLowestChosen plan p (is_tried kinds p)) (sym (ap tries.points is ∙ same looked within)) least

    closed : (i lane : ℕ) (q : Point) → TriedGoes plan kinds (tries.points i) lane q → (i < looked) ⊎ (i ≡ looked) → HasPoint new tries.points q
    closed i lane q goes (inl before) =
        let has = so.closed i lane q before (subst (λ (p : Point). TriedGoes plan kinds p lane q) (same i (omega (arith, before, within))) goes) in
        let inside = has.1 in
        (has.0, omega (arith, inside, longer), same has.0 has.1 ∙ has.2)
    closed i lane q goes (inr last) =
        let here : TriedGoes plan kinds (point looked) lane q = subst (λ (p : Point). TriedGoes plan kinds p lane q) (ap tries.points last ∙ same looked within) goes in
        tries.tried lane q (lane_there plan lane (place (point looked) lane) here.1.ask here.1.next) here

-- ---- the search goes on

edges_more : (plan : Plan) (kinds : List ℕ) (start : Point) (old new : List Visit) (threads looked : ℕ) (pairs more : List Edge) (waits row : List Bool) (point : ℕ → Point)
    → IsWalk plan start old point
    → looked < length old
    → AreEdges plan kinds threads pairs waits looked (length old) point
    → (tries : Tries plan kinds start old new pairs more (point looked) looked (length plan) point)
    → IsRow waits row threads (point looked).state
    → ((t : ℕ) → pends (point looked).state t ≡ true → t < start.state.threads)
    → AreEdges plan kinds threads more row (looked + 1) (length new) tries.points
edges_more plan kinds start old new threads looked pairs more waits row point walk within so tries noted known = record {
  goes = λ e has. goes e (tries.leads.goes e has);
  rises = tries.leads.rises so.rises (λ e has. let it = (so.goes e has).0 in omega (arith, it));
  all = λ i lane q below goes. all i lane q goes (below_or i looked below);
  first = ap (λ (p : Point). p.state.threads) (same 0 walk.some) ∙ so.first;
  count = let one = noted.count in let two = so.count in grind (arith, one, two, rows);
  told = λ i t below inside. told i t inside (below_or i looked below);
  known = λ i t below waits. there i t waits (below_or i looked below);
}
  where
    points : ℕ → Point
    points = tries.points

    longer : length old ≤ length new
    longer = tries.grows.longer

    same : (i : ℕ) → i < length old → tries.points i ≡ point i
    same = tries.grows.same

    goes : (e : Edge) → Contains pairs e ⊎ ((e.from ≡ looked) × (e.to < length new) × (lane : ℕ) × Goes plan (point looked) lane (tries.points e.to)) → IsEdge plan tries.points (looked + 1) (length new) e
    goes e (inl has) =
        let it = so.goes e has in
        let from = it.0 in let to = it.1 in (
          omega (arith, from),
          omega (arith, to, longer),
          it.2,
          subst (λ (p : Point). Goes plan p it.2 (tries.points e.to)) (sym (same e.from (omega (arith, from, within)))) (subst (λ (p : Point). Goes plan (point e.from) it.2 p) (sym (same e.to it.1)) it.3),
        )
    goes e (inr it) =
        let from = it.0 in (
          omega (arith, from),
          it.1,
          it.2,
          subst (λ (p : Point). Goes plan p it.2 (tries.points e.to)) (sym (ap tries.points it.0 ∙ same looked within)) it.3,
        )

    all : (i lane : ℕ) (q : Point) → TriedGoes plan kinds (tries.points i) lane q → (i < looked) ⊎ (i ≡ looked) → (e : Edge) × Contains more e × (e.from ≡ i) × (tries.points e.to ≡ q)
    all i lane q goes (inl before) =
        let it = so.all i lane q before (subst (λ (p : Point). TriedGoes plan kinds p lane q) (same i (omega (arith, before, within))) goes) in
        let to = (so.goes it.0 it.1).1 in
        (it.0, tries.leads.kept it.0 it.1, it.2, same it.0.to to ∙ it.3)
    all i lane q goes (inr last) =
        let here : TriedGoes plan kinds (point looked) lane q = subst (λ (p : Point). TriedGoes plan kinds p lane q) (ap tries.points last ∙ same looked within) goes in
        let it = tries.leads.all lane q (lane_there plan lane (place (point looked) lane) here.1.ask here.1.next) here in
        (it.0, it.1, it.2 ∙ sym last, it.4)

    told : (i t : ℕ) → t < threads → (i < looked) ⊎ (i ≡ looked) → marked row (i * threads + t) ≡ pends (tries.points i).state t
    told i t inside (inl before) =
        let count = so.count in
        let low = mul-add-lt i threads t looked before inside in
        noted.before (i * threads + t) (omega (arith, low, count)) ∙ (so.told i t before inside ∙ ap (λ (p : Point). pends p.state t) (sym (same i (omega (arith, before, within)))))
    told i t inside (inr last) =
        let count = so.count in
        let at : i * threads + t ≡ length waits + t = ap (λ (k : ℕ). k * threads + t) last ∙ ap (λ (k : ℕ). k + t) (mul_comm looked threads ∙ sym count) in
        ap (marked row) at ∙ (noted.row t inside ∙ ap (λ (p : Point). pends p.state t) (sym (ap tries.points last ∙ same looked within)))

    there : (i t : ℕ) → pends (tries.points i).state t ≡ true → (i < looked) ⊎ (i ≡ looked) → t < threads
    there i t waits (inl before) = so.known i t before (subst (λ (p : Point). pends p.state t ≡ true) (same i (omega (arith, before, within))) waits)
    there i t waits (inr last) =
        let below = known t (subst (λ (p : Point). pends p.state t ≡ true) (ap tries.points last ∙ same looked within) waits) in
        let start' = ap (λ (p : Point). p.state.threads) walk.first in
        let first = so.first in
        omega (arith, below, start', first)

lost_more : (plan : Plan) (point points : ℕ → Point) (looked : ℕ) (hung : Bool) (first : Option ℕ) → ((i : ℕ) → i < looked + 1 → points i ≡ point i) → (hung ≡ true → (t : ℕ) × IsLost plan (point looked) t) → IsFirst plan point looked first → IsLostThere plan point first → IsLostThere plan points (first_then hung looked first)
lost_more plan point points looked true None same gone told lost = let it = gone refl in (it.0, subst (λ (p : Point). IsLost plan p it.0) (sym (same looked (omega arith))) it.1)
lost_more plan point points looked false None same gone told lost = tt
lost_more plan point points looked hung (Some h) same gone told lost = let before = told.0 in (lost.0, subst (λ (p : Point). IsLost plan p lost.0) (sym (same h (omega (arith, before)))) lost.1)

pub search_more : (plan : Plan) (kinds : List ℕ) (start : Point) (old new : List Visit) (edges more : Edges) (looked : ℕ) (hung : Bool) (first last : Option ℕ) (p : Point) → looked < length old
    → more.threads ≡ edges.threads
    → ((point : ℕ → Point) → IsWalk plan start old point → p ≡ point looked)
    → (hung ≡ true ↔ Hangs plan p)
    → (hung ≡ true → (t : ℕ) × IsLost plan p t)
    → IsLowestChosen plan p (is_tried kinds p)
    → ((point : ℕ → Point) → IsWalk plan start old point → point looked ≡ p → Tries plan kinds start old new edges.pairs.items more.pairs.items p looked (length plan) point)
    → IsRow edges.waits.items more.waits.items edges.threads p.state
    → ((t : ℕ) → pends p.state t ≡ true → t < start.state.threads)
    → last ≡ first_then hung looked first → (search : IsSearch plan kinds start old edges looked first)
    → (tries : Tries plan kinds start old new edges.pairs.items more.pairs.items (search.0 looked) looked (length plan) search.0)
    × AreLooked plan kinds start new (looked + 1) last tries.points
    × AreEdges plan kinds more.threads more.pairs.items more.waits.items (looked + 1) (length new) tries.points
    × IsLostThere plan tries.points last
search_more plan kinds start old new edges more looked hung first last p below threads is told gone least tries noted known becomes search =
    let point : ℕ → Point = search.0 in
    let so = search.1 in
    let here = is point so.walk in
    let tried = subst (λ (z : Point). Tries plan kinds start old new edges.pairs.items more.pairs.items z looked (length plan) point) here (tries point so.walk (sym here)) in (
      tried,
      subst (λ (f : Option ℕ). AreLooked plan kinds start new (looked + 1) f tried.points) (sym becomes) (look_more plan kinds start old new looked hung first point so below (subst (λ (z : Point). hung ≡ true ↔ Hangs plan z) here told) (subst (λ (z : Point). IsLowestChosen plan z (is_tried kinds z)) here least) edges.pairs.items more.pairs.items tried),
      subst (λ (n : ℕ). AreEdges plan kinds n more.pairs.items more.waits.items (looked + 1) (length new) tried.points) (sym threads)
          (edges_more plan kinds start old new edges.threads looked edges.pairs.items more.pairs.items edges.waits.items more.waits.items point so.walk below search.2 tried (subst (λ (z : Point). IsRow edges.waits.items more.waits.items edges.threads z.state) here noted) (subst (λ (z : Point). (t : ℕ) → pends z.state t ≡ true → t < start.state.threads) here known)),
      subst (IsLostThere plan tried.points) (sym becomes) (lost_more plan point tried.points looked hung first (λ i less. tried.grows.same i (omega (arith, less, below))) (subst (λ (z : Point). hung ≡ true → (t : ℕ) × IsLost plan z t) here gone) so.told search.3),
    )

pub search_begins : (plan : Plan) (kinds : List ℕ) (s : State) (edges : Edges) → edges.threads ≡ s.threads → edges.pairs.items ≡ [] → edges.waits.items ≡ [] → IsCounted plan kinds (beginning plan s) one_visit edges 0 (record { hangs = 0; first = None }) (λ i. 1)
search_begins plan kinds s edges threads pairs waits = (
  (
    (λ i. beginning plan s),
    begins plan kinds s,
    subst (λ (es : List Edge). AreEdges plan kinds edges.threads es edges.waits.items 0 1 (λ i. beginning plan s)) (sym pairs) (subst (λ (ws : List Bool). AreEdges plan kinds edges.threads [] ws 0 1 (λ i. beginning plan s)) (sym waits) (record {
      goes = λ e (k, below, is). absurd (omega (arith, below));
      rises = tt;
      all = λ i lane q below. absurd (omega (arith, below));
      first = sym threads;
      count = grind (arith, rows);
      told = λ i t below. absurd (omega (arith, below));
      known = λ i t below. absurd (omega (arith, below));
    })),
    tt,
  ),
  subst (λ (n : ℕ). AreMet plan kinds (beginning plan s) 0 1 n 0 (λ i. beginning plan s) (λ i. 1)) (sym (ap (λ (es : List Edge). length es) pairs)) (met_begins plan kinds s),
)

-- ---- what it has come to

pub hangs_there : (plan : Plan) (kinds : List ℕ) (s : State) (visits : List Visit) (edges : Edges) (looked h : ℕ) (way lanes : List ℕ) → lanes ≡ reverse way → ((point : ℕ → Point) → IsWalk plan (beginning plan s) visits point → Arrives plan (beginning plan s) way (point h)) → IsSearch plan kinds (beginning plan s) visits edges looked (Some h) → IsShortestHang plan (beginning plan s) lanes
hangs_there plan kinds s visits edges looked h way lanes is came search = subst (IsShortestHang plan (beginning plan s)) (sym is) (shortest plan kinds s visits looked h way search.0 search.1 (came search.0 search.1.walk))

pub none_there : (plan : Plan) (kinds : List ℕ) (s : State) (visits : List Visit) (edges : Edges) (looked : ℕ) → length visits ≤ looked → IsSearch plan kinds (beginning plan s) visits edges looked None → NoneHangs plan (beginning plan s)
none_there plan kinds s visits edges looked all search = none_hangs plan kinds s visits looked search.0 search.1 all

pub bound_there : (plan : Plan) (kinds : List ℕ) (s : State) (visits : List Visit) (edges : Edges) (looked level : ℕ) (way : List ℕ) → 0 < looked → looked < length visits → level ≡ length way - 1 → ((point : ℕ → Point) → IsWalk plan (beginning plan s) visits point → Arrives plan (beginning plan s) way (point looked)) → IsSearch plan kinds (beginning plan s) visits edges looked None → NoneHangsWithin plan (beginning plan s) level
bound_there plan kinds s visits edges looked level way some more is came search =
    let point : ℕ → Point = search.0 in
    let walk = search.1.walk in
    let deep = depth_of plan s way (point looked) (came point walk) in
    let count = length-reverse way in
    let before = walk.behind looked some more in
    let one = deeper plan (point (parent_of visits looked)) (point looked) (lane_of visits looked) (walk.wide (parent_of visits looked) (omega (arith, before, more))) (walk.came looked some more) in
    none_within plan kinds s visits looked level point search.1 more (omega (arith, deep, count, one, is))

-- ---- since when a wait was lost

onward : (plan : Plan) (kinds : List ℕ) (start : Point) (visits : List Visit) (threads looked : ℕ) (pairs : List Edge) (waits : List Bool) (first : Option ℕ) (point : ℕ → Point) → AreLooked plan kinds start visits looked first point → AreEdges plan kinds threads pairs waits looked (length visits) point → AreOnward plan point (length visits) pairs
onward plan kinds start visits threads looked pairs waits first point so edges e has =
    let it = edges.goes e has in
    let from = it.0 in
    let within = so.within in
    let one = deeper plan (point e.from) (point e.to) it.2 (so.walk.wide e.from (omega (arith, from, within))) it.3 in
    (before_of visits point e.from e.to so.rising (omega (arith, from, within)) (omega (arith, one)), it.1, it.2, it.3)

-- what the marks of a thread tell
lost_told : (plan : Plan) (kinds : List ℕ) (start : Point) (visits : List Visit) (threads t : ℕ) (pairs : List Edge) (waits column : List Bool) (first : Option ℕ) (point : ℕ → Point) → t < threads → AreLooked plan kinds start visits (length visits) first point → AreEdges plan kinds threads pairs waits (length visits) (length visits) point → IsColumn waits column threads (length visits) t
    → (i : ℕ) → i < length visits → (marked (passed pairs column) i ≡ true) ↔ IsLost plan (point i) t
lost_told plan kinds start visits threads t pairs waits column first point inside so edges row i below =
    let on = onward plan kinds start visits threads (length visits) pairs waits first point so edges in
    let it = passed_tells plan kinds point (length visits) t 0 pairs column so.lowest row.count (λ j there. row.told j there ∙ edges.told j t there inside) edges.rises on (λ j lane q low there goes. edges.all j lane q there goes) (λ e has. omega arith) i below in (
      λ m. lost_forth plan kinds point (length visits) t 0 pairs i so.lowest (λ j lane q low there goes. edges.all j lane q there goes) (omega arith) below (it.0 m),
      λ lost. it.1 (lost_back plan point (length visits) t pairs i on lost),
    )

pub first_told : (plan : Plan) (kinds : List ℕ) (start : Point) (visits : List Visit) (threads states t : ℕ) (pairs : List Edge) (waits column : List Bool) (first found : Option ℕ) (point : ℕ → Point) → t < threads → (length waits ≡ threads * states → IsColumn waits column threads states t) → IsFirstMark (passed pairs column) found
    → length visits ≡ states → AreLooked plan kinds start visits states first point → AreEdges plan kinds threads pairs waits states states point → IsFirstLost plan point states t found
first_told plan kinds start visits threads states t pairs waits column first found point inside row mark count so edges = go found mark
  where
    told : (i : ℕ) → i < states → (marked (passed pairs column) i ≡ true) ↔ IsLost plan (point i) t
    told = subst (λ (n : ℕ). AreLooked plan kinds start visits n first point → AreEdges plan kinds threads pairs waits n n point → IsColumn waits column threads n t → (i : ℕ) → i < n → (marked (passed pairs column) i ≡ true) ↔ IsLost plan (point i) t) count
        (lost_told plan kinds start visits threads t pairs waits column first point inside) so edges (row edges.count)

    go : (found : Option ℕ) → IsFirstMark (passed pairs column) found → IsFirstLost plan point states t found
    go None none = λ j below lost. false≢true (sym (none j) ∙ (told j below).1 lost)
    go (Some h) it =
        let there : h < states = let top = it.0 in let same = length_passed pairs column in let count = (row edges.count).count in omega (arith, top, same, count) in (
          there,
          (told h there).0 it.1,
          λ j below lost. false≢true (sym (it.2 j below) ∙ (told j (omega (arith, below, there))).1 lost),
        )

pub loss_there : (plan : Plan) (kinds : List ℕ) (s : State) (visits : List Visit) (edges : Edges) (h t : ℕ) (way lanes : List ℕ) (first : Option ℕ) (point : ℕ → Point) → lanes ≡ reverse way → Arrives plan (beginning plan s) way (point h)
    → AreLooked plan kinds (beginning plan s) visits (length visits) first point → AreEdges plan kinds edges.threads edges.pairs.items edges.waits.items (length visits) (length visits) point
    → IsFirstLoss plan point (length visits) edges.threads (Some (h, t)) → IsShortestLoss plan (beginning plan s) lanes t
loss_there plan kinds s visits edges h t way lanes first point is came so told lost =
    let order = order_of plan (beginning plan s) way (point h) came in
    let deep = counted plan s (reverse way) (point h) order in
    let top = lost.0 in
    subst (λ (ls : List ℕ). IsShortestLoss plan (beginning plan s) ls t) (sym is) (record {
      point = point h;
      order = order;
      lost = lost.1;
      least = λ others p u short order' gone.
          let has = come_before plan kinds s visits (length visits) h first point (LosesOne plan) so (omega (arith, top)) top others (omega (arith, short, deep)) (comes_to_loss plan kinds (beginning plan s) others p order' (u, gone)) in
          let before = has.1 in
          let v = has.2.0 in
          let gone' : IsLost plan (point has.0) v = has.2.1 in
          lost.2 has.0 v has.1 (told.known has.0 v (omega (arith, before, top)) (gone' [] (point has.0) refl)) gone';
    })

-- a hang loses a wait, so that there is a first loss
pub never_none : (plan : Plan) (kinds : List ℕ) (start : Point) (visits : List Visit) (edges : Edges) (h : ℕ) (search : IsSearch plan kinds start visits edges (length visits) (Some h)) → IsFirstLoss plan search.0 (length visits) edges.threads None → ⊥
never_none plan kinds start visits edges h search none =
    let there = search.1.told.0 in
    let lost = search.3 in
    none h lost.0 there (search.2.known h lost.0 there (lost.1 [] (search.0 h) refl)) lost.1
