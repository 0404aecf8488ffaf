-- Ways back to the start, and what an order comes to.
use Rattle.std.proofs.Common.{◌≡◌, ◌<◌, ◌≤◌, ℕ, zero, suc, ◌+◌, ◌-◌, List, [], ◌∷◌, ◌++◌, length, refl, sym, ap, ◌∙◌, subst, arith, get_or, Bool, true, false, Option, Some, None, ltb}
use Rattle.std.specs.Prelude.{drop, reverse, Result, Ok, Err, IfOk, OnOk}
use Rattle.nt_look.specs.Orders.{Plan, Point, Goes, Order, Hangs, NoneHangs, NoneHangsWithin, IsShortestHang, steps}
use Rattle.std.proofs.lemmas.List.{append_assoc, append-nil, get_or_default, reverse-append, length-replicate}
use Rattle.std.proofs.Math.Seq.{drop-length}
use Rattle.nt_explore.specs.declared.met.Visit.{Visit}
use Rattle.nt_explore.specs.Walk.{no_visit, parent_of, lane_of, AreBehind, IsWalk, Arrives, HasPoint}
use Rattle.nt_explore.proofs.Losing.{arrives_same}
use Rattle.std.proofs.lemmas.Bool.Decides.{nat_tests}
use Rattle.nt_calls.specs.State.{State}
use Rattle.nt_look.proofs.Searching.{steps_counted}
use Rattle.nt_apart.specs.Fewer.{IsLowestChosen, OrderOf, LosesOne, ComesAsSoon, AreLowestWithin}
use Rattle.nt_apart.proofs.Chosen.{lowest_come_as_soon}
use Rattle.nt_lanes.specs.Lanes.{TriedGoes, is_tried, beginning}
use Rattle.nt_explore.specs.Levels.{AreLooked}
use Rattle.nt_explore.proofs.Walks.{deeper, goes_wide, steps_none}

-- ---- as orders

pub order_more : (plan : Plan) (a b c : Point) (xs ys : List ℕ) → Order plan a xs b → Order plan b ys c → Order plan a (xs ++ ys) c
order_more plan a b c [] ys x y = subst (λ (p : Point). Order plan p ys c) x y
order_more plan a b c (lane ∷ xs) ys x y = (x.0, x.1, order_more plan x.0 b c xs ys x.2 y)

-- ---- on and on

pub arrives_drop : (plan : Plan) (start : Point) (lanes : List ℕ) (q : Point) (k : ℕ) → Arrives plan start lanes q → (r : Point) × Arrives plan start (drop k lanes) r
arrives_drop plan start lanes q zero x = (q, x)
arrives_drop plan start [] q (suc k) x = (q, x)
arrives_drop plan start (lane ∷ lanes) q (suc k) x = arrives_drop plan start lanes x.0 k x.1

drop_first : (lanes : List ℕ) (k : ℕ) → k < length lanes → drop k lanes ≡ get_or lanes k 0 ∷ drop (suc k) lanes
drop_first [] k below = absurd (omega (arith, below))
drop_first (lane ∷ lanes) zero below = refl
drop_first (lane ∷ lanes) (suc k) below = drop_first lanes k (omega (arith, below))

-- whoever came so far goes on by the lane before
pub step_on : (plan : Plan) (start : Point) (lanes : List ℕ) (q here : Point) (k : ℕ) → k < length lanes → Arrives plan start lanes q → Arrives plan start (drop (suc k) lanes) here → (r : Point) × Goes plan here (get_or lanes k 0) r
step_on plan start lanes q here k below x came =
    let far = arrives_drop plan start lanes q k x in
    let split : Arrives plan start (get_or lanes k 0 ∷ drop (suc k) lanes) far.0 = subst (λ (ls : List ℕ). Arrives plan start ls far.0) (drop_first lanes k below) far.1 in
    let mid = arrives_same plan start (drop (suc k) lanes) split.0 here split.1 came in
    (far.0, subst (λ (m : Point). Goes plan m (get_or lanes k 0) far.0) mid split.2)

pub came_on : (plan : Plan) (start : Point) (lanes : List ℕ) (here next : Point) (k : ℕ) → k < length lanes → Arrives plan start (drop (suc k) lanes) here → Goes plan here (get_or lanes k 0) next → Arrives plan start (drop k lanes) next
came_on plan start lanes here next k below came goes =
    let whole : Arrives plan start (get_or lanes k 0 ∷ drop (suc k) lanes) next = (here, came, goes) in
    subst (λ (ls : List ℕ). Arrives plan start ls next) (sym (drop_first lanes k below)) whole

-- ---- the same lanes, the first first

pub order_of : (plan : Plan) (start : Point) (lanes : List ℕ) (p : Point) → Arrives plan start lanes p → Order plan start (reverse lanes) p
order_of plan start [] p came = came
order_of plan start (lane ∷ lanes) p came =
    let before = order_of plan start lanes came.0 came.1 in
    let last : Order plan came.0 (lane ∷ []) p = (p, came.2, refl) in
    subst (λ (ls : List ℕ). Order plan start ls p) (sym (reverse-append (lane ∷ []) lanes)) (order_more plan start came.0 p (reverse lanes) (lane ∷ []) before last)

-- ---- back from a point to its parent

entry_there : (visits : List Visit) (i : ℕ) (e : Visit) → e ≡ get_or visits i e → i < length visits → get_or visits i no_visit ≡ e
entry_there visits i e is below = get_or_default visits i no_visit e below ∙ sym is

-- the way so far leads on from wherever one came to the point
abbrev pub LeadsOn : List Visit → ℕ → ℕ → List ℕ → Type 0
LeadsOn visits index at way = (plan : Plan) (start : Point) (point : ℕ → Point) → IsWalk plan start visits point → (rest : List ℕ) → Arrives plan start rest (point at) → Arrives plan start (way ++ rest) (point index)

pub leads_back : (visits : List Visit) (index at : ℕ) (e : Visit) (way : List ℕ) → 0 < at → at < length visits → e ≡ get_or visits at e → LeadsOn visits index at way → LeadsOn visits index e.parent (way ++ e.lane ∷ [])
leads_back visits index at e way some below is leads plan start point walk rest came =
    let visit = entry_there visits at e is below in
    let goes : Goes plan (point e.parent) e.lane (point at) = subst (λ (x : Visit). Goes plan (point x.parent) x.lane (point at)) visit (walk.came at some below) in
    let whole = leads plan start point walk (e.lane ∷ rest) (point e.parent, came, goes) in
    subst (λ (ls : List ℕ). Arrives plan start ls (point index)) (sym (append_assoc way (e.lane ∷ []) rest)) whole

pub parent_before : (visits : List Visit) (at : ℕ) (e : Visit) → 0 < at → at < length visits → e ≡ get_or visits at e → AreBehind visits → e.parent < at
parent_before visits at e some below is behind =
    let visit = ap (λ (x : Visit). x.parent) (entry_there visits at e is below) in
    let before = behind at some below in
    omega (arith, visit, before)

pub leads_begin : (visits : List Visit) (index : ℕ) → LeadsOn visits index index []
leads_begin visits index plan start point walk rest came = came

pub leads_end : (visits : List Visit) (index : ℕ) (way : List ℕ) → LeadsOn visits index 0 way → (plan : Plan) (start : Point) (point : ℕ → Point) → IsWalk plan start visits point → Arrives plan start way (point index)
leads_end visits index way leads plan start point walk = subst (λ (ls : List ℕ). Arrives plan start ls (point index)) (append-nil way) (leads plan start point walk [] walk.first)

-- ---- on from the start

pub far_begin : (plan : Plan) (start here : Point) (way : List ℕ) → here ≡ start → Arrives plan start (drop (length way) way) here
far_begin plan start here way is = subst (λ (ls : List ℕ). Arrives plan start ls here) (sym (drop-length way)) is

pub far_on : (plan : Plan) (start : Point) (way : List ℕ) (here next : Point) (k lane : ℕ) → k < length way → lane ≡ get_or way k 0
    → ((q : Point) → Goes plan here lane q → Goes plan here lane next)
    → ((q : Point) → Arrives plan start way q → Arrives plan start (drop (k + 1) way) here)
    → (q : Point) → Arrives plan start way q → Arrives plan start (drop k way) next
far_on plan start way here next k lane below is on far q came =
    let more : k + 1 ≡ suc k = omega arith in
    let so : Arrives plan start (drop (suc k) way) here = subst (λ (m : ℕ). Arrives plan start (drop m way) here) more (far q came) in
    let next' = step_on plan start way q here k below came so in
    let goes : Goes plan here lane next = on next'.0 (subst (λ (l : ℕ). Goes plan here l next'.0) (sym is) next'.1) in
    came_on plan start way here next k below so (subst (λ (l : ℕ). Goes plan here l next) is goes)

pub far_end : (plan : Plan) (start here : Point) (way : List ℕ) → ((q : Point) → Arrives plan start way q → Arrives plan start (drop 0 way) here) → (q : Point) → Arrives plan start way q → here ≡ q
far_end plan start here way far q came = arrives_same plan start way here q (far q came) came

pub leads_up : (visits : List Visit) (index at : ℕ) (way longer : List ℕ) → 0 < at → at < length visits → longer ≡ way ++ lane_of visits at ∷ [] → LeadsOn visits index at way → LeadsOn visits index (parent_of visits at) longer
leads_up visits index at way longer some below is leads =
    let e = get_or visits at no_visit in
    let same : e ≡ get_or visits at e = get_or_default visits at no_visit e below in
    subst (λ (ls : List ℕ). LeadsOn visits index e.parent ls) (sym is) (leads_back visits index at e way some below same leads)

pub parent_inside : (visits : List Visit) (at : ℕ) → 0 < at → at < length visits → AreBehind visits → parent_of visits at < length visits
parent_inside visits at some below behind = let before = behind at some below in omega (arith, before, below)

pub far_back : (plan : Plan) (start : Point) (way : List ℕ) (here next : Point) (left : ℕ) → 0 < left → left ≤ length way
    → ((q : Point) → Goes plan here (get_or way (left - 1) 0) q → Goes plan here (get_or way (left - 1) 0) next)
    → ((q : Point) → Arrives plan start way q → Arrives plan start (drop left way) here)
    → (q : Point) → Arrives plan start way q → Arrives plan start (drop (left - 1) way) next
far_back plan start way here next left some within on far =
    let more : left ≡ (left - 1) + 1 = omega (arith, some) in
    far_on plan start way here next (left - 1) (get_or way (left - 1) 0) (omega (arith, some, within)) refl on (subst (λ (k : ℕ). (q : Point) → Arrives plan start way q → Arrives plan start (drop k way) here) more far)

-- ---- of what was answered

pub if_ok : {X E : Type 0} (P Q : X → Type 0) (r : Result X E) → ((x : X) → P x → Q x) → IfOk r P → IfOk r Q
if_ok P Q (Ok x) more h = more x h
if_ok P Q (Err e) more h = tt

pub on_ok : {X E : Type 0} (P Q : Type 0) (r : Result X E) → (P → Q) → OnOk r P → OnOk r Q
on_ok P Q (Ok x) more h = more h
on_ok P Q (Err e) more h = tt

pub begins_wide : (plan : Plan) (s : State) → length (beginning plan s).at ≡ length plan
begins_wide plan s = length-replicate (length plan) 0

-- ---- what an order comes to

-- chosen lanes lead to points that were met, where those less deep were looked at
reach : (plan : Plan) (kinds : List ℕ) (visits : List Visit) (point : ℕ → Point) (most : ℕ) → ((i lane : ℕ) (q : Point) → i < length visits → steps (point i).at < most → TriedGoes plan kinds (point i) lane q → HasPoint visits point q)
    → (lanes : List ℕ) (a p : Point) → length a.at ≡ length plan → HasPoint visits point a → steps a.at + length lanes ≤ most → OrderOf plan (is_tried kinds) a lanes p → HasPoint visits point p
reach plan kinds visits point most closed [] a p wide has deep order = (has.0, has.1, has.2 ∙ sym order)
reach plan kinds visits point most closed (lane ∷ lanes) a p wide has deep order =
    let mid : Point = order.0 in
    let goes : TriedGoes plan kinds a lane mid = (order.1, order.2) in
    let at = ap (λ (z : Point). steps z.at) has.2 in
    let here : TriedGoes plan kinds (point has.0) lane mid = subst (λ (z : Point). TriedGoes plan kinds z lane mid) (sym has.2) goes in
    let next = closed has.0 lane mid has.1 (omega (arith, at, deep)) here in
    let one = deeper plan a mid lane wide goes.1 in
    reach plan kinds visits point most closed lanes mid p (goes_wide plan a lane mid goes.1 wide) next (omega (arith, one, deep)) order.3

-- they are lanes that go
plain : (plan : Plan) (kinds : List ℕ) (lanes : List ℕ) (a p : Point) → OrderOf plan (is_tried kinds) a lanes p → Order plan a lanes p
plain plan kinds [] a p order = order
plain plan kinds (lane ∷ lanes) a p order = (order.0, order.2, plain plan kinds lanes order.0 p order.3)

begun : (plan : Plan) (kinds : List ℕ) (s : State) (visits : List Visit) (looked : ℕ) (first : Option ℕ) (point : ℕ → Point) → AreLooked plan kinds (beginning plan s) visits looked first point → HasPoint visits point (beginning plan s)
begun plan kinds s visits looked first point so = (0, so.walk.some, so.walk.first)

pub counted : (plan : Plan) (s : State) (lanes : List ℕ) (p : Point) → Order plan (beginning plan s) lanes p → steps p.at ≡ length lanes
counted plan s lanes p order = let it = steps_counted plan lanes (beginning plan s) p (begins_wide plan s) order in let none = steps_none (length plan) in omega (arith, it, none)

-- whoever is less deep comes before
pub before_of : (visits : List Visit) (point : ℕ → Point) (i h : ℕ) → ((i j : ℕ) → i ≤ j → j < length visits → steps (point i).at ≤ steps (point j).at) → i < length visits → steps (point i).at < steps (point h).at → i < h
before_of visits point i h rising below less = go (ltb i h) refl
  where
    go : (b : Bool) → ltb i h ≡ b → i < h
    go true e = grind (arith, nat_tests, e)
    go false e = let up = rising h i (grind (arith, nat_tests, e)) below in absurd (omega (arith, up, less))

-- chosen lanes come as soon to a point that is so
abbrev pub ComesTo : Plan → List ℕ → Point → List ℕ → (Point → Type 0) → Type 0
ComesTo plan kinds start lanes so = (most : ℕ) → length lanes ≤ most → AreLowestWithin plan (is_tried kinds) start most → ComesAsSoon plan (is_tried kinds) start lanes so

comes_to_hang : (plan : Plan) (kinds : List ℕ) (start : Point) (lanes : List ℕ) (p : Point) → Order plan start lanes p → Hangs plan p → ComesTo plan kinds start lanes (Hangs plan)
comes_to_hang plan kinds start lanes p order hangs most few lowest = (lowest_come_as_soon plan (is_tried kinds) start most lowest lanes p few order).0 hangs

pub comes_to_loss : (plan : Plan) (kinds : List ℕ) (start : Point) (lanes : List ℕ) (p : Point) → Order plan start lanes p → LosesOne plan p → ComesTo plan kinds start lanes (LosesOne plan)
comes_to_loss plan kinds start lanes p order loses most few lowest = (lowest_come_as_soon plan (is_tried kinds) start most lowest lanes p few order).1 loses

-- so one of the points is so, no deeper than the order, where all that are less deep were looked at
come_so : (plan : Plan) (kinds : List ℕ) (s : State) (visits : List Visit) (looked : ℕ) (first : Option ℕ) (point : ℕ → Point) (so : Point → Type 0) → AreLooked plan kinds (beginning plan s) visits looked first point → (lanes : List ℕ) → ((i : ℕ) → i < length visits → steps (point i).at < length lanes → i < looked) → ComesTo plan kinds (beginning plan s) lanes so → (j : ℕ) × (j < length visits) × (steps (point j).at ≤ length lanes) × so (point j)
come_so plan kinds s visits looked first point so are lanes inside comes =
    let none = steps_none (length plan) in
    let to : (others : List ℕ) (q : Point) → length others ≤ length lanes → OrderOf plan (is_tried kinds) (beginning plan s) others q → HasPoint visits point q =
    λ others q few way. reach plan kinds visits point (length lanes) (λ i lane z below less goes. are.closed i lane z (inside i below less) goes) others (beginning plan s) q (begins_wide plan s) (begun plan kinds s visits looked first point are) (omega (arith, none, few)) way in
    let deep : (others : List ℕ) (q : Point) (has : HasPoint visits point q) → OrderOf plan (is_tried kinds) (beginning plan s) others q → steps (point has.0).at ≡ length others =
    λ others q has way. ap (λ (z : Point). steps z.at) has.2 ∙ counted plan s others q (plain plan kinds others (beginning plan s) q way) in
    let it = comes (length lanes) (omega arith) (λ others q less way.
    let has = to others q (omega (arith, less)) way in
    let at = deep others q has way in
    subst (λ (z : Point). IsLowestChosen plan z (is_tried kinds z)) has.2 (are.lowest has.0 (inside has.0 has.1 (omega (arith, at, less))))) in
    let has = to it.others it.point it.few it.order in
    let at = deep it.others it.point has it.order in
    let few = it.few in
    (has.0, has.1, omega (arith, at, few), subst so (sym has.2) it.is)

-- shorter than the depth of a point, the order has one before it, where all before it were looked at
pub come_before : (plan : Plan) (kinds : List ℕ) (s : State) (visits : List Visit) (looked h : ℕ) (first : Option ℕ) (point : ℕ → Point) (so : Point → Type 0) → AreLooked plan kinds (beginning plan s) visits looked first point → h ≤ looked → h < length visits → (lanes : List ℕ) → length lanes < steps (point h).at → ComesTo plan kinds (beginning plan s) lanes so → (j : ℕ) × (j < h) × so (point j)
come_before plan kinds s visits looked h first point so are within there lanes short comes =
    let has = come_so plan kinds s visits looked first point so are lanes (λ i below less. let before = before_of visits point i h are.rising below (omega (arith, less, short)) in omega (arith, before, within)) comes in
    let deep = has.2 in
    (has.0, before_of visits point has.0 h are.rising has.1 (omega (arith, deep, short)), has.3)

pub none_hangs : (plan : Plan) (kinds : List ℕ) (s : State) (visits : List Visit) (looked : ℕ) (point : ℕ → Point) → AreLooked plan kinds (beginning plan s) visits looked None point → length visits ≤ looked → NoneHangs plan (beginning plan s)
none_hangs plan kinds s visits looked point so all lanes p order hangs =
    let has = come_so plan kinds s visits looked None point (Hangs plan) so lanes (λ i below less. omega (arith, below, all)) (comes_to_hang plan kinds (beginning plan s) lanes p order hangs) in
    let inside = has.1 in
    so.told has.0 (omega (arith, inside, all)) has.3

pub none_within : (plan : Plan) (kinds : List ℕ) (s : State) (visits : List Visit) (looked level : ℕ) (point : ℕ → Point) → AreLooked plan kinds (beginning plan s) visits looked None point → looked < length visits → level < steps (point looked).at → NoneHangsWithin plan (beginning plan s) level
none_within plan kinds s visits looked level point so more deep lanes p short order hangs =
    let has = come_before plan kinds s visits looked looked None point (Hangs plan) so (omega arith) more lanes (omega (arith, deep, short)) (comes_to_hang plan kinds (beginning plan s) lanes p order hangs) in
    so.told has.0 has.1 has.2

pub shortest : (plan : Plan) (kinds : List ℕ) (s : State) (visits : List Visit) (looked h : ℕ) (way : List ℕ) (point : ℕ → Point) → AreLooked plan kinds (beginning plan s) visits looked (Some h) point → Arrives plan (beginning plan s) way (point h) → IsShortestHang plan (beginning plan s) (reverse way)
shortest plan kinds s visits looked h way point so came =
    let order = order_of plan (beginning plan s) way (point h) came in
    let deep = counted plan s (reverse way) (point h) order in
    let within = so.within in
    let before = so.told.0 in
    record {
      point = point h;
      order = order;
      hangs = so.told.1;
      least = λ others p short order' hangs.
          let has = come_before plan kinds s visits looked h (Some h) point (Hangs plan) so (omega (arith, before)) (omega (arith, before, within)) others (omega (arith, short, deep)) (comes_to_hang plan kinds (beginning plan s) others p order' hangs) in
          so.told.2 has.0 has.1 has.2;
    }

-- how deep a point lies
pub depth_of : (plan : Plan) (s : State) (way : List ℕ) (p : Point) → Arrives plan (beginning plan s) way p → steps p.at ≡ length (reverse way)
depth_of plan s way p came = counted plan s (reverse way) p (order_of plan (beginning plan s) way p came)
