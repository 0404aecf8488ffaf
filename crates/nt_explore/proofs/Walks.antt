-- How the table grows.
use Rattle.std.proofs.Common.{◌≡◌, ◌≢◌, ◌<◌, ◌≤◌, ℕ, zero, suc, ◌+◌, Bool, true, false, List, [], ◌∷◌, ◌++◌, length, refl, sym, ap, ◌∙◌, subst, arith, Option, Some, None, eqb, ltb, if◌then◌else◌, inl, inr, ◌⊎◌}
use Rattle.std.specs.Prelude.{Result, Ok, Err, IfOk, OnOk, replicate}
use Rattle.std.proofs.lemmas.Bool.Decides.{nat_tests}
use Rattle.std.proofs.lemmas.List.{length-set, length_push, get_or_push, get_or_append_left}
use Rattle.nt_look.specs.Orders.{Plan, Point, Goes, steps, place}
use Rattle.nt_look.proofs.Searching.{steps_counted}
use Rattle.nt_explore.specs.declared.met.Visit.{Visit}
use Rattle.nt_lanes.specs.Lanes.{TriedGoes, beginning}
use Rattle.nt_explore.specs.Walk.{no_visit, parent_of, lane_of, hash_at, AreBehind, IsWalk, HasPoint, IsFound, Meets, TriesLane, Tries, CanGoTo, edge, Went, LeadsTo}
use Rattle.nt_calls.specs.State.{State}
use Rattle.nt_explore.specs.Search.{CanGo, IsOneIf, SumsTo}
use Rattle.nt_explore.specs.Hash.{hash_of}
use Rattle.nt_explore.specs.declared.loss.Edge.{Edge}
use Rattle.nt_explore.proofs.Losing.{below_or, leads_on, leads_none, leads_then, goes_same}

-- ---- one point more

put : (ℕ → Point) → ℕ → Point → ℕ → Point
put point n p i = if eqb i n then p else point i

put_here : (point : ℕ → Point) (n : ℕ) (p : Point) → put point n p n ≡ p
unfolding put
put_here point n p = let test : eqb n n ≡ true = grind (arith, nat_tests) in rw test refl

put_else : (point : ℕ → Point) (n : ℕ) (p : Point) (i : ℕ) → i ≢ n → put point n p i ≡ point i
unfolding put
put_else point n p i other = let test : eqb i n ≡ false = grind (arith, nat_tests, other) in rw test refl

put_below : (point : ℕ → Point) (n : ℕ) (p : Point) (i : ℕ) → i < n → put point n p i ≡ point i
put_below point n p i below = put_else point n p i (λ e. absurd (omega (arith, below, e)))

pub behind_more : (visits : List Visit) (e : Visit) → e.parent < length visits → AreBehind visits → AreBehind (visits ++ e ∷ [])
behind_more visits e before behind i some below = go (below_or i (length visits) (let count = length_push visits e in omega (arith, below, count)))
  where
    go : (i < length visits) ⊎ (i ≡ length visits) → parent_of (visits ++ e ∷ []) i < i
    go (inl inside) = let same = ap (λ (x : Visit). x.parent) (get_or_append_left visits (e ∷ []) no_visit i inside) in let old = behind i some inside in omega (arith, same, old)
    go (inr last) = let same = ap (λ (x : Visit). x.parent) (get_or_push visits e no_visit i (sym last)) in omega (arith, same, last, before)

pub goes_wide : (plan : Plan) (old : Point) (lane : ℕ) (new : Point) → Goes plan old lane new → length old.at ≡ length plan → length new.at ≡ length plan
goes_wide plan old lane new goes wide = ap (λ (ns : List ℕ). length ns) goes.at ∙ (length-set old.at lane (place old lane + 1) ∙ wide)

pub deeper : (plan : Plan) (p q : Point) (lane : ℕ) → length p.at ≡ length plan → Goes plan p lane q → steps q.at ≡ steps p.at + 1
deeper plan p q lane wide goes = steps_counted plan (lane ∷ []) p q wide (q, goes, refl)

goes_at : (plan : Plan) (a b : Point) (l m : ℕ) (p q : Point) → a ≡ b → l ≡ m → p ≡ q → Goes plan a l p → Goes plan b m q
goes_at plan a b l m p q e f g goes = subst (λ (z : Point). Goes plan b m z) g (subst (λ (k : ℕ). Goes plan b k p) f (subst (λ (z : Point). Goes plan z l p) e goes))

walk_more : (plan : Plan) (start : Point) (visits : List Visit) (e : Visit) (p : Point) (point : ℕ → Point) → IsWalk plan start visits point → e.parent < length visits → Goes plan (point e.parent) e.lane p → e.hash ≡ hash_of p → ((i : ℕ) → i < length visits → point i ≢ p) → IsWalk plan start (visits ++ e ∷ []) (put point (length visits) p)
walk_more plan start visits e p point walk before goes hash fresh = record {
  some = let count = length_push visits e in omega (arith, count);
  first = put_below point (length visits) p 0 walk.some ∙ walk.first;
  behind = behind_more visits e before walk.behind;
  wide = λ i below. wide i (below_or i (length visits) (let count = length_push visits e in omega (arith, below, count)));
  came = λ i some below. came i some (below_or i (length visits) (let count = length_push visits e in omega (arith, below, count)));
  hashed = λ i some below. hashed i some (below_or i (length visits) (let count = length_push visits e in omega (arith, below, count)));
  differ = λ i j first below. differ i j first (below_or j (length visits) (let count = length_push visits e in omega (arith, below, count)));
}
  where
    hashed : (i : ℕ) → 0 < i → (i < length visits) ⊎ (i ≡ length visits) → hash_at (visits ++ e ∷ []) i ≡ hash_of (put point (length visits) p i)
    hashed i some (inl inside) = ap (λ (x : Visit). x.hash) (get_or_append_left visits (e ∷ []) no_visit i inside) ∙ (walk.hashed i some inside ∙ ap hash_of (sym (put_below point (length visits) p i inside)))
    hashed i some (inr last) = ap (λ (x : Visit). x.hash) (get_or_push visits e no_visit i (sym last)) ∙ (hash ∙ ap hash_of (sym (ap (put point (length visits) p) last ∙ put_here point (length visits) p)))

    differ : (i j : ℕ) → i < j → (j < length visits) ⊎ (j ≡ length visits) → put point (length visits) p i ≢ put point (length visits) p j
    differ i j first (inl inside) = λ same. walk.differ i j first inside (sym (put_below point (length visits) p i (omega (arith, first, inside))) ∙ (same ∙ put_below point (length visits) p j inside))
    differ i j first (inr last) = λ same.
        let inside : i < length visits = omega (arith, first, last) in
        fresh i inside (sym (put_below point (length visits) p i inside) ∙ (same ∙ (ap (put point (length visits) p) last ∙ put_here point (length visits) p)))

    wide : (i : ℕ) → (i < length visits) ⊎ (i ≡ length visits) → length (put point (length visits) p i).at ≡ length plan
    wide i (inl inside) = ap (λ (z : Point). length z.at) (put_below point (length visits) p i inside) ∙ walk.wide i inside
    wide i (inr last) = ap (λ (n : ℕ). length (put point (length visits) p n).at) last ∙ (ap (λ (z : Point). length z.at) (put_here point (length visits) p) ∙ goes_wide plan (point e.parent) e.lane p goes (walk.wide e.parent before))

    came : (i : ℕ) → 0 < i → (i < length visits) ⊎ (i ≡ length visits) → Goes plan (put point (length visits) p (parent_of (visits ++ e ∷ []) i)) (lane_of (visits ++ e ∷ []) i) (put point (length visits) p i)
    came i some (inl inside) =
        let same = get_or_append_left visits (e ∷ []) no_visit i inside in
        let parent : parent_of (visits ++ e ∷ []) i ≡ parent_of visits i = ap (λ (x : Visit). x.parent) same in
        let lane : lane_of (visits ++ e ∷ []) i ≡ lane_of visits i = ap (λ (x : Visit). x.lane) same in
        let older = walk.behind i some inside in
        goes_at plan _ _ _ _ _ _
        (sym (ap (put point (length visits) p) parent ∙ put_below point (length visits) p (parent_of visits i) (omega (arith, older, inside))))
        (sym lane)
        (sym (put_below point (length visits) p i inside))
        (walk.came i some inside)
    came i some (inr last) =
        let same = get_or_push visits e no_visit i (sym last) in
        let parent : parent_of (visits ++ e ∷ []) i ≡ e.parent = ap (λ (x : Visit). x.parent) same in
        let lane : lane_of (visits ++ e ∷ []) i ≡ e.lane = ap (λ (x : Visit). x.lane) same in
        goes_at plan _ _ _ _ _ _
        (sym (ap (put point (length visits) p) parent ∙ put_below point (length visits) p e.parent before))
        (sym lane)
        (sym (ap (put point (length visits) p) last ∙ put_here point (length visits) p))
        goes

-- the start is met by no lane, and of the others none with the hash is the point
never_met : (plan : Plan) (start : Point) (visits : List Visit) (e : Visit) (p : Point) (point : ℕ → Point) → steps start.at ≡ 0 → e.parent < length visits → IsWalk plan start visits point → Goes plan (point e.parent) e.lane p → e.hash ≡ hash_of p → IsFound plan start visits e.hash p None → (i : ℕ) → i < length visits → point i ≢ p
never_met plan start visits e p point low before walk goes hash none zero below is =
    let deep = deeper plan (point e.parent) p e.lane (walk.wide e.parent before) goes in
    let none' = ap (λ (z : Point). steps z.at) (sym walk.first ∙ is) in
    absurd (omega (arith, low, deep, none'))
never_met plan start visits e p point low before walk goes hash none (suc i) below is =
    let some : 0 < suc i = omega arith in
    none (suc i) some below (walk.hashed (suc i) some below ∙ (ap hash_of is ∙ sym hash)) point walk is

pub meets_new : (plan : Plan) (start : Point) (visits : List Visit) (e : Visit) (p : Point) (j : ℕ) (point : ℕ → Point) → steps start.at ≡ 0 → e.parent < length visits → j ≡ length visits → e.hash ≡ hash_of p → IsFound plan start visits e.hash p None → IsWalk plan start visits point → Goes plan (point e.parent) e.lane p → Meets plan start visits (visits ++ e ∷ []) p j point
meets_new plan start visits e p j point low before last hash none walk goes =
    let count = length_push visits e in
    record {
      points = put point (length visits) p;
      grows = record { walk = walk_more plan start visits e p point walk before goes hash (never_met plan start visits e p point low before walk goes hash none); longer = omega (arith, count); same = λ i below. put_below point (length visits) p i below };
      there = omega (arith, count, last);
      is = ap (put point (length visits) p) last ∙ put_here point (length visits) p;
      deep = λ i past below. let here : i ≡ length visits = omega (arith, past, below, count) in ap (put point (length visits) p) here ∙ put_here point (length visits) p;
    }

-- ---- a point that is there

pub meets_old : (plan : Plan) (start : Point) (visits : List Visit) (hash : ℕ) (p : Point) (j : ℕ) (point : ℕ → Point) → IsFound plan start visits hash p (Some j) → IsWalk plan start visits point → Meets plan start visits visits p j point
meets_old plan start visits hash p j point found walk = record {
  points = point;
  grows = record { walk = walk; longer = omega arith; same = λ i below. refl };
  there = found.0;
  is = found.1 point walk;
  deep = λ i past below. absurd (omega (arith, past, below));
}

-- ---- lanes

pub sums_on : (is : ℕ → ℕ → Type 0) (n before last sum : ℕ) → SumsTo is n before → is n last → sum ≡ before + last → SumsTo is (n + 1) sum
sums_on is n before last sum old here total = let more : suc n ≡ n + 1 = omega arith in subst (λ (k : ℕ). SumsTo is k sum) more (before, last, old, here, total)

pub lane_went : (plan : Plan) (kinds : List ℕ) (start : Point) (old new : List Visit) (pairs : List Edge) (p next : Point) (index lane j : ℕ) (point : ℕ → Point) → length p.at ≡ length plan → TriedGoes plan kinds p lane next → Meets plan start old new next j point → TriesLane plan kinds start old new pairs (pairs ++ edge index j ∷ []) p index lane point
lane_went plan kinds start old new pairs p next index lane j point wide goes meets = record {
  points = meets.points;
  grows = meets.grows;
  deep = λ i past below. ap (λ (z : Point). steps z.at) (meets.deep i past below) ∙ deeper plan p next lane wide goes.1;
  came = λ i past below. (lane, subst (λ (z : Point). TriedGoes plan kinds p lane z) (sym (meets.deep i past below)) goes);
  tried = λ q other. (j, meets.there, meets.is ∙ goes_same plan p lane next q goes.1 other.1);
  leads = leads_on plan kinds p next index lane j (length new) meets.points pairs meets.there meets.is goes.1;
  count = (1, inl ((next, goes), refl), length_push pairs (edge index j));
}

pub lane_stays : (plan : Plan) (kinds : List ℕ) (start : Point) (visits : List Visit) (pairs : List Edge) (p : Point) (index lane : ℕ) (point : ℕ → Point) → ((q : Point) → TriedGoes plan kinds p lane q → ⊥) → IsWalk plan start visits point → TriesLane plan kinds start visits visits pairs pairs p index lane point
lane_stays plan kinds start visits pairs p index lane point never walk = record {
  points = point;
  grows = record { walk = walk; longer = omega arith; same = λ i below. refl };
  deep = λ i past below. absurd (omega (arith, past, below));
  came = λ i past below. absurd (omega (arith, past, below));
  tried = λ q goes. absurd (never q goes);
  leads = leads_none plan kinds p index (length visits) point pairs (λ l. l ≡ lane) (λ l q is goes. never q (subst (λ (k : ℕ). TriedGoes plan kinds p k q) is goes));
  count = (0, inr (λ can. never can.0 can.1, refl), omega arith);
}

pub tries_none : (plan : Plan) (kinds : List ℕ) (start : Point) (visits : List Visit) (pairs : List Edge) (p : Point) (index : ℕ) (point : ℕ → Point) → IsWalk plan start visits point → Tries plan kinds start visits visits pairs pairs p index 0 point
tries_none plan kinds start visits pairs p index point walk = record {
  points = point;
  grows = record { walk = walk; longer = omega arith; same = λ i below. refl };
  deep = λ i past below. absurd (omega (arith, past, below));
  came = λ i past below. absurd (omega (arith, past, below));
  tried = λ lane q below. absurd (omega (arith, below));
  leads = leads_none plan kinds p index (length visits) point pairs (λ l. l < 0) (λ l q below goes. absurd (omega (arith, below)));
  count = (0, refl, omega arith);
}

pub tries_more : (plan : Plan) (kinds : List ℕ) (start : Point) (old mid new : List Visit) (first halfway last : List Edge) (p : Point) (lanes index : ℕ) (point : ℕ → Point) → index < length old → point index ≡ p → (tries : Tries plan kinds start old mid first halfway p index lanes point) → ((points : ℕ → Point) → IsWalk plan start mid points → points index ≡ p → TriesLane plan kinds start mid new halfway last p index lanes points) → Tries plan kinds start old new first last p index (lanes + 1) point
tries_more plan kinds start old mid new first halfway last p lanes index point within is tries lane = record {
  points = more.points;
  grows = record { walk = more.grows.walk; longer = omega (arith, longer, second); same = λ i below. more.grows.same i (omega (arith, below, longer)) ∙ tries.grows.same i below };
  deep = λ i past below. deep i past below (ltb i (length mid)) refl;
  came = λ i past below. came i past below (ltb i (length mid)) refl;
  tried = λ l q below goes. tried l q goes (below_or l lanes below);
  leads = leads_then plan kinds p index (length mid) (length new) lanes tries.points more.points first halfway last second more.grows.same tries.leads more.leads;
  count =
      let before = tries.count in
      let one = more.count in
      let start = before.2 in
      let end = one.2 in
      (before.0 + one.0, sums_on (λ l. IsOneIf (CanGo plan kinds p l)) lanes before.0 one.0 (before.0 + one.0) before.1 one.1 refl, omega (arith, start, end));
}
  where
    more : TriesLane plan kinds start mid new halfway last p index lanes tries.points
    more = lane tries.points tries.grows.walk (tries.grows.same index within ∙ is)

    longer : length old ≤ length mid
    longer = tries.grows.longer

    second : length mid ≤ length new
    second = more.grows.longer

    deep : (i : ℕ) → length old ≤ i → i < length new → (b : Bool) → ltb i (length mid) ≡ b → steps (more.points i).at ≡ steps p.at + 1
    deep i past below true e = let inside : i < length mid = grind (arith, nat_tests, e) in ap (λ (z : Point). steps z.at) (more.grows.same i inside) ∙ tries.deep i past inside
    deep i past below false e = more.deep i (grind (arith, nat_tests, e)) below

    came : (i : ℕ) → length old ≤ i → i < length new → (b : Bool) → ltb i (length mid) ≡ b → CanGoTo plan kinds p (more.points i)
    came i past below true e = let inside : i < length mid = grind (arith, nat_tests, e) in subst (λ (z : Point). CanGoTo plan kinds p z) (sym (more.grows.same i inside)) (tries.came i past inside)
    came i past below false e = more.came i (grind (arith, nat_tests, e)) below

    tried : (l : ℕ) (q : Point) → TriedGoes plan kinds p l q → (l < lanes) ⊎ (l ≡ lanes) → HasPoint new more.points q
    tried l q goes (inl before) =
        let has = tries.tried l q before goes in
        let inside = has.1 in
        (has.0, omega (arith, inside, second), more.grows.same has.0 has.1 ∙ has.2)
    tried l q goes (inr last) = more.tried q (subst (λ (k : ℕ). TriedGoes plan kinds p k q) last goes)

-- ---- the start alone

pub steps_none : (n : ℕ) → steps (replicate n 0) ≡ 0
steps_none zero = refl
steps_none (suc n) = let rest = steps_none n in omega (arith, rest)

-- no step leads to it
pub start_low : (plan : Plan) (s : State) → steps (beginning plan s).at ≡ 0
start_low plan s = steps_none (length plan)

abbrev pub one_visit : List Visit
one_visit = no_visit ∷ []

-- ---- what was met

pub meets_added : {E : Type 0} (plan : Plan) (start : Point) (old new : List Visit) (e : Visit) (p : Point) (r : Result ℕ E) → steps start.at ≡ 0 → e.parent < length old → e.hash ≡ hash_of p → IsFound plan start old e.hash p None → IfOk r (λ j. j ≡ length old) → OnOk r (new ≡ old ++ e ∷ []) → IfOk r (λ j. (point : ℕ → Point) → IsWalk plan start old point → Goes plan (point e.parent) e.lane p → Meets plan start old new p j point)
meets_added plan start old new e p (Ok j) low before hash none last added = λ point walk goes. subst (λ (es : List Visit). Meets plan start old es p j point) (sym added) (meets_new plan start old e p j point low before last hash none walk goes)
meets_added plan start old new e p (Err x) low before hash none last added = tt

pub meets_there : (plan : Plan) (start : Point) (visits read : List Visit) (hash : ℕ) (p : Point) (found : Option ℕ) (j : ℕ) → read ≡ visits → found ≡ Some j → IsFound plan start read hash p found → (point : ℕ → Point) → IsWalk plan start visits point → Meets plan start visits visits p j point
meets_there plan start visits read hash p found j same is known point walk = meets_old plan start visits hash p j point (subst (λ (es : List Visit). IsFound plan start es hash p (Some j)) same (subst (λ (o : Option ℕ). IsFound plan start read hash p o) is known)) walk

pub found_none : (plan : Plan) (start : Point) (visits read : List Visit) (hash : ℕ) (p : Point) (found : Option ℕ) → read ≡ visits → found ≡ None → IsFound plan start read hash p found → IsFound plan start visits hash p None
found_none plan start visits read hash p found same is known = subst (λ (es : List Visit). IsFound plan start es hash p None) same (subst (λ (o : Option ℕ). IsFound plan start read hash p o) is known)

-- ---- one lane, as it went

pub never_went : (plan : Plan) (p at next : Point) (lane : ℕ) (went : Bool) → went ≡ false → at ≡ p → Went plan at lane went next → (q : Point) → Goes plan p lane q → ⊥
never_went plan p at next lane went still is so q goes =
    let never : Went plan at lane false next = subst (λ (b : Bool). Went plan at lane b next) still so in
    never.1 q (subst (λ (z : Point). Goes plan z lane q) (sym is) goes)

pub lane_never : (plan : Plan) (kinds : List ℕ) (start : Point) (visits : List Visit) (pairs : List Edge) (p : Point) (index lane : ℕ) (next : Option Point) → next ≡ None → LeadsTo plan kinds p lane next → (point : ℕ → Point) → IsWalk plan start visits point → TriesLane plan kinds start visits visits pairs pairs p index lane point
lane_never plan kinds start visits pairs p index lane next none leads point walk =
    let never : LeadsTo plan kinds p lane None = subst (λ (o : Option Point). LeadsTo plan kinds p lane o) none leads in
    lane_stays plan kinds start visits pairs p index lane point never walk

pub lane_leads : (plan : Plan) (kinds : List ℕ) (p next : Point) (lane : ℕ) (found : Option Point) → found ≡ Some next → LeadsTo plan kinds p lane found → TriedGoes plan kinds p lane next
lane_leads plan kinds p next lane found is leads = subst (λ (o : Option Point). LeadsTo plan kinds p lane o) is leads

pub lane_met : (plan : Plan) (kinds : List ℕ) (start : Point) (old new : List Visit) (pairs more : List Edge) (p next : Point) (lane index j : ℕ) → length p.at ≡ length plan → more ≡ pairs ++ edge index j ∷ [] → ((point : ℕ → Point) → IsWalk plan start old point → Goes plan (point index) lane next → Meets plan start old new next j point) → (point : ℕ → Point) → IsWalk plan start old point → point index ≡ p → TriedGoes plan kinds p lane next → TriesLane plan kinds start old new pairs more p index lane point
lane_met plan kinds start old new pairs more p next lane index j wide added meets point walk here goes =
    subst (λ (es : List Edge). TriesLane plan kinds start old new pairs es p index lane point) (sym added) (lane_went plan kinds start old new pairs p next index lane j point wide goes (meets point walk (subst (λ (z : Point). Goes plan z lane next) (sym here) goes.1)))
