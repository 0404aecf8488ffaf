-- What is told: how far a search is, whose depth comes of the counts that its watcher learns; and why there is none.
use Rattle.std.proofs.Common.{◌≡◌, ◌≢◌, ◌<◌, ◌≤◌, ◌+◌, ◌^◌, ℕ, zero, suc, Bool, true, false, length, refl, sym, ap, ◌∙◌, subst, arith, inl, inr, ◌⊎◌, ltb, List, if◌then◌else◌}
use Rattle.std.specs.Prelude.{◌==◌, Result, Ok, Err, IfErr, IfOk, OnErr, option_map}
use Rattle.std.proofs.lemmas.Bool.Decides.{nat_tests}
use Rattle.nt_calls.specs.State.{State}
use Rattle.nt_devices.specs.Device.{Writing, one_more, Says}
use Rattle.nt_look.specs.Orders.{Plan, Point, Goes, steps}
use Rattle.nt_explore.specs.Search.{AreMetInTurn, IsUnderWay, Learns, TellsSearch}
use Rattle.nt_lanes.specs.Lanes.{beginning}
use Rattle.nt_explore.specs.declared.search.Explored.{Explored}
use Rattle.nt_explore.proofs.Ways.{begins_wide}
use Rattle.nt_explore.proofs.Walks.{deeper, goes_wide, start_low}
use Rattle.nt_explore.specs.Search.{TellsVerdict}
use Rattle.nt_orders.specs.Ending.{EndsEarly, IsCutOff, IsFirstFault, IsOrdersOutcome, IsSearched, TellsOrdersFault, order_of, verdict_code}
use Rattle.nt_orders.specs.Plans.{IsPlanOf}
use Rattle.nt_plans.specs.Gates.{Lanes}
use Rattle.nt_orders.specs.declared.report.Findings.{Findings}
use Rattle.nt_orders.specs.declared.fault.OrdersFault.{OrdersFault}
use Rattle.nt_orders.specs.Progress.{IsTold, TellsCourse, TellsLook}
use Rattle.nt_orders.specs.declared.progress.Progress.{Progress}
use Rattle.nt_orders.specs.Texts.{order_message, order_status}
use Rattle.nt_orders.specs.declared.fault.OrdersFault.TheVariants as orders

-- After n looks, with so many states met: the next ones lie this deep, and those from `end` on a step deeper.
pub record IsLevel (plan : Plan) (point : ℕ → Point) (n met depth end : ℕ) : Type 0 where
  pub wide : (j : ℕ) → j < met → length (point j).at ≡ length plan
  pub few : depth ≤ n
  pub within : end ≤ met
  pub ahead : n < met → n < end
  pub level : (j : ℕ) → n ≤ j → j < end → steps (point j).at ≡ depth
  pub next : (j : ℕ) → end ≤ j → j < met → steps (point j).at ≡ depth + 1

level_begins : (plan : Plan) (s : State) (point : ℕ → Point) (met depth end : ℕ) → point 0 ≡ beginning plan s → met ≡ 1 → depth ≡ 0 → end ≡ 1
    → IsLevel plan point 0 met depth end
level_begins plan s point met depth end first one flat last = record {
  wide = λ j below. subst (λ (k : ℕ). length (point k).at ≡ length plan) (sym (none j below)) (ap (λ (p : Point). length p.at) first ∙ begins_wide plan s);
  few = omega (arith, flat);
  within = omega (arith, one, last);
  ahead = λ below. omega (arith, last);
  level = λ j past below. subst (λ (k : ℕ). steps (point k).at ≡ depth) (sym (none j (omega (arith, below, last, one)))) (ap (λ (p : Point). steps p.at) first ∙ (start_low plan s ∙ sym flat));
  next = λ j past below. absurd (omega (arith, past, below, one, last));
}
  where
    none : (j : ℕ) → j < met → j ≡ 0
    none j below = omega (arith, below, one)

-- The next look meets states a step deeper than the one that is looked at.
level_on : (plan : Plan) (point : ℕ → Point) (n met met' depth end : ℕ) → IsLevel plan point n met depth end → n < met → n + 1 < 2 ^ 64 → met ≤ met'
    → ((j : ℕ) → met ≤ j → j < met' → (lane : ℕ) × Goes plan (point n) lane (point j))
    → (b : Bool) → (n + 1 == end) ≡ b
    → IsLevel plan point (n + 1) met' (if b then one_more depth else depth) (if b then met' else end)
level_on plan point n met met' depth end so below small more came b test = go b test
  where
    here : steps (point n).at ≡ depth
    here = so.level n (omega arith) (so.ahead below)

    fresh : (j : ℕ) → met ≤ j → j < met' → steps (point j).at ≡ depth + 1
    fresh j past under =
        let it = came j past under in
        let deep = deeper plan (point n) (point j) it.0 (so.wide n below) it.1 in
        omega (arith, deep, here)

    inside_or : (j : ℕ) → (j < met) ⊎ (met ≤ j)
    inside_or j = side (ltb j met) refl
      where
        side : (b : Bool) → ltb j met ≡ b → (j < met) ⊎ (met ≤ j)
        side true e = inl (grind (arith, nat_tests, e))
        side false e = inr (grind (arith, nat_tests, e))

    wide : (j : ℕ) → j < met' → length (point j).at ≡ length plan
    wide j under = elim (inside_or j) [
      | inl inside ↦ so.wide j inside
      | inr past ↦ let it = came j past under in goes_wide plan (point n) it.0 (point j) it.1 (so.wide n below)
    ]

    deep : (j : ℕ) → end ≤ j → j < met' → steps (point j).at ≡ depth + 1
    deep j past under = elim (inside_or j) [
      | inl inside ↦ so.next j past inside
      | inr new ↦ fresh j new under
    ]

    go : (b : Bool) → (n + 1 == end) ≡ b → IsLevel plan point (n + 1) met' (if b then one_more depth else depth) (if b then met' else end)
    go true e =
        let last : n + 1 ≡ end = grind (arith, nat_tests, e) in
        let few = so.few in
        let down : one_more depth ≡ depth + 1 = omega (arith, few, small) in
        record {
          wide = wide;
          few = omega (arith, few, down);
          within = omega arith;
          ahead = λ it. it;
          level = λ j past under. let it = deep j (omega (arith, past, last)) under in omega (arith, it, down);
          next = λ j past under. absurd (omega (arith, past, under));
        }
    go false e =
        let other : n + 1 ≢ end = grind (arith, nat_tests, e) in
        let few = so.few in
        let within = so.within in
        let ahead = so.ahead below in
        record {
          wide = wide;
          few = omega (arith, few);
          within = omega (arith, within, more);
          ahead = λ it. grind (arith, ahead, other);
          level = λ j past under. so.level j (omega (arith, past)) under;
          next = deep;
        }

-- What is told of each look has the depth of the state that was looked at.
pub course : {P : Type 0} (seen : P → Writing) (plan : Plan) (kinds : List ℕ) (s : State) (point : ℕ → Point) (met : ℕ → ℕ) (looked : ℕ)
    → AreMetInTurn plan kinds (beginning plan s) point met looked → ((i : ℕ) → i < looked → i < met i)
    → (old : Progress P) → old.depth ≡ 0 → old.deeper ≡ 1
    → (n : ℕ) → n ≤ looked → (new : Progress P) → Learns (IsTold seen) met n old new
    → IsLevel plan point n (met n) new.depth new.deeper × TellsCourse (λ i. steps (point i).at) met n (seen old.sink) (seen new.sink)
course seen plan kinds s point met looked turns left old flat one zero within new same = (
  level_begins plan s point (met 0) new.depth new.deeper turns.first turns.one (ap (λ p. p.depth) same ∙ flat) (ap (λ p. p.deeper) same ∙ one),
  ap (λ p. seen p.sink) same,
)
course seen plan kinds s point met looked turns left old flat one (suc n) within new (mid, before, it) =
    let inside : n < looked = omega (arith, within) in
    let so = course seen plan kinds s point met looked turns left old flat one n (omega (arith, inside)) mid before in
    let is : n + 1 ≡ suc n = omega arith in
    let small = it.small in
    let on = level_on plan point n (met n) (met (n + 1)) mid.depth mid.deeper so.0 (left n inside) (omega (arith, small, is)) (turns.more n inside)
    (λ j past under. let came = turns.came n j inside past under in (came.0, came.1.1)) (n + 1 == mid.deeper) refl in
    let here = so.0.level n (omega arith) (so.0.ahead (left n inside)) in (
      subst (λ (end : ℕ). IsLevel plan point (suc n) (met (suc n)) new.depth end) (sym it.deeper)
          (subst (λ (depth : ℕ). IsLevel plan point (suc n) (met (suc n)) depth (if suc n == mid.deeper then met (suc n) else mid.deeper)) (sym it.depth)
          (subst (λ (k : ℕ). IsLevel plan point k (met k) (if k == mid.deeper then one_more mid.depth else mid.depth) (if k == mid.deeper then met k else mid.deeper)) is on)),
      (seen mid.sink, so.1, subst (λ (depth : ℕ). TellsLook (suc n) (met (suc n)) depth (seen mid.sink) (seen new.sink)) (sym here) it.tells),
    )

-- ---- a search that ended, and one that was cut off

pub is_searched : {P E : Type 0} (seen : P → Writing) (most : ℕ) (lanes : Lanes) (s : State) (old begun new : Progress P) (r : Result Explored E)
    → begun.sink ≡ old.sink → begun.depth ≡ 0 → begun.deeper ≡ 1
    → IfOk r (λ told. (met : ℕ → ℕ) × (looked : ℕ) × TellsSearch lanes.plan (beginning lanes.plan s) most met looked told × Learns (IsTold seen) met looked begun new)
    → IfOk r (IsSearched most lanes s (seen old.sink) (seen new.sink))
is_searched seen most lanes s old begun new (Ok told) same flat one (met, looked, search, learns) = (
  met,
  looked,
  search,
  subst (λ sink. TellsCourse (λ i. steps (search.point i).at) met looked (seen sink) (seen new.sink)) same
      (course seen lanes.plan search.kinds s search.point met looked search.turns search.ends.left begun flat one looked (omega arith) new learns).1,
)
is_searched seen most lanes s old begun new (Err e) same flat one it = tt

pub is_cut_off : {P E : Type 0} (seen : P → Writing) (most : ℕ) (lanes : Lanes) (s : State) (old begun new : Progress P) (r : Result Explored E)
    → begun.sink ≡ old.sink → begun.depth ≡ 0 → begun.deeper ≡ 1
    → OnErr r ((met : ℕ → ℕ) × (looked : ℕ) × IsUnderWay lanes.plan (beginning lanes.plan s) most met looked × Learns (IsTold seen) met looked begun new)
    → OnErr r (IsCutOff most lanes s (seen old.sink) (seen new.sink))
is_cut_off seen most lanes s old begun new (Ok told) same flat one it = tt
is_cut_off seen most lanes s old begun new (Err e) same flat one (met, looked, search, learns) = (
  met,
  looked,
  search,
  subst (λ sink. TellsCourse (λ i. steps (search.point i).at) met looked (seen sink) (seen new.sink)) same
      (course seen lanes.plan search.kinds s search.point met looked search.turns search.left begun flat one looked (omega arith) new learns).1,
)

-- so far the search was that ended
pub cut_at_end : (most : ℕ) (lanes : Lanes) (s : State) (sink sink' : Writing) (told : Explored) → IsSearched most lanes s sink sink' told → IsCutOff most lanes s sink sink'
cut_at_end most lanes s sink sink' told (met, looked, search, course) =
    (met, looked, record { kinds = search.kinds; alike = λ _. search.alike; point = search.point; turns = search.turns; left = search.ends.left; few = search.ends.few }, course)

-- what a search comes to that ended: a report, or memory was refused
pub outcome_of : (most : ℕ) (input : List ℕ) (lanes : Lanes) (s : State) (sink sink' : Writing) (told : Explored) → IsPlanOf input lanes s
    → TellsVerdict lanes.plan (beginning lanes.plan s) told.verdict → IsSearched most lanes s sink sink' told → (r : Result Findings OrdersFault)
    → IfOk r (λ found. found.report.code ≡ verdict_code told.verdict) → IfOk r (λ found. option_map (λ text. text.items) found.order ≡ order_of lanes told.verdict)
    → IfErr r (λ fault. fault ≡ orders.Memory) → IsOrdersOutcome most input sink sink' r
outcome_of most input lanes s sink sink' told plan verdict searched (Ok found) code order fault = (lanes, s, plan, (told, verdict, code, order, searched))
outcome_of most input lanes s sink sink' told plan verdict searched (Err cause) code order fault =
    subst (λ (it : OrdersFault). IsFirstFault input it × EndsEarly most input it sink sink') (sym fault)
    (tt, inr (lanes, s, plan, cut_at_end most lanes s sink sink' told searched))

-- nothing was told of a search where there was none
pub told_none : (most : ℕ) (input : List ℕ) (fault : OrdersFault) (sink : Writing) → EndsEarly most input fault sink sink
told_none most input (orders.Run fault) sink = refl
told_none most input (orders.NoThread line) sink = refl
told_none most input (orders.Race line) sink = refl
told_none most input orders.Memory sink = inl refl

pub told_fault : (fault : OrdersFault) (line : List ℕ) (errors errors' : Writing) (status : ℕ) → line ≡ order_message fault → Says errors errors' line → status ≡ order_status fault
    → TellsOrdersFault fault errors errors' status
told_fault fault line errors errors' status same says is = inl (subst (Says errors errors') same says, is)
