-- Orders, as turns and as steps of a search.
use Rattle.std.proofs.Common.{◌≡◌, ◌≤◌, ◌<◌, ℕ, zero, suc, ◌+◌, Bool, true, false, ◌||◌, List, [], ◌∷◌, length, refl, sym, ap, ◌∙◌, subst, arith, Option, Some, None, is_some, inl, inr, Contains}
use Rattle.std.specs.Prelude.{slice_set, slice_index_or, slice_get, is_ok}
use Rattle.std.specs.FinMap.{get}
use Rattle.std.proofs.lemmas.Bool.{false≢true}
use Rattle.std.proofs.lemmas.Bool.Decides.{nat_tests}
use Rattle.std.proofs.lemmas.List.{length-set}
use Rattle.std.proofs.lemmas.Option.{slice_get_within}
use Rattle.nt_calls.specs.declared.call.Act.{Act}
use Rattle.nt_calls.specs.declared.call.Call.{Call}
use Rattle.nt_calls.specs.State.{State, pends}
use Rattle.nt_calls.specs.Runs as runs
use Rattle.nt_calls.specs.Runs.{Turn, Turns, IsTurn}
use Rattle.nt_machine.specs.Dispatcher.{Dispatcher, state}
use Rattle.nt_machine.specs.Lawful.{IsLawful}
use Rattle.nt_look.specs.Hangs.{IsKnot}
use Rattle.nt_look.specs.Hanging.{AreBy}
use Rattle.nt_look.specs.Orders.{Ask, Calls, Passes, Tries, Plan, Point, place, asks, has_more, goes_on, AreTried, IsAskMade, Goes, Order, Hangs, IsLost, IsClosed, steps}
use Rattle.nt_look.proofs.Standstill.{stuck_turns}
use Rattle.nt_look.proofs.Knots.{knots_stay}

-- ---- places

set_later : (ns : List ℕ) (i t : ℕ) → slice_index_or ns t 0 ≤ slice_index_or (slice_set ns i (slice_index_or ns i 0 + 1)) t 0
set_later [] i t = omega arith
set_later (n ∷ ns) zero zero = omega arith
set_later (n ∷ ns) zero (suc t) = omega arith
set_later (n ∷ ns) (suc i) zero = omega arith
set_later (n ∷ ns) (suc i) (suc t) = set_later ns i t

goes_later : (plan : Plan) (old : Point) (lane : ℕ) (new : Point) → Goes plan old lane new → (t : ℕ) → place old t ≤ place new t
goes_later plan old lane new goes t = subst (λ (ns : List ℕ). place old t ≤ slice_index_or ns t 0) (sym goes.at) (set_later old.at lane t)

-- who has more to do later had more before
more_before : (plan : Plan) (a p : Point) (t : ℕ) → place a t ≤ place p t → has_more plan p t ≡ true → has_more plan a t ≡ true
more_before plan a p t later more =
    let below : place p t < length (asks plan t) = grind (arith, nat_tests, more) in
    let first : place a t < length (asks plan t) = omega (arith, below, later) in
    grind (arith, nat_tests, first)

or_first : (a b : Bool) → a ≡ true → (a || b) ≡ true
or_first true b e = refl
or_first false b e = absurd (false≢true e)

or_second : (a b : Bool) → b ≡ true → (a || b) ≡ true
or_second true b e = refl
or_second false b e = e

-- ---- an order is turns of those who go on

pub record AsTurns (plan : Plan) (a p q : Point) : Type 0 where
  pub turns : List Turn
  pub run : Turns p.state turns q.state
  pub by : AreBy (goes_on plan a) turns

-- acts that are tried are turns of their thread, before others
tried_turns : (callers : ℕ → Bool) (lane : ℕ) → callers lane ≡ true → (acts : List (Option Act)) (goes : Bool) (old mid end : State) → AreTried old lane acts goes mid
    → (rest : List Turn) → Turns mid rest end → AreBy callers rest → (turns : List Turn) × Turns old turns end × AreBy callers turns
tried_turns callers lane may [] goes old mid end tried rest run by = (rest, subst (λ (s : State). Turns s rest end) tried run, by)
tried_turns callers lane may (None ∷ acts) goes old mid end tried rest run by = tried_turns callers lane may acts true old mid end tried rest run by
tried_turns callers lane may (Some act ∷ acts) false old mid end tried rest run by = tried_turns callers lane may acts false old mid end tried rest run by
tried_turns callers lane may (Some act ∷ acts) true old mid end (result, grants, next, enough, called, more) rest run by =
    let it = tried_turns callers lane may acts (is_ok result) next mid end more rest run by in
    (runs.Calls lane (Call.Act act) result grants ∷ it.0, (next, called, it.1), (may, it.2))

pub order_turns : (plan : Plan) (lanes : List ℕ) (a p q : Point) → ((t : ℕ) → place a t ≤ place p t) → Order plan p lanes q → AsTurns plan a p q
order_turns plan [] a p q later order = record { turns = []; run = ap (λ (x : Point). x.state) order; by = tt }
order_turns plan (lane ∷ lanes) a p q later order = go goes.ask goes.next goes.made (order_turns plan lanes a mid q (λ t. between t) order.2)
  where
    mid : Point
    mid = order.0

    goes : Goes plan p lane mid
    goes = order.1

    between : (t : ℕ) → place a t ≤ place mid t
    between t = let first = later t in let second = goes_later plan p lane mid goes t in omega (arith, first, second)

    may : (ask : Ask) → slice_get (asks plan lane) (place p lane) ≡ Some ask → goes_on plan a lane ≡ true
    may ask next =
        let inside = slice_get_within (asks plan lane) (place p lane) ask next in
        let more : has_more plan p lane ≡ true = grind (arith, nat_tests, inside) in
        or_first (has_more plan a lane) (pends a.state lane) (more_before plan a p lane (later lane) more)

    go : (ask : Ask) → slice_get (asks plan lane) (place p lane) ≡ Some ask → IsAskMade p.state lane ask mid.state → AsTurns plan a mid q → AsTurns plan a p q
    go (Calls call) next made rest = record {
      turns = runs.Calls lane call made.0 made.1 ∷ rest.turns;
      run = (mid.state, made.3, rest.run);
      by = (may (Calls call) next, rest.by);
    }
    go (Passes moment) next made rest = record {
      turns = runs.Ticks lane moment made.0 made.1 ∷ rest.turns;
      run = (mid.state, made.2, rest.run);
      by = (made.3, rest.by);
    }
    go (Tries acts) next made rest =
        let it = tried_turns (goes_on plan a) lane (may (Tries acts) next) acts true p.state mid.state q.state made rest.turns rest.run rest.by in
        record { turns = it.0; run = it.1; by = it.2 }

-- ---- a hang is for good

waits_on : (a b : State) (t : ℕ) → get b.waits t ≡ get a.waits t → pends a t ≡ true → pends b t ≡ true
waits_on a b t same waits = ap is_some same ∙ waits

good_for : (d : Dispatcher) (plan : Plan) (p : Point) → IsLawful d → p.state ≡ state d → Hangs plan p
    → (t : ℕ) × (pends p.state t ≡ true) × ((lanes : List ℕ) (q : Point) → Order plan p lanes q → get q.state.waits t ≡ get p.state.waits t)
good_for d plan p lawful is (inl (stuck, t, waits)) = (
  t,
  waits,
  λ lanes q order.
      let turns = order_turns plan lanes p p q (λ u. omega arith) order in
      ap (λ m. get m t) (stuck_turns (goes_on plan p) turns.turns p.state q.state stuck turns.by turns.run).1,
)
good_for d plan p lawful is (inr (knot, tied, t, inside, waits)) = (
  t,
  waits,
  λ lanes q order.
      let turns = order_turns plan lanes p p q (λ u. omega arith) order in
      let held = knots_stay d (goes_on plan p) knot turns.turns q.state lawful (subst (IsKnot (goes_on plan p) knot) is tied) turns.by (subst (λ (s : State). Turns s turns.turns q.state) is turns.run) in
      (held.1 t inside (or_second (has_more plan p t) (pends p.state t) waits)).1 ∙ ap (λ (s : State). get s.waits t) (sym is),
)

pub for_good : (d : Dispatcher) (plan : Plan) (p : Point) → IsLawful d → p.state ≡ state d → Hangs plan p
    → (t : ℕ) × IsLost plan p t × ((lanes : List ℕ) (q : Point) → Order plan p lanes q → get q.state.waits t ≡ get p.state.waits t)
for_good d plan p lawful is hangs =
    let good = good_for d plan p lawful is hangs in
    (good.0, λ lanes q order. waits_on p.state q.state good.0 (good.2 lanes q order) good.1, good.2)

-- ---- losses

pub loss_forth : (plan : Plan) (p : Point) (t : ℕ) → IsLost plan p t → (pends p.state t ≡ true) × ((lane : ℕ) (q : Point) → Goes plan p lane q → IsLost plan q t)
loss_forth plan p t lost = (lost [] p refl, λ lane q goes lanes r order. lost (lane ∷ lanes) r (q, goes, order))

pub loss_back : (plan : Plan) (p : Point) (t : ℕ) → (pends p.state t ≡ true) × ((lane : ℕ) (q : Point) → Goes plan p lane q → IsLost plan q t) → IsLost plan p t
loss_back plan p t both [] q order = subst (λ (x : Point). pends x.state t ≡ true) (sym order) both.0
loss_back plan p t both (lane ∷ lanes) q order = both.1 lane order.0 order.1 lanes q order.2

-- ---- a closed search

pub come_to : (plan : Plan) (start : Point) (met : List Point) → IsClosed plan start met → (lanes : List ℕ) (p q : Point) → Contains met p → Order plan p lanes q → Contains met q
come_to plan start met closed [] p q has order = subst (Contains met) (sym order) has
come_to plan start met closed (lane ∷ lanes) p q has order = come_to plan start met closed lanes order.0 q (closed.closed p order.0 lane has order.1) order.2

-- ---- steps

steps_set : (ns : List ℕ) (i : ℕ) → i < length ns → steps (slice_set ns i (slice_index_or ns i 0 + 1)) ≡ steps ns + 1
steps_set [] i below = absurd (omega (arith, below))
steps_set (n ∷ ns) zero below = let it : (n + 1) + steps ns ≡ (n + steps ns) + 1 = omega arith in it
steps_set (n ∷ ns) (suc i) below =
    let rest = steps_set ns i (omega (arith, below)) in
    let it : n + steps (slice_set ns i (slice_index_or ns i 0 + 1)) ≡ (n + steps ns) + 1 = omega (arith, rest) in
    it

pub lane_there : (plan : Plan) (lane : ℕ) (place : ℕ) (ask : Ask) → slice_get (asks plan lane) place ≡ Some ask → lane < length plan
lane_there [] lane place ask is = let no : None ≡ Some ask = is in (cc)
lane_there (l ∷ plan) zero place ask is = omega arith
lane_there (l ∷ plan) (suc lane) place ask is = let below = lane_there plan lane place ask is in omega (arith, below)

pub steps_counted : (plan : Plan) (lanes : List ℕ) (p q : Point) → length p.at ≡ length plan → Order plan p lanes q → steps q.at ≡ steps p.at + length lanes
steps_counted plan [] p q count order = let same = ap (λ (x : Point). steps x.at) order in omega (arith, same)
steps_counted plan (lane ∷ lanes) p q count order =
    let goes = order.1 in
    let mid : Point = order.0 in
    let below = lane_there plan lane (place p lane) goes.ask goes.next in
    let one : steps mid.at ≡ steps p.at + 1 = ap steps goes.at ∙ steps_set p.at lane (omega (arith, below, count)) in
    let same : length mid.at ≡ length plan = ap (λ (ns : List ℕ). length ns) goes.at ∙ (length-set p.at lane (place p lane + 1) ∙ count) in
    let rest = steps_counted plan lanes mid q same order.2 in
    omega (arith, one, rest)
