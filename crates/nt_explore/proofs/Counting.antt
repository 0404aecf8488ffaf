-- How many states, steps and hangs there are.
use Rattle.std.proofs.Common.{◌≡◌, ◌<◌, ◌≤◌, ℕ, zero, suc, ◌+◌, Bool, true, false, List, length, refl, sym, ap, ◌∙◌, subst, arith, Option, inl, inr, ◌⊎◌, if◌then◌else◌}
use Rattle.std.specs.Prelude.{nat_lt, reverse, ◌↔◌, Result, Ok, Err, OnErr}
use Rattle.std.proofs.lemmas.Bool.{false≢true}
use Rattle.std.proofs.lemmas.Bool.Decides.{nat_tests}
use Rattle.nt_calls.specs.State.{State}
use Rattle.nt_look.specs.Orders.{Plan, Point, Hangs, place}
use Rattle.nt_apart.specs.Fewer.{IsLowestChosen}
use Rattle.nt_lanes.specs.Lanes.{AreKinds, TriedGoes, is_tried, beginning}
use Rattle.nt_look.proofs.Searching.{lane_there}
use Rattle.nt_explore.specs.declared.met.Visit.{Visit}
use Rattle.nt_explore.specs.declared.loss.Edge.{Edge}
use Rattle.nt_explore.specs.declared.search.OrderVerdict.{OrderVerdict}
use Rattle.nt_explore.specs.declared.search.OrderVerdict.TheVariants as verdict
use Rattle.nt_explore.specs.Search.{AreMetInTurn, IsUnderWay, AreDistinct, IsOneIf, SumsTo, CountsTo, CanGo, TellsBound, Learns}
use Rattle.nt_explore.specs.Walk.{Tries}
use Rattle.nt_explore.specs.Levels.{AreLooked, AreMet, LiesAt, then_met, one_more_if, IsFirst}
use Rattle.nt_explore.proofs.Ways.{order_of}
use Rattle.std.proofs.lemmas.List.{length-reverse}
use Rattle.nt_explore.proofs.Losing.{below_or}
use Rattle.nt_explore.proofs.Walks.{sums_on}

-- ---- sums

pub sums_same : (is js : ℕ → ℕ → Type 0) (n sum : ℕ) → ((i k : ℕ) → i < n → is i k → js i k) → SumsTo is n sum → SumsTo js n sum
sums_same is js zero sum same so = so
sums_same is js (suc n) sum same so = (so.0, so.1, sums_same is js n so.0 (λ i k below it. same i k (omega (arith, below)) it) so.2, same n so.1 (omega arith) so.3, so.4)

last_none : (so : Type 0) (before last sum : ℕ) → (so → ⊥) → before ≡ 0 → IsOneIf so last → sum ≡ before + last → sum ≡ 0
last_none so before last sum never none (inl one) all = absurd (never one.0)
last_none so before last sum never none (inr zero') all = let no = zero'.1 in omega (arith, none, no, all)

-- none of them is so
pub counts_none : (so : ℕ → Type 0) (n sum : ℕ) → ((i : ℕ) → i < n → so i → ⊥) → CountsTo so n sum → sum ≡ 0
counts_none so zero sum none is = is
counts_none so (suc n) sum none is = last_none (so n) is.0 is.1 sum (none n (omega arith)) (counts_none so n is.0 (λ i below it. none i (omega (arith, below)) it) is.2) is.3 is.4

one_if : (so : Type 0) (b : Bool) (n : ℕ) → (b ≡ true ↔ so) → (k : ℕ) × IsOneIf so k × (one_more_if b n ≡ n + k)
one_if so true n told = (1, inl (told.0 refl, refl), refl)
one_if so false n told = (0, inr (λ it. false≢true (told.1 it), refl), omega arith)

-- ---- after each look

pub then_old : (met : ℕ → ℕ) (looked states i : ℕ) → i ≤ looked → then_met met looked states i ≡ met i
then_old met looked states i below = go (nat_lt looked i) refl
  where
    go : (b : Bool) → nat_lt looked i ≡ b → (if b then states else met i) ≡ met i
    go true e = let less : looked < i = grind (arith, nat_tests, e) in absurd (omega (arith, less, below))
    go false e = refl

pub then_new : (met : ℕ → ℕ) (looked states i : ℕ) → looked < i → then_met met looked states i ≡ states
then_new met looked states i past = go (nat_lt looked i) refl
  where
    go : (b : Bool) → nat_lt looked i ≡ b → (if b then states else met i) ≡ states
    go true e = refl
    go false e = let more : i ≤ looked = grind (arith, nat_tests, e) in absurd (omega (arith, more, past))

pub met_begins : (plan : Plan) (kinds : List ℕ) (s : State) → AreMet plan kinds (beginning plan s) 0 1 0 0 (λ i. beginning plan s) (λ i. 1)
met_begins plan kinds s = record {
  turns = record {
    first = refl;
    one = refl;
    more = λ i below. absurd (omega (arith, below));
    leads = λ i lane q below. absurd (omega (arith, below));
    lowest = λ i below. absurd (omega (arith, below));
    came = λ i j below. absurd (omega (arith, below));
    once = λ i j first below. absurd (omega (arith, first, below));
  };
  counts = record { of_states = refl; of_steps = refl; of_hangs = refl };
  low = λ i below. omega arith;
}

pub met_more : (plan : Plan) (kinds : List ℕ) (start : Point) (old new : List Visit) (pairs pairs' : List Edge) (looked hangs hangs' : ℕ) (hung : Bool) (point : ℕ → Point) (met : ℕ → ℕ) → looked < length old
    → (hung ≡ true ↔ Hangs plan (point looked)) → hangs' ≡ one_more_if hung hangs
    → IsLowestChosen plan (point looked) (is_tried kinds (point looked))
    → (tries : Tries plan kinds start old new pairs pairs' (point looked) looked (length plan) point)
    → AreMet plan kinds start looked (length old) (length pairs) hangs point met
    → AreMet plan kinds start (looked + 1) (length new) (length pairs') hangs' tries.points (then_met met looked (length new))
met_more plan kinds start old new pairs pairs' looked hangs hangs' hung point met within told becomes least tries so = record {
  turns = record {
    first = same 0 (omega (arith, within)) ∙ so.turns.first;
    one = before 0 (omega arith) ∙ so.turns.one;
    more = λ i below. more i (below_or i looked below);
    leads = λ i lane q below goes. leads i lane q goes (below_or i looked below);
    lowest = λ i below. lowest i (below_or i looked below);
    came = λ i j below past under. came i j past under (below_or i looked below);
    once = subst (AreDistinct tries.points) (sym (after (looked + 1) (omega arith))) tries.grows.walk.differ;
  };
  counts = record {
    of_states = sym (after (looked + 1) (omega arith));
    of_steps = steps;
    of_hangs = count;
  };
  low = λ i below. low i below (nat_lt looked i) refl;
}
  where
    met' : ℕ → ℕ
    met' = then_met met looked (length new)

    before : (i : ℕ) → i ≤ looked → then_met met looked (length new) i ≡ met i
    before i below = then_old met looked (length new) i below

    after : (i : ℕ) → looked < i → then_met met looked (length new) i ≡ length new
    after i past = then_new met looked (length new) i past

    all : length old ≡ met looked
    all = so.counts.of_states

    longer : length old ≤ length new
    longer = tries.grows.longer

    same : (i : ℕ) → i < length old → tries.points i ≡ point i
    same = tries.grows.same

    more : (i : ℕ) → (i < looked) ⊎ (i ≡ looked) → then_met met looked (length new) i ≤ then_met met looked (length new) (i + 1)
    more i (inl less) =
        let a = before i (omega (arith, less)) in let b = before (i + 1) (omega (arith, less)) in
        let up = so.turns.more i less in omega (arith, a, b, up)
    more i (inr is) =
        let a = before i (omega (arith, is)) in let b = after (i + 1) (omega (arith, is)) in
        let here = ap met is in omega (arith, a, b, here, all, longer)

    lowest : (i : ℕ) → (i < looked) ⊎ (i ≡ looked) → IsLowestChosen plan (tries.points i) (is_tried kinds (tries.points i))
    lowest i (inl less) = subst (λ (p : Point). IsLowestChosen plan p (is_tried kinds p)) (sym (same i (omega (arith, less, within)))) (so.turns.lowest i less)
    lowest i (inr is) = subst (λ (p : Point). IsLowestChosen plan p (is_tried kinds p)) (sym (ap tries.points is ∙ same looked within)) least

    leads : (i lane : ℕ) (q : Point) → TriedGoes plan kinds (tries.points i) lane q → (i < looked) ⊎ (i ≡ looked) → (j : ℕ) × (j < then_met met looked (length new) (i + 1)) × (tries.points j ≡ q)
    leads i lane q goes (inl less) =
        let it = so.turns.leads i lane q less (subst (λ (p : Point). TriedGoes plan kinds p lane q) (same i (omega (arith, less, within))) goes) in
        let under = it.1 in
        let b = before (i + 1) (omega (arith, less)) in
        let top = so.low (i + 1) (omega (arith, less)) in
        (it.0, omega (arith, under, b), same it.0 (omega (arith, under, top)) ∙ it.2)
    leads i lane q goes (inr is) =
        let here : TriedGoes plan kinds (point looked) lane q = subst (λ (p : Point). TriedGoes plan kinds p lane q) (ap tries.points is ∙ same looked within) goes in
        let it = tries.tried lane q (lane_there plan lane (place (point looked) lane) here.1.ask here.1.next) here in
        let under = it.1 in
        let b = after (i + 1) (omega (arith, is)) in
        (it.0, omega (arith, under, b), it.2)

    came : (i j : ℕ) → then_met met looked (length new) i ≤ j → j < then_met met looked (length new) (i + 1) → (i < looked) ⊎ (i ≡ looked) → (lane : ℕ) × TriedGoes plan kinds (tries.points i) lane (tries.points j)
    came i j past under (inl less) =
        let a = before i (omega (arith, less)) in
        let b = before (i + 1) (omega (arith, less)) in
        let top = so.low (i + 1) (omega (arith, less)) in
        let it = so.turns.came i j less (omega (arith, a, past)) (omega (arith, b, under)) in
        let from = sym (same i (omega (arith, less, within))) in
        let to = sym (same j (omega (arith, b, under, top))) in
        (it.0, subst (λ (p : Point). TriedGoes plan kinds p it.0 (tries.points j)) from (subst (λ (q : Point). TriedGoes plan kinds (point i) it.0 q) to it.1))
    came i j past under (inr is) =
        let a = before i (omega (arith, is)) in
        let b = after (i + 1) (omega (arith, is)) in
        let here = ap met is in
        let it = tries.came j (omega (arith, a, past, here, all)) (omega (arith, b, under)) in
        let from = sym (ap tries.points is ∙ same looked within) in
        (it.0, subst (λ (p : Point). TriedGoes plan kinds p it.0 (tries.points j)) from it.1)

    steps : SumsTo (λ i. CountsTo (CanGo plan kinds (tries.points i)) (length plan)) (looked + 1) (length pairs')
    steps =
        let one = tries.count in
        sums_on (λ i. CountsTo (CanGo plan kinds (tries.points i)) (length plan)) looked (length pairs) one.0 (length pairs')
        (sums_same (λ i. CountsTo (CanGo plan kinds (point i)) (length plan)) (λ i. CountsTo (CanGo plan kinds (tries.points i)) (length plan)) looked (length pairs)
        (λ i k below it. subst (λ (p : Point). CountsTo (CanGo plan kinds p) (length plan) k) (sym (same i (omega (arith, below, within)))) it) so.counts.of_steps)
        (subst (λ (p : Point). CountsTo (CanGo plan kinds p) (length plan) one.0) (sym (same looked within)) one.1)
        one.2

    count : CountsTo (λ i. Hangs plan (tries.points i)) (looked + 1) hangs'
    count =
        let one = one_if (Hangs plan (point looked)) hung hangs told in
        sums_on (λ i. IsOneIf (Hangs plan (tries.points i))) looked hangs one.0 hangs'
        (sums_same (λ i. IsOneIf (Hangs plan (point i))) (λ i. IsOneIf (Hangs plan (tries.points i))) looked hangs
        (λ i k below it. subst (λ (p : Point). IsOneIf (Hangs plan p) k) (sym (same i (omega (arith, below, within)))) it) so.counts.of_hangs)
        (subst (λ (p : Point). IsOneIf (Hangs plan p) one.0) (sym (same looked within)) one.1)
        (becomes ∙ one.2)

    low : (i : ℕ) → i ≤ looked + 1 → (b : Bool) → nat_lt looked i ≡ b → then_met met looked (length new) i ≤ length new
    low i below true e =
        let past : looked < i = grind (arith, nat_tests, e) in
        let is = after i past in omega (arith, is)
    low i below false e =
        let less : i ≤ looked = grind (arith, nat_tests, e) in
        let is = before i less in let top = so.low i less in omega (arith, is, top, longer)

-- ---- while it goes on

-- the search did not end before
abbrev pub HasLeft : ℕ → (ℕ → ℕ) → ℕ → Type 0
HasLeft most met looked = ((i : ℕ) → i < looked → i < met i) × ((i : ℕ) → 0 < i → i < looked → met i ≤ most)

pub on_refusal : {X E so : Type 0} (r : Result X E) → so → OnErr r so
on_refusal (Ok x) it = tt
on_refusal (Err e) it = it

pub under_way : (plan : Plan) (kinds : List ℕ) (start : Point) (most : ℕ) (point : ℕ → Point) (met : ℕ → ℕ) (looked : ℕ) → (0 < looked → AreKinds plan start.state.threads kinds) → AreMetInTurn plan kinds start point met looked → HasLeft most met looked → IsUnderWay plan start most met looked
under_way plan kinds start most point met looked alike turns left = record { kinds = kinds; alike = alike; point = point; turns = turns; left = left.0; few = left.1 }

pub left_none : (most : ℕ) (met : ℕ → ℕ) → HasLeft most met 0
left_none most met = (λ i below. absurd (omega (arith, below)), λ i some below. absurd (omega (arith, below)))

pub left_more : (most : ℕ) (met : ℕ → ℕ) (looked states : ℕ) → looked < met looked → (0 < looked → met looked ≤ most) → HasLeft most met looked → HasLeft most (then_met met looked states) (looked + 1)
left_more most met looked states within few so = (
  λ i below. left i (below_or i looked below),
  λ i some below. under i some (below_or i looked below),
)
  where
    left : (i : ℕ) → (i < looked) ⊎ (i ≡ looked) → i < then_met met looked states i
    left i (inl less) = let a = then_old met looked states i (omega (arith, less)) in let it = so.0 i less in omega (arith, a, it)
    left i (inr is) = let a = then_old met looked states i (omega (arith, is)) in let here = ap met is in omega (arith, a, here, is, within)

    under : (i : ℕ) → 0 < i → (i < looked) ⊎ (i ≡ looked) → then_met met looked states i ≤ most
    under i some (inl less) = let a = then_old met looked states i (omega (arith, less)) in let it = so.1 i some less in omega (arith, a, it)
    under i some (inr is) = let a = then_old met looked states i (omega (arith, is)) in let here = ap met is in let it = few (omega (arith, some, is)) in omega (arith, a, here, it)

-- ---- where the bound is told of

pub tells_bound : (plan : Plan) (kinds : List ℕ) (s : State) (visits : List Visit) (most looked states hangs : ℕ) (first : Option ℕ) (point : ℕ → Point) (told : OrderVerdict)
    → AreLooked plan kinds (beginning plan s) visits looked first point → CountsTo (λ i. Hangs plan (point i)) looked hangs
    → states ≡ length visits → (looked < states → most < states) → LiesAt visits looked first told → TellsBound plan (beginning plan s) (point looked) most looked states hangs told
tells_bound plan kinds s visits most looked states hangs first point (verdict.Met level) so count all over lies = record {
  many = over (let more = lies.1 in omega (arith, more, all));
  left = let more = lies.1 in omega (arith, more, all);
  none = counts_none (λ i. Hangs plan (point i)) looked hangs (subst (IsFirst plan point looked) lies.0 so.told) count;
  deep = (reverse lies.2, length-reverse lies.2 ∙ lies.3, order_of plan (beginning plan s) lies.2 (point looked) (lies.4 plan (beginning plan s) point so.walk));
}
tells_bound plan kinds s visits most looked states hangs first point verdict.None so count all over lies = tt
tells_bound plan kinds s visits most looked states hangs first point (verdict.Hangs lanes loss) so count all over lies = tt

-- ---- what the watcher learns

learns_same : {W : Type 0} (learns : W → ℕ → ℕ → W → Type 0) (met met' : ℕ → ℕ) (n : ℕ) (old new : W) → ((i : ℕ) → i ≤ n → met i ≡ met' i) → Learns learns met n old new → Learns learns met' n old new
learns_same learns met met' zero old new same so = so
learns_same learns met met' (suc n) old new same so =
    (so.0, learns_same learns met met' n old so.0 (λ i below. same i (omega (arith, below))) so.1, subst (λ (k : ℕ). learns so.0 (suc n) k new) (same (suc n) (omega arith)) so.2)

pub learns_more : {W : Type 0} (learns : W → ℕ → ℕ → W → Type 0) (met : ℕ → ℕ) (looked states : ℕ) (old mid new : W) → Learns learns met looked old mid → learns mid (looked + 1) states new → Learns learns (then_met met looked states) (looked + 1) old new
learns_more learns met looked states old mid new so one =
    let more : looked + 1 ≡ suc looked = omega arith in
    let is = then_new met looked states (suc looked) (omega arith) in
    subst (λ (n : ℕ). Learns learns (then_met met looked states) n old new) (sym more) (
      mid,
      learns_same learns met (then_met met looked states) looked old mid (λ i below. sym (then_old met looked states i below)) so,
      subst (λ (k : ℕ). learns mid (suc looked) k new) (sym is) (subst (λ (k : ℕ). learns mid k states new) more one),
    )
