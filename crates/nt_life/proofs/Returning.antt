-- The turn comes round to each number.
use Rattle.std.proofs.Common.{◌≡◌, ◌<◌, ◌≤◌, ℕ, zero, suc, ◌+◌, ◌-◌, ◌%◌, Bool, true, false, ◌&&◌, ◌||◌, not, List, length, get_or, refl, sym, ap, ◌∙◌, subst, arith, inl, inr, ◌⊎◌}
use Rattle.std.specs.Prelude.{nat_lt, if◌then◌else◌}
use Rattle.std.proofs.lemmas.Bool.{true≢false}
use Rattle.std.proofs.lemmas.Bool.Decides.{nat_tests}
use Rattle.std.proofs.lemmas.List.{get_or_default}
use Rattle.std.proofs.Math.Nat.{mod-eq_of_lt, mod_self}
use Rattle.nt_calls.specs.declared.call.Act.{Act}
use Rattle.nt_calls.specs.declared.call.Call.{Call}
use Rattle.nt_calls.specs.State.{State}
use Rattle.nt_core.specs.Renewals.{is_vacant}
use Rattle.nt_life.specs.Lasting.{Spares, is_creation, is_last_vacant, is_turn_vacant, can_give_last, can_give_turn, finds_object, last_unnamed, turn_unnamed, turn_place, next_turn, turn_after}
use Rattle.nt_life.specs.Laws.{CreatesBefore, NumbersComeBack}

-- ---- what a creation finds

test_some : (n : ℕ) → 0 < n → nat_lt 0 n ≡ true
test_some n some = grind (arith, nat_tests, some)

-- it finds the number whose turn it is, if the object is gone
finds_turn : (s : State) (spare : Spares) → 0 < length spare.closed → 0 < length spare.unnamed → is_vacant s (turn_unnamed spare) ≡ true → finds_object s spare ≡ true
finds_turn s spare closed some vacant = go (can_give_last s spare) (can_give_turn s spare) given
  where
    given : can_give_turn s spare ≡ true
    given = ap (λ b. b && is_turn_vacant s spare) (test_some (length spare.closed) closed) ∙ (ap (λ b. b && is_vacant s (turn_unnamed spare)) (test_some (length spare.unnamed) some) ∙ vacant)

    go : (last turn : Bool) → turn ≡ true → (last || turn) ≡ true
    go true turn e = refl
    go false turn e = e

-- where it finds none, the next number has its turn
next_place : (s : State) (old new : Spares) (act : Act) → is_creation act ≡ true → 0 < length old.closed → 0 < length old.unnamed → finds_object s old ≡ false → new.turn ≡ turn_after s old (Call.Act act) → new.turn ≡ turn_place old + 1
next_place s old new act creates closed some lost turned = turned ∙ (step (is_creation act) (nat_lt 0 (length old.closed)) creates (test_some (length old.closed) closed) ∙ next (nat_lt 0 (length old.unnamed)) (is_vacant s (last_unnamed old)) (test_some (length old.unnamed) some) unfound)
  where
    step : (a b : Bool) → a ≡ true → b ≡ true → (if a && b then next_turn s old else old.turn) ≡ next_turn s old
    step true true p q = refl
    step true false p q = absurd (true≢false (sym q))
    step false b p q = absurd (true≢false (sym p))

    next : (a b : Bool) → a ≡ true → b ≡ false → (if a && not b then turn_place old + 1 else old.turn) ≡ turn_place old + 1
    next true false p q = refl
    next true true p q = absurd (true≢false q)
    next false b p q = absurd (true≢false (sym p))

    first : (a b : Bool) → (a || b) ≡ false → a ≡ false
    first false b e = refl
    first true b e = absurd (true≢false e)

    unfound : is_vacant s (last_unnamed old) ≡ false
    unfound =
        sym (ap (λ b. b && is_last_vacant s old) (test_some (length old.closed) closed) ∙ ap (λ b. b && is_vacant s (last_unnamed old)) (test_some (length old.unnamed) some))
        ∙ first (can_give_last s old) (can_give_turn s old) lost

-- ---- round and round

-- the next place: the first comes after the last
next_of : (m v : ℕ) → v < m → ((v + 1 < m) × ((v + 1) % m ≡ v + 1)) ⊎ ((v + 1 ≡ m) × ((v + 1) % m ≡ 0))
next_of m v below = go (nat_lt (v + 1) m) refl
  where
    go : (b : Bool) → nat_lt (v + 1) m ≡ b → ((v + 1 < m) × ((v + 1) % m ≡ v + 1)) ⊎ ((v + 1 ≡ m) × ((v + 1) % m ≡ 0))
    go true e = let less : v + 1 < m = grind (arith, nat_tests, e) in inl (less, mod-eq_of_lt less)
    go false e =
        let past : m ≤ v + 1 = grind (arith, nat_tests, e) in
        let is : v + 1 ≡ m = omega (arith, past, below) in
        inr (is, ap (λ (k : ℕ). k % m) is ∙ mod_self m)

-- some creation finds a number
abbrev pub Finds : (ℕ → State) → (ℕ → Spares) → ℕ → Type 0
Finds s spare count = (i : ℕ) × (i < count) × (finds_object (s i) (spare i) ≡ true)

-- the turn stands d places before the number of an object that is gone
abbrev pub Before : ℕ → ℕ → ℕ → ℕ → Type 0
Before v d place count = (v + d ≡ place) ⊎ (v + d ≡ place + count)

-- it is this number's turn
at_last : (s : State) (spare : Spares) (numbers : List ℕ) (place object : ℕ) → spare.unnamed ≡ numbers → place < length numbers → get_or numbers place 0 ≡ object → 0 < length spare.closed → is_vacant s object ≡ true → spare.turn % length numbers ≡ place → finds_object s spare ≡ true
at_last s spare numbers place object same inside read closed vacant here =
    let count = ap (λ (ns : List ℕ). length ns) same in
    let turn : turn_unnamed spare ≡ object = ap (λ (ns : List ℕ). get_or ns (spare.turn % length ns) 0) same ∙ (ap (λ (k : ℕ). get_or numbers k 0) here ∙ read) in
    finds_turn s spare closed (omega (arith, count, inside)) (subst (λ (o : ℕ). is_vacant s o ≡ true) (sym turn) vacant)

far : (s : ℕ → State) (spare : ℕ → Spares) (act : ℕ → Act) (object : ℕ) (numbers : List ℕ) (place : ℕ) → place < length numbers → get_or numbers place 0 ≡ object
    → ((i : ℕ) → i < length numbers → CreatesBefore (s i) (spare i) (spare (i + 1)) (act i) object)
    → (d i : ℕ) → i + d < length numbers → (spare i).unnamed ≡ numbers → Before ((spare i).turn % length numbers) d place (length numbers) → Finds s spare (length numbers)
far s spare act object numbers place inside read creates zero i below same before =
    let so = creates i (omega (arith, below)) in
    (i, omega (arith, below), at_last (s i) (spare i) numbers place object same inside read so.closed so.vacant (here before))
  where
    here : Before ((spare i).turn % length numbers) 0 place (length numbers) → (spare i).turn % length numbers ≡ place
    here (inl is) = omega (arith, is)
    here (inr is) =
        let low : (spare i).turn % length numbers < length numbers = omega (arith, inside) in
        absurd (omega (arith, is, low))
far s spare act object numbers place inside read creates (suc d) i below same before = go (finds_object (s i) (spare i)) refl (λ kept turn. far s spare act object numbers place inside read creates d (i + 1) (omega (arith, below)) kept turn)
  where
    so : CreatesBefore (s i) (spare i) (spare (i + 1)) (act i) object
    so = creates i (omega (arith, below))

    count : length (spare i).unnamed ≡ length numbers
    count = ap (λ (ns : List ℕ). length ns) same

    low : (spare i).turn % length numbers < length numbers
    low = omega (arith, inside)

    on : (w v : ℕ) → w ≡ (v + 1) % length numbers → ((v + 1 < length numbers) × ((v + 1) % length numbers ≡ v + 1)) ⊎ ((v + 1 ≡ length numbers) × ((v + 1) % length numbers ≡ 0)) → Before v (suc d) place (length numbers) → Before w d place (length numbers)
    on w v turn (inl next) (inl is) = let on = next.1 in inl (omega (arith, turn, on, is))
    on w v turn (inl next) (inr is) = let on = next.1 in inr (omega (arith, turn, on, is))
    on w v turn (inr next) (inl is) = let end = next.0 in absurd (omega (arith, end, is, inside))
    on w v turn (inr next) (inr is) = let end = next.0 in let first = next.1 in inl (omega (arith, turn, first, end, is))

    go : (b : Bool) → finds_object (s i) (spare i) ≡ b → ((spare (i + 1)).unnamed ≡ numbers → Before ((spare (i + 1)).turn % length numbers) d place (length numbers) → Finds s spare (length numbers)) → Finds s spare (length numbers)
    go true e rest = (i, omega (arith, below), e)
    go false e rest =
        let turned = next_place (s i) (spare i) (spare (i + 1)) (act i) so.creates so.closed (omega (arith, count, inside)) e so.turned in
        let place' = ap (λ (n : ℕ). (spare i).turn % n) count in
        rest (so.ordered so.creates e so.room ∙ same)
        (on ((spare (i + 1)).turn % length numbers) ((spare i).turn % length numbers) (ap (λ (t : ℕ). t % length numbers) (turned ∙ ap (λ (k : ℕ). k + 1) place')) (next_of (length numbers) ((spare i).turn % length numbers) low) before)

pub comes_back : NumbersComeBack
comes_back s spare act object has creates = start (nat_lt has.0 ((spare 0).turn % length (spare 0).unnamed)) refl
  where
    inside : has.0 < length (spare 0).unnamed
    inside = has.1

    low : (spare 0).turn % length (spare 0).unnamed < length (spare 0).unnamed
    low = omega (arith, inside)

    read : get_or (spare 0).unnamed has.0 0 ≡ object
    read = get_or_default (spare 0).unnamed has.0 0 object has.1 ∙ has.2

    start : (b : Bool) → nat_lt has.0 ((spare 0).turn % length (spare 0).unnamed) ≡ b → Finds s spare (length (spare 0).unnamed)
    start true e =
        let past : has.0 < (spare 0).turn % length (spare 0).unnamed = grind (arith, nat_tests, e) in
        far s spare act object (spare 0).unnamed has.0 inside read creates (has.0 + length (spare 0).unnamed - (spare 0).turn % length (spare 0).unnamed) 0 (omega (arith, past, low)) refl (inr (omega (arith, low)))
    start false e =
        let before : (spare 0).turn % length (spare 0).unnamed ≤ has.0 = grind (arith, nat_tests, e) in
        far s spare act object (spare 0).unnamed has.0 inside read creates (has.0 - (spare 0).turn % length (spare 0).unnamed) 0 (omega (arith, before, inside)) refl (inl (omega (arith, before)))
