-- Counting the handles that name an object.
use Rattle.std.proofs.Common.{◌≡◌, ◌≢◌, ℕ, zero, suc, ◌+◌, ◌-◌, ◌^◌, ◌<◌, ◌≤◌, Bool, true, false, cond, ◌==◌, List, [], ◌∷◌, ◌++◌, length, get_or, refl, sym, ap, ◌∙◌, arith, Option, Some, None, inl, inr, eqb-true}
use Rattle.std.specs.Prelude.{slice_set, slice_index_or}
use Rattle.std.proofs.lemmas.Bool.{cases_eq}
use Rattle.std.proofs.lemmas.Bool.Decides.{nat_tests}
use Rattle.std.proofs.lemmas.List.{length-set, get_or-set_same, get_or-set_other, get_or_past}
use Rattle.std.proofs.Common.{length-append}
use Rattle.std.proofs.Math.Nat.{lt_of_not-le}
use Rattle.nt_tables.specs.declared.handles.Opened.{Opened}
use Rattle.nt_tables.specs.Handles.{names, count_named, AreHandlesCounted}

-- 1 where it is so
abbrev pub weight : Bool → ℕ
weight b = cond b 1 0

counted_first : (h : Option Opened) (hs : List (Option Opened)) (o : ℕ) → count_named (h ∷ hs) o ≡ weight (names o h) + count_named hs o
counted_first h hs o = refl

-- one handle more
pub counted_more : (hs : List (Option Opened)) (x : Option Opened) (o : ℕ) → count_named (hs ++ x ∷ []) o ≡ count_named hs o + weight (names o x)
counted_more [] x o = let first = counted_first x [] o in let none : count_named [] o ≡ 0 = refl in omega (arith, first, none)
counted_more (h ∷ hs) x o =
    let more = counted_more hs x o in
    let first : count_named (h ∷ hs ++ x ∷ []) o ≡ weight (names o h) + count_named (hs ++ x ∷ []) o = refl in
    let was = counted_first h hs o in
    omega (arith, more, first, was)

-- one handle less
pub counted_less : (hs : List (Option Opened)) (h : ℕ) (opened : Opened) (o : ℕ) → get_or hs h None ≡ Some opened → count_named (slice_set hs h None) o + weight (opened.object == o) ≡ count_named hs o
counted_less [] h opened o is = let no : None ≡ Some opened = is in (cc)
counted_less (x ∷ hs) zero opened o is =
    let here : weight (names o x) ≡ weight (opened.object == o) = ap (λ e. weight (names o e)) is in
    let first = counted_first x hs o in
    let left : count_named (None ∷ hs) o ≡ 0 + count_named hs o = refl in
    omega (arith, here, first, left)
counted_less (x ∷ hs) (suc h) opened o is =
    let less = counted_less hs h opened o is in
    let first : count_named (x ∷ slice_set hs h None) o ≡ weight (names o x) + count_named (slice_set hs h None) o = refl in
    let was = counted_first x hs o in
    omega (arith, less, first, was)

-- a closed handle is opened again
pub counted_again : (hs : List (Option Opened)) (h : ℕ) (opened : Opened) (o : ℕ) → h < length hs → get_or hs h None ≡ None → count_named (slice_set hs h (Some opened)) o ≡ count_named hs o + weight (opened.object == o)
counted_again [] h opened o there is = absurd (omega (arith, there))
counted_again (x ∷ hs) zero opened o there is =
    let here : weight (names o x) ≡ 0 = ap (λ e. weight (names o e)) is in
    let first = counted_first x hs o in
    let now : count_named (Some opened ∷ hs) o ≡ weight (opened.object == o) + count_named hs o = refl in
    omega (arith, here, first, now)
counted_again (x ∷ hs) (suc h) opened o there is =
    let more = counted_again hs h opened o (omega (arith, there)) is in
    let first : count_named (x ∷ slice_set hs h (Some opened)) o ≡ weight (names o x) + count_named (slice_set hs h (Some opened)) o = refl in
    let was = counted_first x hs o in
    omega (arith, more, first, was)

-- a count that is not made yet is 0
zero_end : (counts : List ℕ) (o : ℕ) → get_or (counts ++ 0 ∷ []) o 0 ≡ get_or counts o 0
zero_end [] zero = refl
zero_end [] (suc o) = refl
zero_end (c ∷ counts) zero = refl
zero_end (c ∷ counts) (suc o) = zero_end counts o

own_object : (o : ℕ) → weight (o == o) ≡ 1
own_object o = let same : (o == o) ≡ true = grind (arith, nat_tests) in ap weight same

other_object : (o k : ℕ) → k ≢ o → weight (o == k) ≡ 0
other_object o k differs = go (o == k) refl
  where
    go : (b : Bool) → (o == k) ≡ b → weight b ≡ 0
    go true e = absurd (differs (sym (eqb-true o k e)))
    go false e = refl

pub more_counted : (hs : List (Option Opened)) (counts : List ℕ) (opened : Opened) → AreHandlesCounted hs counts → opened.object ≤ length hs → AreHandlesCounted (hs ++ Some opened ∷ []) (slice_set (counts ++ 0 ∷ []) opened.object (slice_index_or (counts ++ 0 ∷ []) opened.object 0 + 1))
more_counted hs counts opened is known =
    let o = opened.object in
    let wider = counts ++ 0 ∷ [] in
    let same = is.same_length in
    let long : length wider ≡ length counts + 1 = length-append counts (0 ∷ []) in
    record {
      same_length = length-set wider o (get_or wider o 0 + 1) ∙ (let more : length (hs ++ Some opened ∷ []) ≡ length hs + 1 = length-append hs (Some opened ∷ []) in omega (arith, same, long, more));
      counted = λ k. elim (cases_eq k o) [
        | inl here ↦
            let at_k : get_or (slice_set wider o (get_or wider o 0 + 1)) k 0 ≡ get_or wider o 0 + 1 = ap (λ i. get_or (slice_set wider o (get_or wider o 0 + 1)) i 0) here ∙ get_or-set_same wider o (get_or wider o 0 + 1) 0 (omega (arith, known, same, long)) in
            let was : get_or wider o 0 ≡ count_named hs k = zero_end counts o ∙ (is.counted o ∙ ap (λ i. count_named hs i) (sym here)) in
            let one : weight (o == k) ≡ 1 = ap (λ i. weight (o == i)) here ∙ own_object o in
            let all = counted_more hs (Some opened) k in
            omega (arith, at_k, was, one, all)
        | inr differs ↦
            let at_k : get_or (slice_set wider o (get_or wider o 0 + 1)) k 0 ≡ get_or wider k 0 = get_or-set_other wider o k (get_or wider o 0 + 1) 0 differs in
            let was : get_or wider k 0 ≡ count_named hs k = zero_end counts k ∙ is.counted k in
            let none = other_object o k differs in
            let all = counted_more hs (Some opened) k in
            omega (arith, at_k, was, none, all)
      ];
    }

pub again_counted : (hs : List (Option Opened)) (counts : List ℕ) (h : ℕ) (opened : Opened) → AreHandlesCounted hs counts → h < length hs → get_or hs h None ≡ None → opened.object < length hs → AreHandlesCounted (slice_set hs h (Some opened)) (slice_set counts opened.object (slice_index_or counts opened.object 0 + 1))
again_counted hs counts h opened is there closed known =
    let o = opened.object in
    let same = is.same_length in
    record {
      same_length = length-set counts o (get_or counts o 0 + 1) ∙ (same ∙ sym (length-set hs h (Some opened)));
      counted = λ k. elim (cases_eq k o) [
        | inl here ↦
            let at_k : get_or (slice_set counts o (get_or counts o 0 + 1)) k 0 ≡ get_or counts o 0 + 1 = ap (λ i. get_or (slice_set counts o (get_or counts o 0 + 1)) i 0) here ∙ get_or-set_same counts o (get_or counts o 0 + 1) 0 (omega (arith, known, same)) in
            let was : get_or counts o 0 ≡ count_named hs k = is.counted o ∙ ap (λ i. count_named hs i) (sym here) in
            let one : weight (o == k) ≡ 1 = ap (λ i. weight (o == i)) here ∙ own_object o in
            let all = counted_again hs h opened k there closed in
            omega (arith, at_k, was, one, all)
        | inr differs ↦
            let at_k : get_or (slice_set counts o (get_or counts o 0 + 1)) k 0 ≡ get_or counts k 0 = get_or-set_other counts o k (get_or counts o 0 + 1) 0 differs in
            let was = is.counted k in
            let none = other_object o k differs in
            let all = counted_again hs h opened k there closed in
            omega (arith, at_k, was, none, all)
      ];
    }

-- what an open handle names is counted
pub count_of_open : (hs : List (Option Opened)) (counts : List ℕ) (h : ℕ) (opened : Opened) → AreHandlesCounted hs counts → get_or hs h None ≡ Some opened → 0 < slice_index_or counts opened.object 0
count_of_open hs counts h opened is there =
    let all = counted_less hs h opened opened.object there in
    let one = own_object opened.object in
    let count = is.counted opened.object in
    omega (arith, all, one, count)

pub known_of_open : (hs : List (Option Opened)) (counts : List ℕ) (h : ℕ) (opened : Opened) → AreHandlesCounted hs counts → get_or hs h None ≡ Some opened → opened.object < length counts
known_of_open hs counts h opened is there =
    let some = count_of_open hs counts h opened is there in
    lt_of_not-le (λ past. let none = get_or_past counts opened.object 0 past in omega (arith, some, none))

pub less_counted : (hs : List (Option Opened)) (counts : List ℕ) (h : ℕ) (opened : Opened) → AreHandlesCounted hs counts → get_or hs h None ≡ Some opened → AreHandlesCounted (slice_set hs h None) (slice_set counts opened.object (slice_index_or counts opened.object 0 - 1))
less_counted hs counts h opened is there =
    let o = opened.object in
    let known = known_of_open hs counts h opened is there in
    record {
      same_length = length-set counts o (get_or counts o 0 - 1) ∙ (is.same_length ∙ sym (length-set hs h None));
      counted = λ k. elim (cases_eq k o) [
        | inl here ↦
            let at_k : get_or (slice_set counts o (get_or counts o 0 - 1)) k 0 ≡ get_or counts o 0 - 1 = ap (λ i. get_or (slice_set counts o (get_or counts o 0 - 1)) i 0) here ∙ get_or-set_same counts o (get_or counts o 0 - 1) 0 known in
            let was : get_or counts o 0 ≡ count_named hs k = is.counted o ∙ ap (λ i. count_named hs i) (sym here) in
            let one : weight (o == k) ≡ 1 = ap (λ i. weight (o == i)) here ∙ own_object o in
            let all = counted_less hs h opened k there in
            omega (arith, at_k, was, one, all)
        | inr differs ↦
            let at_k : get_or (slice_set counts o (get_or counts o 0 - 1)) k 0 ≡ get_or counts k 0 = get_or-set_other counts o k (get_or counts o 0 - 1) 0 differs in
            let was = is.counted k in
            let none = other_object o k differs in
            let all = counted_less hs h opened k there in
            omega (arith, at_k, was, none, all)
      ];
    }

-- no more handles name an object than there are
count_at_most : (hs : List (Option Opened)) (o : ℕ) → count_named hs o ≤ length hs
count_at_most [] o = omega arith
count_at_most (h ∷ hs) o =
    let rest = count_at_most hs o in
    let first = counted_first h hs o in
    let most = weight_at_most (names o h) in
    omega (arith, rest, first, most)
  where
    weight_at_most : (b : Bool) → weight b ≤ 1
    weight_at_most true = omega arith
    weight_at_most false = omega arith

pub few_counted : (hs : List (Option Opened)) (counts : List ℕ) (o : ℕ) → AreHandlesCounted hs counts → length hs < 2 ^ 32 - 1 → slice_index_or (counts ++ 0 ∷ []) o 0 + 1 < 2 ^ 32
few_counted hs counts o is few =
    let same : get_or (counts ++ 0 ∷ []) o 0 ≡ count_named hs o = zero_end counts o ∙ is.counted o in
    let most = count_at_most hs o in
    omega (arith, same, most, few)

pub few_again : (hs : List (Option Opened)) (counts : List ℕ) (o : ℕ) → AreHandlesCounted hs counts → length hs < 2 ^ 32 - 1 → slice_index_or counts o 0 + 1 < 2 ^ 32
few_again hs counts o is few =
    let same : get_or counts o 0 ≡ count_named hs o = is.counted o in
    let most = count_at_most hs o in
    omega (arith, same, most, few)

pub known_again : (hs : List (Option Opened)) (counts : List ℕ) (o : ℕ) → AreHandlesCounted hs counts → o < length hs → o < length counts
known_again hs counts o is known = let same = is.same_length in omega (arith, same, known)
