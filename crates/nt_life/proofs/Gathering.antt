-- Lists of the numbers that pass a test, gathered from 0 on.
use Rattle.std.proofs.Common.{◌≡◌, ◌≤◌, ◌<◌, ℕ, ◌+◌, Bool, true, false, ◌&&◌, List, [], ◌∷◌, ◌++◌, length, length-append, refl, sym, ap, ◌∙◌, arith, inl, inr}
use Rattle.std.specs.Prelude.{nat_lt, nat_le}
use Rattle.std.proofs.lemmas.Bool.{cases_eq}
use Rattle.std.proofs.lemmas.Bool.Decides.{nat_tests}
use Rattle.nt_tables.proofs.Counting.{weight}
use Rattle.nt_calls.specs.State.{State}
use Rattle.nt_core.specs.Renewals.{is_closed}
use Rattle.nt_machine.proofs.Remaining.{both}
use Rattle.nt_life.specs.Lasting.{times, is_unnamed}
use Rattle.nt_life.proofs.Spares.{below_more, and_not}
use Rattle.nt_life.proofs.Times.{same_weight, other_weight, times_end}

-- of the numbers below k each that passes the test stands in the list once, and no other number does
pub record IsListed (test : ℕ → Bool) (k : ℕ) (ns : List ℕ) : Type 0 where
  pub each : (n : ℕ) → times n ns ≡ weight (nat_lt n k && test n)
  pub few : length ns ≤ k

none_before : (n : ℕ) → nat_lt n 0 ≡ false
none_before n = grind (arith, nat_tests)

pub none_listed : (test : ℕ → Bool) → IsListed test 0 []
none_listed test = record {
  each = λ n. sym (ap (λ b. weight (b && test n)) (none_before n));
  few = omega arith;
}

-- the next number passes, and is added
pub more_listed : (test : ℕ → Bool) (k m : ℕ) (ns after : List ℕ) → m ≡ k + 1 → test k ≡ true → after ≡ ns ++ k ∷ [] → IsListed test k ns → IsListed test m after
more_listed test k m ns after next passes added is = record {
  each = λ n. elim (cases_eq n k) [
    | inl same ↦
        let before : nat_lt n k ≡ false = grind (arith, nat_tests, same) in
        let now : nat_lt n m ≡ true = grind (arith, nat_tests, same, next) in
        let none : times n ns ≡ 0 = is.each n ∙ ap (λ b. weight (b && test n)) before in
        let one : weight (nat_lt n m && test n) ≡ 1 = ap (λ b. weight (b && test n)) now ∙ ap weight (ap test same ∙ passes) in
        let end = times_end n k ns in
        let own = same_weight k n (sym same) in
        let all = ap (times n) added in
        omega (arith, none, one, end, own, all)
    | inr differs ↦
        let as_before : weight (nat_lt n m && test n) ≡ weight (nat_lt n k && test n) = ap (λ b. weight (b && test n)) (below_more n k m next differs) in
        let was : times n ns ≡ weight (nat_lt n k && test n) = is.each n in
        let end = times_end n k ns in
        let other = other_weight k n (λ e. differs (sym e)) in
        let all = ap (times n) added in
        omega (arith, as_before, was, end, other, all)
  ];
  few = let few = is.few in let long = length-append ns (k ∷ []) in let all = ap length added in omega (arith, few, long, all, next);
}

-- the next number does not pass
pub as_listed : (test : ℕ → Bool) (k m : ℕ) (ns : List ℕ) → m ≡ k + 1 → test k ≡ false → IsListed test k ns → IsListed test m ns
as_listed test k m ns next fails is = record {
  each = λ n. is.each n ∙ sym (ap weight (same n));
  few = let few = is.few in omega (arith, few, next);
}
  where
    same : (n : ℕ) → (nat_lt n m && test n) ≡ (nat_lt n k && test n)
    same n = elim (cases_eq n k) [
      | inl own ↦
          let none : test n ≡ false = ap test own ∙ fails in
          ap (λ b. nat_lt n m && b) none ∙ (and_not (nat_lt n m) ∙ sym (ap (λ b. nat_lt n k && b) none ∙ and_not (nat_lt n k)))
      | inr differs ↦ ap (λ b. b && test n) (below_more n k m next differs)
    ]

-- no number from k on passes
pub listed_all : (test : ℕ → Bool) (k : ℕ) (ns : List ℕ) → ((n : ℕ) → test n ≡ true → n < k) → IsListed test k ns → (n : ℕ) → times n ns ≡ weight (test n)
listed_all test k ns below is n = is.each n ∙ ap weight (go (test n) refl)
  where
    go : (b : Bool) → test n ≡ b → (nat_lt n k && test n) ≡ test n
    go true e =
        let less = below n e in
        let is_below : nat_lt n k ≡ true = grind (arith, nat_tests, less) in
        ap (λ b. b && test n) is_below
    go false e = ap (λ b. nat_lt n k && b) e ∙ (and_not (nat_lt n k) ∙ sym e)

pub closed_below : (s : State) (most h : ℕ) → length s.handles ≤ most → is_closed s h ≡ true → h < most
closed_below s most h few is =
    let test = (both (nat_lt h (length s.handles)) _ is).0 in
    let below : h < length s.handles = grind (arith, nat_tests, test) in
    omega (arith, below, few)

pub unnamed_below : (s : State) (o : ℕ) → is_unnamed s o ≡ true → o < length s.objects
unnamed_below s o is =
    let test = (both (nat_lt o (length s.objects)) _ (both (nat_le s.threads o) _ is).1).0 in
    grind (arith, nat_tests, test)
