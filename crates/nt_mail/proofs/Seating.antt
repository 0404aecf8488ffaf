-- The rule holds at first, and seats part and join under it.
use Rattle.std.proofs.Common.{◌≡◌, ◌≢◌, ℕ, zero, suc, ◌+◌, ◌-◌, ◌/◌, ◌<◌, ◌≤◌, List, [], ◌∷◌, ◌++◌, length, set, Bool, true, false, eqb, eq-eqb, ne_eqb, refl, sym, ap, ◌∙◌, subst, ⊎_elim, arith, inl}
use Rattle.std.specs.Prelude.{slice_index, nat_lt, replicate}
use Rattle.std.proofs.lemmas.Bool.{lt-ltb, le-ltb, ltb-true, ltb-false}
use Rattle.std.proofs.Math.Dec.{ltb}
use mathlib.Core.Option.{some, some-ne-none, some-injective}
use lib.ListN.{get_elem?}
use Rattle.atomic_table.specs.Table.{Splits, Joins, opening}
use Rattle.atomic_table.proofs.Lists.{at_set, at_snoc, set_again}
use Rattle.nt_calls.specs.Moves.{one_if}
use Rattle.nt_mail.specs.declared.entry.Entry.{Entry}
use Rattle.nt_mail.specs.declared.knowledge.View.{View}
use Rattle.nt_mail.specs.declared.knowledge.Knowledge.{Knowledge}
use Rattle.nt_mail.specs.declared.word.TheConstants.{STATES}
use Rattle.nt_mail.specs.Entries.{Each}
use Rattle.nt_mail.specs.Knowledge.{knows, newcomers}
use Rattle.nt_mail.specs.Views.{nobody, first_view, rest_of, front_of, without_first, first_alone, together}
use Rattle.nt_mail.specs.Rule.{IsPart, IsTrueView, total, keeping, parts_of, IsMail}
use Rattle.nt_mail.proofs.Totals.{total-set, total-push}
use Rattle.nt_mail.proofs.Parts.{fits_set, never_keeps}

parts_of-append : (t : ℕ) (xs ys : List Knowledge) → parts_of t (xs ++ ys) ≡ parts_of t xs + parts_of t ys
parts_of-append t [] ys = omega arith
parts_of-append t (x ∷ xs) ys = omega (arith, parts_of-append t xs ys)

parts-append : (words : List ℕ) (log : List Entry) (ms : List ℕ) (xs ys : List Knowledge) → Each (IsPart words log ms) xs → Each (IsPart words log ms) ys → Each (IsPart words log ms) (xs ++ ys)
parts-append words log ms [] ys a b = b
parts-append words log ms (x ∷ xs) ys a b = (a.0, parts-append words log ms xs ys a.1 b)

parts_of-cut : (t : ℕ) (ks : List Knowledge) → parts_of t (rest_of ks) + parts_of t (front_of ks) ≡ parts_of t ks
parts_of-cut t [] = refl
parts_of-cut t (k ∷ ks) = omega arith

parts-rest : (words : List ℕ) (log : List Entry) (ms : List ℕ) (ks : List Knowledge) → Each (IsPart words log ms) ks → Each (IsPart words log ms) (rest_of ks)
parts-rest words log ms [] a = tt
parts-rest words log ms (k ∷ ks) a = a.1

parts-front : (words : List ℕ) (log : List Entry) (ms : List ℕ) (ks : List Knowledge) → Each (IsPart words log ms) ks → Each (IsPart words log ms) (front_of ks)
parts-front words log ms [] a = tt
parts-front words log ms (k ∷ ks) a = (a.0, tt)

pub splits_spare : (id : ℕ) (v : View) → Splits IsMail id v v nobody
splits_spare id v s h at = (
  h.0,
  h.1,
  record {
    seats = λ j u e. ⊎_elim
        (λ was. h.2.seats j u (subst (λ l. get_elem? l j ≡ some u) (set_again s.views id v at) was))
        (λ (same : nobody ≡ u). subst (IsTrueView s.words h.0 h.1) same ((λ e. never_keeps _ e), tt))
        (at_snoc (set s.views id v) nobody u j e);
    counted = h.2.counted;
    rising = h.2.rising;
    greatest = h.2.greatest;
    moment = h.2.moment;
    enough = h.2.enough;
    one_keeper = (let a = total-push keeping (set s.views id v) nobody in let b = ap (total keeping) (set_again s.views id v at) in let c = h.2.one_keeper in omega arith);
    one_part = λ t. (let f : View → ℕ = λ x. parts_of t x.parts in let a = total-push f (set s.views id v) nobody in let b = ap (total f) (set_again s.views id v at) in let c = h.2.one_part t in omega arith);
  },
)

pub splits_apart : (id : ℕ) (v : View) → Splits IsMail id v (without_first v) (first_alone v)
splits_apart id v s h at =
    let w = without_first v in
    let x = first_alone v in
    let mine = h.2.seats id v at in (
      h.0,
      h.1,
      record {
        seats = λ j u e. ⊎_elim
            (λ was. fits_set s.words h.0 h.1 s.views id w (λ i y apart e'. h.2.seats i y e') (mine.0, parts-rest s.words h.0 h.1 v.parts mine.1) j u was)
            (λ (same : x ≡ u). subst (IsTrueView s.words h.0 h.1) same ((λ e. never_keeps _ e), parts-front s.words h.0 h.1 v.parts mine.1))
            (at_snoc (set s.views id w) x u j e);
        counted = h.2.counted;
        rising = h.2.rising;
        greatest = h.2.greatest;
        moment = h.2.moment;
        enough = h.2.enough;
        one_keeper = (let a = total-push keeping (set s.views id w) x in let b = total-set keeping s.views id v w at in let c = h.2.one_keeper in omega arith);
        one_part = λ t. (
            let f : View → ℕ = λ y. parts_of t y.parts in
            let a = total-push f (set s.views id w) x in
            let b = total-set f s.views id v w at in
            let c = h.2.one_part t in
            let d = parts_of-cut t v.parts in
            omega arith);
      },
    )

pub joins_together : (id : ℕ) (v : View) (other : ℕ) (u : View) → u.keeps ≡ false → Joins IsMail id v other u (together v u) nobody
joins_together id v other u plain s h at apart there =
    let w = together v u in
    let mine = h.2.seats id v at in
    let was : get_elem? s.views other ≡ some u = ⊎_elim (λ (x : (other ≡ id) × (w ≡ u)). absurd (apart x.0)) (λ (x : (other ≢ id) × (get_elem? s.views other ≡ some u)). x.1) (at_set s.views id other w u there) in
    let theirs = h.2.seats other u was in (
      h.0,
      h.1,
      record {
        seats = fits_set s.words h.0 h.1 (set s.views id w) other nobody
            (λ j y _ e. fits_set s.words h.0 h.1 s.views id w (λ i z _ e'. h.2.seats i z e') (mine.0, parts-append s.words h.0 h.1 u.parts v.parts theirs.1 mine.1) j y e)
            ((λ e. never_keeps _ e), tt);
        counted = h.2.counted;
        rising = h.2.rising;
        greatest = h.2.greatest;
        moment = h.2.moment;
        enough = h.2.enough;
        one_keeper = (let a = total-set keeping (set s.views id w) other u nobody there in let b = total-set keeping s.views id v w at in let c = h.2.one_keeper in let d = ap one_if plain in omega arith);
        one_part = λ t. (
            let f : View → ℕ = λ y. parts_of t y.parts in
            let a = total-set f (set s.views id w) other u nobody there in
            let b = total-set f s.views id v w at in
            let c = h.2.one_part t in
            let d = parts_of-append t u.parts v.parts in
            omega arith);
      },
    )

none_below : (t k n : ℕ) → t < k → parts_of t (newcomers k n) ≡ 0
none_below t k zero h = refl
none_below t k (suc n) h = let b : one_if (eqb k t) ≡ 0 = ap one_if (ne_eqb k t (λ e. absurd (omega arith))) in omega (arith, none_below t (suc k) n (omega arith))

none_above : (t k n : ℕ) → k + n ≤ t → parts_of t (newcomers k n) ≡ 0
none_above t k zero h = refl
none_above t k (suc n) h = let b : one_if (eqb k t) ≡ 0 = ap one_if (ne_eqb k t (λ e. absurd (omega arith))) in omega (arith, none_above t (suc k) n (omega arith))

one_more : (t k n : ℕ) → k ≤ t → (b : Bool) → ltb k t ≡ b → (suc k ≤ t → parts_of t (newcomers (suc k) n) ≡ 1) → one_if (eqb k t) + parts_of t (newcomers (suc k) n) ≡ 1
one_more t k n le true e later = let lt = ltb-true k t e in let b : one_if (eqb k t) ≡ 0 = ap one_if (ne_eqb k t (λ i. absurd (omega arith))) in omega (arith, later lt)
one_more t k n le false e later = let ge = ltb-false k t e in let b : one_if (eqb k t) ≡ 1 = ap one_if (eq-eqb k t (omega arith)) in omega (arith, none_below t (suc k) n (omega arith))

one_within : (t k n : ℕ) → k ≤ t → t < k + n → parts_of t (newcomers k n) ≡ 1
one_within t k zero le lt = absurd (omega arith)
one_within t k (suc n) le lt = one_more t k n le (ltb k t) refl (λ more. one_within t (suc k) n more (omega arith))

-- at first each thread has one part
one_each : (t n m : ℕ) → m ≡ n + 1 → (b : Bool) → ltb t n ≡ b → parts_of t (newcomers 0 n) + 0 ≡ one_if (nat_lt (t + 1) m)
one_each t n m is true e = let lt = ltb-true t n e in let b : one_if (nat_lt (t + 1) m) ≡ 1 = ap one_if (lt-ltb (t + 1) m (omega arith)) in omega (arith, one_within t 0 n (omega arith) (omega arith))
one_each t n m is false e = let ge = ltb-false t n e in let b : one_if (nat_lt (t + 1) m) ≡ 0 = ap one_if (le-ltb (t + 1) m (omega arith)) in omega (arith, none_above t 0 n (omega arith))

new_parts : (words : List ℕ) (k n : ℕ) → ((x : ℕ) → slice_index words x ≡ 0) → k + n < length words → Each (IsPart words [] []) (newcomers k n)
new_parts words k zero none room = tt
new_parts words k (suc n) none room = (record { inside = omega arith; made = refl; word = inl (0, none (k + 1)); number = ([], [], refl, ap (λ (x : ℕ). x / STATES) (none (k + 1))); taken = refl; moments = record { rising = tt; reached = omega arith; each = tt } }, new_parts words (suc k) n none (omega arith))

-- the mail at first
pub begins : (words : List ℕ) (n : ℕ) → ((x : ℕ) → slice_index words x ≡ 0) → length words ≡ n + 1 → IsMail (opening words [] (first_view n))
begins words n none room = (
  [],
  [],
  record {
    seats = one;
    counted = λ t. record { count = refl; after = (λ _. omega arith); calls = tt; grants = tt };
    rising = tt;
    greatest = omega arith;
    moment = none 0;
    enough = omega arith;
    one_keeper = omega arith;
    one_part = λ t. one_each t n (length words) room (ltb t n) refl;
  },
)
  where
    one : (j : ℕ) (v : View) → get_elem? (first_view n ∷ []) j ≡ some v → IsTrueView words [] [] v
    one zero v e = subst (IsTrueView words [] []) (some-injective _ _ e) ((λ _. (refl, refl)), new_parts words 0 n none (omega arith))
    one (suc j) v e = absurd (some-ne-none v (sym e))

pub newcomers-next : (t n : ℕ) → t < n → newcomers t (n - t) ≡ knows t [] [] [] [] ∷ newcomers (t + 1) (n - (t + 1))
newcomers-next t n h =
    let k = n - (t + 1) in
    let a : n - t ≡ suc k = omega arith in
    let b : suc t ≡ t + 1 = omega arith in
    ap (newcomers t) a ∙ ap (λ (m : ℕ). knows t [] [] [] [] ∷ newcomers m k) b

pub zeros : (n x : ℕ) → slice_index (replicate n 0) x ≡ 0
zeros zero x = refl
zeros (suc n) zero = refl
zeros (suc n) (suc x) = zeros n x
