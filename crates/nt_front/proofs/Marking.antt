-- How marks are set.
use Rattle.std.proofs.Common.{◌≡◌, ℕ, zero, suc, ◌+◌, ◌<◌, ◌≤◌, Bool, true, false, ◌||◌, List, [], ◌∷◌, ◌++◌, length, take, replicate, get_or, eqb, eq-eqb, ne_eqb, refl, sym, ap, subst, ◌∙◌, inl, inr, arith, get_or-set_same, get_or-set_other}
use Rattle.std.specs.Prelude.{slice_set, nat_lt}
use Rattle.std.proofs.lemmas.Bool.{cases_eq}
use Rattle.std.proofs.lemmas.Bool.Decides.{nat_tests}
use Rattle.std.proofs.lemmas.List.{length-set, length-replicate, take_all, take_more}
use Rattle.nt_status.specs.declared.limits.TheConstants.{MAX_THREADS}
use Rattle.nt_calls.specs.declared.call.Grant.{Grant}
use Rattle.nt_calls.specs.Moves.{one_if, granted_to}
use Rattle.nt_marks.specs.Marks.{is_marked}
use Rattle.nt_front.specs.Marks.{IsMarkedToo, AreMarks}

or_true : (b : Bool) → true ≡ (b || true)
or_true true = refl
or_true false = refl

or_false : (b : Bool) → b ≡ (b || false)
or_false true = refl
or_false false = refl

-- a thread that has a place
pub marked_thread : (old : List Bool) (n thread : ℕ) → n < length old → n ≡ thread → IsMarkedToo old thread (slice_set old n true)
marked_thread old n thread inside same = record {
  count = length-set old n true;
  each = λ t near. elim (cases_eq t n) [
    | inl here ↦
        ap (λ (k : ℕ). is_marked (slice_set old n true) k) here ∙ (get_or-set_same old n true false inside
        ∙ (or_true (is_marked old t) ∙ ap (λ (b : Bool). is_marked old t || b) (sym (eq-eqb thread t (sym same ∙ sym here)))))
    | inr other ↦
        get_or-set_other old n t true false other
        ∙ (or_false (is_marked old t) ∙ ap (λ (b : Bool). is_marked old t || b) (sym (ne_eqb thread t (λ e. other (sym e ∙ sym same)))))
  ];
}

-- a thread that has none
pub marked_far : (old : List Bool) (n thread : ℕ) → MAX_THREADS ≤ n → n ≡ thread → IsMarkedToo old thread old
marked_far old n thread far same = record {
  count = refl;
  each = λ t near. or_false (is_marked old t) ∙ ap (λ (b : Bool). is_marked old t || b) (sym (ne_eqb thread t (λ e. absurd (omega (arith, e, far, same, near)))));
}

none_at : (n i : ℕ) → is_marked (replicate n false) i ≡ false
none_at zero i = refl
none_at (suc n) zero = refl
none_at (suc n) (suc i) = none_at n i

-- before the first grant
pub marks_at_first : (gs : List Grant) → AreMarks (replicate 256 false) (take 0 gs)
marks_at_first gs = record { count = length-replicate 256 false; each = λ t near. none_at 256 t }

granted_to-push : (t : ℕ) (gs : List Grant) (g : Grant) → granted_to t (gs ++ g ∷ []) ≡ granted_to t gs + one_if (eqb g.thread t)
granted_to-push t [] g = omega arith
granted_to-push t (x ∷ xs) g = omega (arith, granted_to-push t xs g)

at_once : (a b : Bool) (n m : ℕ) (own : Bool) → b ≡ (a || own) → a ≡ nat_lt 0 n → m ≡ n + one_if own → b ≡ nat_lt 0 m
at_once a b n m true p q r = p ∙ (sym (or_true a) ∙ (let more : 0 < m = omega (arith, r) in grind (arith, nat_tests, more)))
at_once a b n m false p q r = p ∙ (sym (or_false a) ∙ (q ∙ ap (λ (k : ℕ). nat_lt 0 k) (let same : n ≡ m = omega (arith, r) in same)))

-- after one more grant
pub marks_next : (old new : List Bool) (gs : List Grant) (i : ℕ) (g : Grant) → i < length gs → g ≡ get_or gs i g → AreMarks old (take i gs) → IsMarkedToo old g.thread new → AreMarks new (take (i + 1) gs)
marks_next old new gs i g inside is are too =
    let more = take_more gs i g inside ∙ ap (λ x. take i gs ++ x ∷ []) (sym is) in
    subst (AreMarks new) (sym more) (record {
      count = too.count ∙ are.count;
      each = λ t near. at_once (is_marked old t) (is_marked new t) (granted_to t (take i gs)) _ (eqb g.thread t) (too.each t near) (are.each t near) (granted_to-push t (take i gs) g);
    })

-- after the last
pub marks_all : (marks : List Bool) (gs : List Grant) (i : ℕ) → length gs ≤ i → AreMarks marks (take i gs) → AreMarks marks gs
marks_all marks gs i all are = subst (AreMarks marks) (take_all i gs all) are
