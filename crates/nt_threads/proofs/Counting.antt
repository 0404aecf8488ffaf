-- Entries counted one after another.
use Rattle.std.proofs.Common.{◌≡◌, ◌∙◌, ◌+◌, ◌*◌, ◌<◌, ◌≤◌, ℕ, Bool, false, List, ◌∷◌, length, drop, set, get_or, replicate, refl, sym, ap, arith}
use Rattle.std.proofs.lemmas.List.{at_drop_more, at_drop_all, set_past, get_or_past}
use Rattle.nt_calls.specs.Moves.{one_if}
use Rattle.nt_mail.specs.declared.entry.Entry.{Entry}
use Rattle.nt_threads.specs.Counts.{abandoned, acquired, acquired_from, acquires, ends_abandoned, is_release, posted, posts_in, mutex_releases, waiting_after}

pub set_beyond : (xs : List Bool) (i : ℕ) (y : Bool) → length xs ≤ i → set xs i y ≡ xs
set_beyond xs i y past = set_past xs i y past

pub get_beyond : (xs : List Bool) (i : ℕ) (d : Bool) → length xs ≤ i → get_or xs i d ≡ d
get_beyond xs i d past = get_or_past xs i d past

-- what was counted in the first i entries, and what the others tell, is what all tell; and no count is greater than it can be
pub record CountedSoFar (threads mutex : ℕ) (es : List Entry) (i : ℕ) (waiting : List Bool) (a r p b : ℕ) : Type 0 where
  pub acquired_is : a + acquired_from mutex waiting (drop i es) ≡ acquired threads mutex es
  pub released_is : r + mutex_releases (drop i es) ≡ mutex_releases es
  pub posted_is : p + posted (drop i es) ≡ posted es
  pub abandoned_is : b + abandoned (drop i es) ≡ abandoned es
  pub few_acquired : a ≤ i
  pub few_released : r ≤ i
  pub few_posted : p ≤ i * 4294967296
  pub few_abandoned : b ≤ i

pub counted_none : (threads mutex : ℕ) (es : List Entry) → CountedSoFar threads mutex es 0 (replicate threads false) 0 0 0 0
counted_none threads mutex es = record {
  acquired_is = let same : acquired_from mutex (replicate threads false) (drop 0 es) ≡ acquired threads mutex es = refl in omega (arith, same);
  released_is = let same : mutex_releases (drop 0 es) ≡ mutex_releases es = refl in omega (arith, same);
  posted_is = let same : posted (drop 0 es) ≡ posted es = refl in omega (arith, same);
  abandoned_is = let same : abandoned (drop 0 es) ≡ abandoned es = refl in omega (arith, same);
  few_acquired = omega arith;
  few_released = omega arith;
  few_posted = omega arith;
  few_abandoned = omega arith;
}

one_if_small : (t : Bool) → one_if t ≤ 1
one_if_small Bool.true = omega arith
one_if_small Bool.false = omega arith

-- one more entry
pub counted_more : (threads mutex : ℕ) (es : List Entry) (i : ℕ) (waiting : List Bool) (a r p b : ℕ) (e : Entry)
    → CountedSoFar threads mutex es i waiting a r p b → i < length es → e ≡ get_or es i e → posts_in e ≤ 4294967296
    → CountedSoFar threads mutex es (i + 1) (waiting_after mutex waiting e) (a + one_if (acquires mutex waiting e)) (r + one_if (is_release e)) (p + posts_in e) (b + one_if (ends_abandoned e))
counted_more threads mutex es i waiting a r p b e so_far in_range is small =
    let a_more : acquired_from mutex waiting (drop i es) ≡ one_if (acquires mutex waiting e) + acquired_from mutex (waiting_after mutex waiting e) (drop (i + 1) es) =
    at_drop_more (acquired_from mutex waiting) es i e in_range ∙ ap (λ x. acquired_from mutex waiting (x ∷ drop (i + 1) es)) (sym is) in
    let r_more : mutex_releases (drop i es) ≡ one_if (is_release e) + mutex_releases (drop (i + 1) es) = at_drop_more mutex_releases es i e in_range ∙ ap (λ x. mutex_releases (x ∷ drop (i + 1) es)) (sym is) in
    let p_more : posted (drop i es) ≡ posts_in e + posted (drop (i + 1) es) = at_drop_more posted es i e in_range ∙ ap (λ x. posted (x ∷ drop (i + 1) es)) (sym is) in
    let b_more : abandoned (drop i es) ≡ one_if (ends_abandoned e) + abandoned (drop (i + 1) es) = at_drop_more abandoned es i e in_range ∙ ap (λ x. abandoned (x ∷ drop (i + 1) es)) (sym is) in
    record {
      acquired_is = let h = so_far.acquired_is in omega (arith, h, a_more);
      released_is = let h = so_far.released_is in omega (arith, h, r_more);
      posted_is = let h = so_far.posted_is in omega (arith, h, p_more);
      abandoned_is = let h = so_far.abandoned_is in omega (arith, h, b_more);
      few_acquired = let h = so_far.few_acquired in omega (arith, h, one_if_small (acquires mutex waiting e));
      few_released = let h = so_far.few_released in omega (arith, h, one_if_small (is_release e));
      few_posted = let h = so_far.few_posted in omega (arith, h, small);
      few_abandoned = let h = so_far.few_abandoned in omega (arith, h, one_if_small (ends_abandoned e));
    }

-- all entries
pub counted_all : (threads mutex : ℕ) (es : List Entry) (i : ℕ) (waiting : List Bool) (a r p b : ℕ) → CountedSoFar threads mutex es i waiting a r p b → length es ≤ i
    → (a ≡ acquired threads mutex es) × (r ≡ mutex_releases es) × (p ≡ posted es) × (b ≡ abandoned es)
counted_all threads mutex es i waiting a r p b so_far all =
    let a_all : acquired_from mutex waiting (drop i es) ≡ 0 = at_drop_all (acquired_from mutex waiting) es i all in
    let r_all : mutex_releases (drop i es) ≡ 0 = at_drop_all mutex_releases es i all in
    let p_all : posted (drop i es) ≡ 0 = at_drop_all posted es i all in
    let b_all : abandoned (drop i es) ≡ 0 = at_drop_all abandoned es i all in (
      (let h = so_far.acquired_is in omega (arith, h, a_all)),
      (let h = so_far.released_is in omega (arith, h, r_all)),
      (let h = so_far.posted_is in omega (arith, h, p_all)),
      (let h = so_far.abandoned_is in omega (arith, h, b_all)),
    )
