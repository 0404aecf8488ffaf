-- Pieces of text, put one after another.
use Rattle.std.proofs.Common.{◌≡◌, ◌+◌, suc, arith, slice_index_or, ℕ, List, ◌++◌, Result, Ok, Err, OnOk, append_assoc, sym, ap, subst, ◌∙◌}
use Rattle.std.specs.FinMap.{get}
use Rattle.nt_script.specs.Progress.{Progress}
use Rattle.nt_wording.specs.Waits.{awaited_text, waiters_text}

-- two pieces, one after the other
pub put_two : {X E : Type 0} (result : Result X E) (old mid new first second : List ℕ) → mid ≡ old ++ first → OnOk result (new ≡ mid ++ second) → OnOk result (new ≡ old ++ (first ++ second))
put_two (Ok x) old mid new first second p q = q ∙ ap (λ (l : List ℕ). l ++ second) p ∙ append_assoc old first second
put_two (Err e) old mid new first second p q = tt

-- the same, where the second piece is given otherwise
pub put_both : {X E : Type 0} (result : Result X E) (old mid new first second given : List ℕ) → mid ≡ old ++ first → given ≡ second → OnOk result (new ≡ mid ++ given) → OnOk result (new ≡ old ++ (first ++ second))
put_both result old mid new first second given p same q = subst (λ (l : List ℕ). OnOk result (new ≡ old ++ (first ++ l))) same (put_two result old mid new first given p q)

-- one thread more that waits
pub waiters_more : (now : Progress) (objects told since : List ℕ) (t line : ℕ) (old mid new : List ℕ) → line ≡ slice_index_or since t 0 → mid ≡ old ++ waiters_text now objects told since t
    → new ≡ mid ++ awaited_text now objects told line t (get now.state.waits t) → new ≡ old ++ waiters_text now objects told since (t + 1)
waiters_more now objects told since t line old mid new p q r =
    let next : t + 1 ≡ suc t = omega arith in
    let here = awaited_text now objects told (slice_index_or since t 0) t (get now.state.waits t) in
    subst (λ (n : ℕ). new ≡ old ++ waiters_text now objects told since n) (sym next)
    (r ∙ ap (λ (n : ℕ). mid ++ awaited_text now objects told n t (get now.state.waits t)) p ∙ ap (λ (l : List ℕ). l ++ here) q ∙ append_assoc old (waiters_text now objects told since t) here)
