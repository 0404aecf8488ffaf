-- The last choice of a path that has a next one.
use Rattle.std.proofs.Common.{◌≡◌, ℕ, zero, suc, ◌<◌, List, [], ◌∷◌, length, refl, ap, ◌∙◌, Option, Some, None, arith}
use Rattle.nt_schedule.specs.declared.tree.Node.{Node}
use Rattle.nt_schedule.specs.Tree.{after, node_at, prefix_of, deeper, next_prefix}

pub none_at : (bound : ℕ) (path : List Node) → ((k : ℕ) → k < length path → after bound (node_at path k) ≡ None) → next_prefix bound path ≡ None
none_at bound [] none = refl
none_at bound (node ∷ path) none =
    ap (λ (o : Option (List ℕ)). deeper node o (after bound node)) (none_at bound path (λ k lt. none (suc k) (omega (arith, lt))))
    ∙ ap (λ (o : Option ℕ). deeper node None o) (none zero (omega arith))

pub found_at : (bound : ℕ) (path : List Node) (at choice : ℕ) → at < length path → ((k : ℕ) → at < k → k < length path → after bound (node_at path k) ≡ None) → after bound (node_at path at) ≡ Some choice →
    next_prefix bound path ≡ Some (prefix_of path (record { at = at; choice = choice }))
found_at bound [] at choice within none some = absurd (omega (arith, within))
found_at bound (node ∷ path) zero choice within none some =
    ap (λ (o : Option (List ℕ)). deeper node o (after bound node)) (none_at bound path (λ k lt. none (suc k) (omega arith) (omega (arith, lt))))
    ∙ ap (λ (o : Option ℕ). deeper node None o) some
found_at bound (node ∷ path) (suc at) choice within none some =
    ap (λ (o : Option (List ℕ)). deeper node o (after bound node))
    (found_at bound path at choice (omega (arith, within)) (λ k lt long. none (suc k) (omega (arith, lt)) (omega (arith, long))) some)
