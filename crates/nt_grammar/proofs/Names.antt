-- Names in the map, and in what a contract sees.
use Rattle.std.proofs.Common.{◌≡◌, ℕ, cond, List, [], ◌∷◌, Some, map, refl, ap, ◌++◌}
use Rattle.std.specs.Prelude.{Vec}
use Rattle.std.specs.Str.{bytes_eq}
use Rattle.std.specs.Map.{lookup}
use Rattle.std.proofs.lemmas.List.{map-append}
use Rattle.nt_grammar.specs.Scope.{Scope, bound_in}

pub lookup-bound_in : {A : Type 0} (entries : List (Vec ℕ A × ℕ)) (word : List ℕ)
    → lookup (λ name. bytes_eq word name.items) entries ≡ bound_in (map (λ entry. (entry.0.items, entry.1)) entries) word
lookup-bound_in [] word = refl
lookup-bound_in (entry ∷ entries) word = ap (cond (bytes_eq word entry.0.items) (Some entry.1)) (lookup-bound_in entries word)

abbrev pub scope_of : {A : Type 0} → ℕ → List (Vec ℕ A × ℕ) → Scope
scope_of threads entries = record { threads = threads; names = map (λ entry. (entry.0.items, entry.1)) entries }

-- a name that is put last
pub names-put : {A : Type 0} (threads : ℕ) (old new : List (Vec ℕ A × ℕ)) (name : Vec ℕ A) (handle : ℕ) → new ≡ old ++ (name, handle) ∷ []
    → scope_of threads new ≡ record { threads = threads; names = map (λ entry. (entry.0.items, entry.1)) old ++ (name.items, handle) ∷ [] }
names-put threads old new name handle e = rw (e, map-append) refl
