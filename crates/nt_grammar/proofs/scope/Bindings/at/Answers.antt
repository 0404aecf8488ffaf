use Rattle.std.proofs.Common.{◌≡◌, ◌∙◌, List, ℕ, Some, ap, subst, sym}
use Rattle.std.proofs.lemmas.Slice.Eq.{bytes_eq-Decides}
use Rattle.std.specs.Map.{lookup}
use Rattle.std.specs.Str.{bytes_eq}
use Rattle.nt_grammar.specs.Scope.{bound_in}
use Rattle.nt_grammar.proofs.Names.{lookup-bound_in}
use Rattle.nt_grammar.proofs.scope.Bindings.at.Goals as goal

pub returns-in-Some : goal.returns-in-Some
returns-in-Some c =
    let entries = c.self.inside.names.entries in
    let same : c.in-Some.bound.now.items ≡ c.args.name.now = sym c.as_slice.ensures.value ∙ (bytes_eq-Decides _ _).0 (sym c.if-eq.ensures) in
    sym (lookup-bound_in entries c.args.name.now ∙ ap (λ bound. bound_in bound.scope.names c.args.name.now) c.self.view_is)
    ∙ subst (λ (word : List ℕ). lookup (λ name. bytes_eq word name.items) entries ≡ Some c.in-Some.handle.now) same c.in-Some.ensures.value
