use Rattle.std.proofs.Common.{◌∙◌, ◌++◌, ◌∷◌, [], Result, Ok, Err, ap, OnOk, IsOk}
use Rattle.nt_grammar.specs.Scope.{bound_in, Bound}
use Rattle.indexmap.proofs.CallerLemmas.{insert_entry-new}
use Rattle.nt_grammar.proofs.Names.{lookup-bound_in, names-put}
use Rattle.nt_grammar.proofs.scope.Bindings.bind.Goals as goal

on_ok : {X E : Type 0} (r : Result X E) (P : Type 0) → IsOk r → OnOk r P → P
on_ok (Ok x) P i h = h
on_ok (Err e) P i h = absurd cc

pub returns : goal.returns
returns c =
    let room = rw (← (ap (λ (b : Bound). b.room) c.self.view_is)) at c.requires.room in
    let free = lookup-bound_in c.self.inside.names.entries c.args.name.items ∙ ap (λ (b : Bound). bound_in b.scope.names c.args.name.items) c.self.view_is ∙ c.requires.free in
    let put = on_ok c.insert.result _ (c.insert.ensures.succeeds room) c.insert.ensures.entries ∙ insert_entry-new _ c.self.inside.names c.args.name c.args.handle free in
    names-put c.self.inside.threads c.self.inside.names.entries c.insert.new.self.entries c.args.name c.args.handle put
    ∙ ap (λ (b : Bound). record b.scope { names = b.scope.names ++ (c.args.name.items, c.args.handle) ∷ [] }) c.self.view_is
