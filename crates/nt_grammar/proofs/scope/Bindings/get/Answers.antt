use Rattle.std.proofs.Common.{◌∙◌, ap}
use Rattle.nt_grammar.specs.Scope.{bound_in}
use Rattle.nt_grammar.proofs.Names.{lookup-bound_in}
use Rattle.nt_grammar.proofs.scope.Bindings.get.Goals as goal

pub returns : goal.returns
returns c =
    c.copied.ensures ∙ c.get.ensures.value ∙ lookup-bound_in c.self.inside.names.entries c.args.name.now
    ∙ ap (λ bound. bound_in bound.scope.names c.args.name.now) c.self.view_is
