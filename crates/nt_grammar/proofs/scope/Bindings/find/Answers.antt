use Rattle.std.proofs.Common.{◌∙◌, ap}
use Rattle.nt_grammar.specs.Scope.{bound_in}
use Rattle.nt_grammar.proofs.Names.{lookup-bound_in}
use Rattle.nt_grammar.proofs.scope.Bindings.find.Goals as goal

pub returns-in-Some : goal.returns-in-Some
returns-in-Some c =
    rw c.in-Some.is at c.get_full.ensures.value ∙ lookup-bound_in c.self.inside.names.entries c.args.name.now
    ∙ ap (λ bound. bound_in bound.scope.names c.args.name.now) c.self.view_is

pub returns-in-None : goal.returns-in-None
returns-in-None c =
    rw c.in-None.is at c.get_full.ensures.value ∙ lookup-bound_in c.self.inside.names.entries c.args.name.now
    ∙ ap (λ bound. bound_in bound.scope.names c.args.name.now) c.self.view_is
