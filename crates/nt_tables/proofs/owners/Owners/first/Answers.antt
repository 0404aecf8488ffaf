use Rattle.std.proofs.Common.{ap, ◌∙◌, List, Option, ℕ}
use Rattle.std.specs.Prelude.{slice_get}
use Rattle.nt_tables.specs.Owned.{Owned, list_of}
use Rattle.nt_tables.specs.Links.{first_at}
use Rattle.nt_tables.proofs.SoundLemmas.{first-list}
use Rattle.nt_tables.proofs.owners.Owners.first.Goals as goal

pub returns : goal.returns
returns c =
    c.first_of.ensures
    ∙ (ap (λ (fs : List (Option ℕ)). first_at fs c.args.thread) c.deref.ensures.value
    ∙ (first-list c.self.inside.firsts.items c.self.inside.links.items c.args.thread c.self.invariant
    ∙ ap (λ (owned : Owned). slice_get (list_of owned.lists c.args.thread) 0) c.self.view_is))
