use Rattle.std.proofs.Common.{◌<◌, length, sym, ap, ◌∙◌, subst, true}
use Rattle.nt_objects.specs.Object.{mutex_owner}
use Rattle.nt_tables.specs.Objects.{Objects}
use Rattle.nt_tables.proofs.KeptLemmas.{owner_kept, owner-with_set}
use Rattle.nt_tables.proofs.table.ObjectTable.set.Goals as goal

pub invariant_of-self : goal.invariant_of-self
invariant_of-self c =
    let items = c.self.inside.objects.items in
    let known : c.args.event < length items = subst (λ (t : Objects). c.args.event < length t.items) (sym c.self.view_is) c.requires.known in
    owner_kept items c.self.inside.owners.lists c.args.event c.get.result c.self.inside.owners.room c.index_mut.result.now c.set.new.self c.get.ensures known c.index_mut.ensures.value
    (ap mutex_owner c.set.ensures.set ∙ owner-with_set true c.index_mut.result.now) c.self.invariant
