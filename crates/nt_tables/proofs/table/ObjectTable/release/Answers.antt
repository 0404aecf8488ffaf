use Rattle.std.proofs.Common.{◌<◌, length, sym, subst}
use Rattle.nt_tables.specs.Objects.{Objects}
use Rattle.nt_tables.proofs.KeptLemmas.{owner_kept, owner-release}
use Rattle.nt_tables.proofs.table.ObjectTable.release.Goals as goal

pub invariant_of-self : goal.invariant_of-self
invariant_of-self c =
    let items = c.self.inside.objects.items in
    let known : c.args.semaphore < length items = subst (λ (t : Objects). c.args.semaphore < length t.items) (sym c.self.view_is) c.requires.known in
    owner_kept items c.self.inside.owners.lists c.args.semaphore c.get.result c.self.inside.owners.room c.index_mut.result.now c.release_semaphore.new.self c.get.ensures known c.index_mut.ensures.value
    (owner-release c.release_semaphore.result _ c.index_mut.result.now c.release_semaphore.new.self c.release_semaphore.ensures.ok c.release_semaphore.ensures.err) c.self.invariant
