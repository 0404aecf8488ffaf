use Rattle.std.proofs.Common.{◌≡◌, ◌∙◌, ◌<◌, ◌≤◌, false, Some, None, set, length, refl, sym, subst, rules}
use Rattle.std.specs.Prelude.{IsTrue}
use Rattle.std.proofs.lemmas.List.{length-set, get_or_read}
use Rattle.nt_objects.specs.declared.object.Object.{Object}
use Rattle.nt_objects.specs.declared.object.Object.TheVariants.{Thread}
use Rattle.nt_objects.specs.Object.{mutex_owner, owned_by, TellsOwner}
use Rattle.nt_tables.specs.Owned.{Owned, removed}
use Rattle.nt_tables.specs.Objects.{Objects, object_at, OwnersAgree}
use Rattle.nt_tables.proofs.PassLemmas.{owned_owner, agree_freed}
use Rattle.nt_tables.proofs.KeptLemmas.{owner_kept}
use Rattle.nt_tables.proofs.table.ObjectTable.unlock.Goals as goal

pub invariant_of-self-then-eq : goal.invariant_of-self-then-eq
invariant_of-self-then-eq c =
    let items = c.self.inside.objects.items in
    let lists = c.self.inside.owners.lists in
    let known : c.args.mutex < length items = subst (λ (t : Objects). c.args.mutex < length t.items) (sym c.self.view_is) c.requires.known in
    let read : c.index_mut.result.now ≡ object_at items c.args.mutex = get_or_read items c.args.mutex c.index_mut.result.now known (rw c.get.ensures at c.index_mut.ensures.value) (Thread false) in
    let owns : IsTrue (owned_by c.index_mut.result.now c.args.thread) = c.in_ok-released.ensures.owner.0 refl in
    let owner : mutex_owner (object_at items c.args.mutex) ≡ Some c.args.thread = (owned_owner (object_at items c.args.mutex) c.args.thread).0 (subst (λ (o : Object). IsTrue (owned_by o c.args.thread)) read owns) in
    let told : TellsOwner c.in_ok-released.released c.args.thread c.release_mutex.new.self = c.in_ok-released.ensures.answer in
    let free : mutex_owner c.release_mutex.new.self ≡ None = search (rules, told) in
    let agree : OwnersAgree (set items c.args.mutex c.release_mutex.new.self) (removed lists c.args.thread c.args.mutex) = agree_freed items lists c.args.thread c.args.mutex c.release_mutex.new.self c.self.invariant.0 owner free in
    let room : length items ≤ c.remove.new.self.room = subst (λ (o : Owned). length items ≤ o.room) (sym c.remove.ensures) c.self.invariant.1 in (
      subst (λ (o : Owned). OwnersAgree (set items c.get.result c.release_mutex.new.self) o.lists) (sym c.remove.ensures) (rw c.get.ensures agree),
      rw (length-set items c.get.result c.release_mutex.new.self) room,
    )

pub invariant_of-self-else-eq : goal.invariant_of-self-else-eq
invariant_of-self-else-eq c =
    let items = c.self.inside.objects.items in
    let known : c.args.mutex < length items = subst (λ (t : Objects). c.args.mutex < length t.items) (sym c.self.view_is) c.requires.known in
    let owns : IsTrue (owned_by c.index_mut.result.now c.args.thread) = c.in_ok-released.ensures.owner.0 refl in
    let told : TellsOwner c.in_ok-released.released c.args.thread c.release_mutex.new.self = c.in_ok-released.ensures.answer in
    let still : mutex_owner c.release_mutex.new.self ≡ Some c.args.thread = search (rules, told) in
    owner_kept items c.self.inside.owners.lists c.args.mutex c.get.result c.self.inside.owners.room c.index_mut.result.now c.release_mutex.new.self c.get.ensures known c.index_mut.ensures.value
    (still ∙ sym ((owned_owner c.index_mut.result.now c.args.thread).0 owns)) c.self.invariant
