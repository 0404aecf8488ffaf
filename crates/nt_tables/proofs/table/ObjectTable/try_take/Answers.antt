use Rattle.std.proofs.Common.{◌≡◌, ◌<◌, ◌≤◌, length, sym, ap, ◌∙◌, subst, rules, true, false, None, Some, set}
use Rattle.std.proofs.lemmas.List.{length-set}
use Rattle.nt_objects.specs.declared.object.Object.TheVariants.{Thread}
use Rattle.nt_objects.specs.Object.{mutex_owner, is_mutex}
use Rattle.nt_tables.specs.Owned.{Owned, added, IsUnowned}
use Rattle.nt_tables.specs.Objects.{Objects, object_at, OwnersAgree, IsPassed}
use Rattle.nt_tables.proofs.PassLemmas.{agree_put}
use Rattle.nt_tables.proofs.KeptLemmas.{owner_kept, free_unowned, added_passed, owner-taken_free, owner-taken}
use Rattle.nt_tables.proofs.table.ObjectTable.try_take.Goals as goal

pub add-requires-clause-unowned : goal.add-requires-clause-unowned
add-requires-clause-unowned c =
    let items = c.self.inside.objects.items in
    let free : mutex_owner c.in_ok-object.object.now ≡ None = search rules in
    let read : c.in_ok-object.object.now ≡ object_at items c.args.number = rw c.get.ensures at (c.in_ok-object.ensures.item.3.1 (Thread false)) in
    free_unowned items c.self.inside.owners.lists c.args.number c.self.invariant.0 (ap mutex_owner (sym read) ∙ free)

pub invariant_of-self-then-joins : goal.invariant_of-self-then-joins
invariant_of-self-then-joins c =
    let items = c.self.inside.objects.items in
    let lists = c.self.inside.owners.lists in
    let object = c.in_ok-object.object.now in
    let new = c.try_take.new.self in
    let free : mutex_owner object ≡ None = search rules in
    let mutex : is_mutex object ≡ true = search rules in
    let read : object ≡ object_at items c.args.number = rw c.get.ensures at (c.in_ok-object.ensures.item.3.1 (Thread false)) in
    let known : c.args.number < length items = rw c.get.ensures at c.in_ok-object.ensures.item.3.0 in
    let thread : c.args.thread < length lists = subst (λ (t : Objects). c.args.thread < length t.owned) (sym c.self.view_is) c.requires.thread in
    let unowned : IsUnowned lists c.args.number = free_unowned items lists c.args.number c.self.invariant.0 (ap mutex_owner (sym read) ∙ free) in
    let owner : mutex_owner new ≡ Some c.args.thread = ap mutex_owner c.in_ok-taken.ensures.taken ∙ owner-taken_free object c.args.thread mutex free in
    let passed : IsPassed lists (added lists c.args.thread c.args.number) c.args.number (mutex_owner new) = rw owner (added_passed lists c.args.thread c.args.number thread unowned c.self.invariant.0.once) in
    let agree : OwnersAgree (set items c.args.number new) (added lists c.args.thread c.args.number) = agree_put items lists (added lists c.args.thread c.args.number) c.args.number new known c.self.invariant.0 passed in
    let room : length items ≤ c.add.new.self.room = subst (λ (o : Owned). length items ≤ o.room) (sym c.add.ensures) c.self.invariant.1 in (
      subst (λ (o : Owned). OwnersAgree (set items c.get.result new) o.lists) (sym c.add.ensures) (rw c.get.ensures agree),
      rw (length-set items c.get.result new) room,
    )

pub invariant_of-self-else-joins : goal.invariant_of-self-else-joins
invariant_of-self-else-joins c =
    let items = c.self.inside.objects.items in
    let object = c.in_ok-object.object.now in
    let known : c.args.number < length items = rw c.get.ensures at c.in_ok-object.ensures.item.3.0 in
    let stays : is_mutex object ≡ true → mutex_owner object ≡ None → ⊥ = λ mutex free. search (rules, mutex, free) in
    owner_kept items c.self.inside.owners.lists c.args.number c.get.result c.self.inside.owners.room object c.try_take.new.self c.get.ensures known c.in_ok-object.ensures.value
    (ap mutex_owner c.in_ok-taken.ensures.taken ∙ owner-taken object c.args.thread stays) c.self.invariant
