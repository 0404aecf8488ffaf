use Rattle.std.proofs.Common.{◌↔◌, false, ap, Option, Some, Contains, ◌≡◌, ◌<◌, ◌⊎◌, true, ℕ, ◌≤◌, set, length, sym, ◌∙◌, subst}
use Rattle.std.proofs.lemmas.List.{length-set, get_or_read}
use Rattle.nt_objects.specs.declared.object.Object.TheVariants.{Thread}
use Rattle.nt_tables.specs.Owned.{list_of}
use Rattle.nt_objects.specs.Object.{mutex_owner, owned_by}
use Rattle.nt_tables.specs.Objects.{Objects, object_at, OwnersAgree, IsPassed}
use Rattle.nt_tables.proofs.PassLemmas.{heir_known, agree_put, agree_owner}
use Rattle.nt_tables.proofs.table.ObjectTable.put.Goals as goal

pub pass-requires-clause-to : goal.pass-requires-clause-to
pass-requires-clause-to c x e =
    let items = c.self.inside.objects.items in
    let lists = c.self.inside.owners.lists in
    let heir : (t : ℕ) → owned_by c.args.object t ≡ true → (owned_by (object_at items c.args.number) t ≡ true) ⊎ (t < length lists) =
    subst (λ (o : Objects). (t : ℕ) → owned_by c.args.object t ≡ true → (owned_by (object_at o.items c.args.number) t ≡ true) ⊎ (t < length o.owned)) (sym c.self.view_is) c.requires.owner in
    heir_known items lists c.args.number c.args.object c.self.invariant.0 heir x (sym c.owner-to.ensures ∙ e)

pub invariant_of-self : goal.invariant_of-self
invariant_of-self c =
    let items = c.self.inside.objects.items in
    let known : c.args.number < length items = subst (λ (t : Objects). c.args.number < length t.items) (sym c.self.view_is) c.requires.known in
    let passed : IsPassed c.self.inside.owners.lists c.pass.new.owners.lists c.args.number (mutex_owner c.args.object) = rw c.owner-to.ensures at c.pass.ensures.passed in
    let agree : OwnersAgree (set items c.args.number c.args.object) c.pass.new.owners.lists = agree_put items c.self.inside.owners.lists c.pass.new.owners.lists c.args.number c.args.object known c.self.invariant.0 passed in
    let room : length items ≤ c.pass.new.owners.room = rw c.pass.ensures.room c.self.invariant.1 in
    (rw c.get-place.ensures agree, rw (length-set items c.get-place.result c.args.object) room)

pub pass-requires-clause-from : goal.pass-requires-clause-from
pass-requires-clause-from c =
    let items = c.self.inside.objects.items in
    let lists = c.self.inside.owners.lists in
    let known : c.args.number < length items = subst (λ (t : Objects). c.args.number < length t.items) (sym c.self.view_is) c.requires.known in
    let read : c.index.result.now ≡ object_at items c.args.number = get_or_read items c.args.number c.index.result.now known (rw c.get-place.ensures at c.index.ensures) (Thread false) in
    subst (λ (owner : Option ℕ). (t : ℕ) → Contains (list_of lists t) c.args.number ↔ (owner ≡ Some t)) (sym (c.owner-from.ensures ∙ ap mutex_owner read)) (agree_owner items lists c.args.number c.self.invariant.0)
