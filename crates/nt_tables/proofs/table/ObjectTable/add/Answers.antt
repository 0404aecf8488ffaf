use Rattle.std.proofs.Common.{◌≡◌, ◌<◌, ◌+◌, min, vec_capacity, List, [], ◌∷◌, length, sym, ap, ◌∙◌, subst, arith, rules}
use Rattle.std.proofs.lemmas.List.{length-append}
use Rattle.std.proofs.Math.Nat.{min-le_right}
use Rattle.nt_objects.specs.declared.object.Object.{Object}
use Rattle.nt_objects.specs.Object.{mutex_owner}
use Rattle.nt_tables.specs.Objects.{Objects, OwnersAgree, IsPassed}
use Rattle.nt_tables.proofs.PassLemmas.{owner_known, agree_added}
use Rattle.nt_tables.proofs.KeptLemmas.{unlisted, next_unowned}
use Rattle.nt_tables.proofs.table.ObjectTable.add.Goals as goal

pub pass-requires-clause-to : goal.pass-requires-clause-to
pass-requires-clause-to c x e =
    subst (λ (t : Objects). x < length t.owned) (sym c.self.view_is) (owner_known c.args.object (length c.args.self.now.owned) c.requires.owner x (sym c.owner.ensures ∙ e))

pub invariant_of-self : goal.invariant_of-self
invariant_of-self c =
    let items = c.self.inside.objects.items in
    let lists = c.self.inside.owners.lists in
    let count : c.new-number.result ≡ length items = search rules in
    let passed : IsPassed lists c.pass.new.owners.lists (length items) (mutex_owner c.args.object) = rw (count, c.owner.ensures) at c.pass.ensures.passed in
    let short : length items < min (vec_capacity c.self.inside.objects) c.self.inside.owners.room = subst (λ (t : Objects). length t.items < t.room) (sym c.self.view_is) c.requires.room in
    let least = min-le_right (vec_capacity c.self.inside.objects) c.self.inside.owners.room in
    let within : length items < c.self.inside.owners.room = omega (arith, short, least) in
    let room = c.pass.ensures.room in
    let long : length c.add_object.new.objects.items ≡ length items + 1 = ap (λ (os : List Object). length os) c.add_object.ensures ∙ length-append items (c.args.object ∷ []) in
    (subst (λ (os : List Object). OwnersAgree os c.pass.new.owners.lists) (sym c.add_object.ensures) (agree_added items lists c.pass.new.owners.lists c.args.object c.self.invariant.0 passed), omega (arith, within, long, room))

pub pass-requires-clause-from : goal.pass-requires-clause-from
pass-requires-clause-from c =
    let items = c.self.inside.objects.items in
    let lists = c.self.inside.owners.lists in
    let count : c.new-number.result ≡ length items = search rules in
    rw count (unlisted lists (length items) (next_unowned items lists c.self.invariant.0))
