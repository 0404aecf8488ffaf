use Rattle.std.proofs.Common.{◌≡◌, ◌↔◌, ℕ, Contains, Option, Some, subst, rules}
use Rattle.std.proofs.lemmas.Option.{none-some}
use Rattle.nt_tables.specs.Owned.{list_of}
use Rattle.nt_tables.proofs.KeptLemmas.{same_passed, passed_on}
use Rattle.nt_tables.proofs.table.pass.Goals as goal

pub returns-then-eq-clause-passed : goal.returns-then-eq-clause-passed
returns-then-eq-clause-passed c =
    let lists = c.args.owners.now.lists in
    let same : c.args.from ≡ c.args.to = search rules in
    same_passed lists c.args.mutex c.args.to (subst (λ (owner : Option ℕ). (t : ℕ) → Contains (list_of lists t) c.args.mutex ↔ (owner ≡ Some t)) same c.requires.from) c.requires.once

pub join_list-requires-clause-unowned : goal.join_list-requires-clause-unowned
join_list-requires-clause-unowned c t has = none-some t ((c.leave_list.ensures.passed.itself t).0 has)

pub returns-clause-passed : goal.returns-clause-passed
returns-clause-passed c = passed_on _ _ _ c.args.mutex c.args.to c.leave_list.ensures.passed c.join_list.ensures.passed
