use Rattle.std.proofs.Common.{sym, subst, Some, None}
use Rattle.nt_tables.specs.Owned.{Owned}
use Rattle.nt_tables.specs.Objects.{IsPassed}
use Rattle.nt_tables.proofs.KeptLemmas.{same_passed, unlisted, added_passed}
use Rattle.nt_tables.proofs.table.join_list.Goals as goal

pub returns-in-Some-clause-passed : goal.returns-in-Some-clause-passed
returns-in-Some-clause-passed c =
    let lists = c.args.owners.now.lists in
    rw c.in-Some.is (subst (λ (owned : Owned). IsPassed lists owned.lists c.args.mutex (Some c.in-Some.thread)) (sym c.add.ensures)
    (added_passed lists c.in-Some.thread c.args.mutex (c.requires.to c.in-Some.thread c.in-Some.is) c.requires.unowned c.requires.once))

pub returns-in_default-clause-passed : goal.returns-in_default-clause-passed
returns-in_default-clause-passed c =
    let lists = c.args.owners.now.lists in
    rw c.in_default.is (same_passed lists c.args.mutex None (unlisted lists c.args.mutex c.requires.unowned) c.requires.once)
