use Rattle.std.proofs.Common.{sym, None, subst}
use Rattle.nt_tables.specs.Owned.{Owned}
use Rattle.nt_tables.specs.Objects.{IsPassed}
use Rattle.nt_tables.proofs.PassLemmas.{removed_passed}
use Rattle.nt_tables.proofs.KeptLemmas.{same_passed}
use Rattle.nt_tables.proofs.table.leave_list.Goals as goal

pub returns-in-Some-clause-passed : goal.returns-in-Some-clause-passed
returns-in-Some-clause-passed c =
    subst (λ (owned : Owned). IsPassed c.args.owners.now.lists owned.lists c.args.mutex None) (sym c.remove.ensures)
    (removed_passed c.args.owners.now.lists c.in-Some.thread c.args.mutex (rw c.in-Some.is at c.requires.from) c.requires.once)

pub remove-requires : goal.remove-requires
remove-requires c = (c.requires.from c.in-Some.thread).1 c.in-Some.is

pub returns-in_default-clause-passed : goal.returns-in_default-clause-passed
returns-in_default-clause-passed c =
    same_passed c.args.owners.now.lists c.args.mutex None (rw c.in_default.is at c.requires.from) c.requires.once
