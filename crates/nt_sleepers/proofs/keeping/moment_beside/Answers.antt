use Rattle.std.proofs.Common.{ℕ, subst}
use Rattle.nt_machine.specs.Dispatcher.{state}
use Rattle.nt_sleepers.specs.Sleepers.{SleepsUpTo}
use Rattle.nt_sleepers.proofs.Kept.{short_idle, short_by_another, short_itself}
use Rattle.nt_sleepers.proofs.keeping.moment_beside.Goals as goal

pub returns-in_default-due-clause-short : goal.returns-in_default-due-clause-short
returns-in_default-due-clause-short c = short_idle (state c.args.core.now) _ _ c.in-Some.last c.in-Some.ensures.value c.in_default-due.ensures

pub returns-then-sleeps_up_to-clause-short : goal.returns-then-sleeps_up_to-clause-short
returns-then-sleeps_up_to-clause-short c =
    short_by_another (state c.args.core.now) _ _ c.in-Some.last c.in-Some-due.due c.in-Some-due.ensures
    (subst (λ (n : ℕ). SleepsUpTo c.args.others.now n) c.get.ensures.value c.if-sleeps_up_to.ensures)

pub returns-else-sleeps_up_to-clause-short : goal.returns-else-sleeps_up_to-clause-short
returns-else-sleeps_up_to-clause-short c =
    short_itself (state c.args.core.now) _ c.in-Some.last c.in-Some-due.due c.get-else-sleeps_up_to.result c.in-Some-due.ensures c.get-else-sleeps_up_to.ensures.value
