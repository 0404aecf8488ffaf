use Rattle.std.proofs.Common.{ℕ, List, Option, sym, subst}
use Rattle.nt_machine.specs.Dispatcher.{state}
use Rattle.nt_sleepers.specs.Sleepers.{IsWatched, SleepsUpTo}
use Rattle.nt_sleepers.proofs.Kept.{in_time_idle, in_time_soon, in_time_called}
use Rattle.nt_sleepers.proofs.keeping.call_one.Goals as goal

pub returns-in_err-due-clause-in_time : goal.returns-in_err-due-clause-in_time
returns-in_err-due-clause-in_time c = in_time_idle (state c.args.core.now) _ _ c.in_ok-new.field-0 c.in_ok-new.ensures.value c.in_err-due.ensures

pub returns-then-sleeps_up_to-clause-in_time : goal.returns-then-sleeps_up_to-clause-in_time
returns-then-sleeps_up_to-clause-in_time c =
    in_time_soon (state c.args.core.now) _ _ c.in_ok-new.field-0 c.in_ok-due.due c.in_ok-due.ensures
    (subst (λ (n : ℕ). SleepsUpTo c.args.alarms.now n) c.get.ensures.value c.if-sleeps_up_to.ensures)

pub returns-clause-in_time : goal.returns-clause-in_time
returns-clause-in_time c =
    subst (λ (xs : List (Option ℕ)). IsWatched (state c.args.core.now) xs c.args.watchers.now) (sym c.set.ensures)
    (in_time_called (state c.args.core.now) _ _ c.in_ok-watcher.watcher c.requires.count c.in_ok-watcher.ensures)
