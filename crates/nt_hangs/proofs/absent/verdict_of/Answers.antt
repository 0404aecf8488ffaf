use Rattle.std.proofs.Common.{ℕ, MatchOption, subst}
use Rattle.nt_calls.specs.Steps.{IsNextMoment, NothingDue}
use Rattle.nt_machine.specs.Dispatcher.{state}
use Rattle.nt_hangs.proofs.absent.verdict_of.Goals as goal

pub returns-clause-next : goal.returns-clause-next
returns-clause-next c =
    subst (λ (m : ℕ). MatchOption c.due.result (NothingDue (state c.args.core.now) m) (IsNextMoment (state c.args.core.now) m)) c.last_moment.ensures c.due.ensures
