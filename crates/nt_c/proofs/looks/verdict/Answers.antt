use Rattle.std.proofs.Common.{ℕ, sym, subst}
use Rattle.nt_machine.specs.Dispatcher.{state}
use Rattle.nt_calls.specs.Steps.{IsNextMoment}
use Rattle.nt_c.proofs.looks.verdict.Goals as goal

pub returns-in-Some-clause-next : goal.returns-in-Some-clause-next
returns-in-Some-clause-next c =
    subst (λ (n : ℕ). IsNextMoment (state c.args.core.now) c.args.up_to n) (sym c.get.ensures.value) c.in-Some.ensures
