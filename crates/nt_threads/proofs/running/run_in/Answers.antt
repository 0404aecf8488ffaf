use Rattle.std.proofs.Common.{ℕ, ap, sym, subst}
use Rattle.nt_front.specs.Names.{Prepared}
use Rattle.nt_threads.specs.Reports.{ComesOfRun}
use Rattle.nt_threads.proofs.running.run_in.Goals as goal

pub returns-in-Ok-clause-comes : goal.returns-in-Ok-clause-comes
returns-in-Ok-clause-comes g c whole =
    subst (λ (n : ℕ). ComesOfRun n c.run_on.result.history.entries.items) (sym (ap (λ (front : Prepared). front.threads) c.requires.front)) (c.run_on.ensures.comes whole)
