use Rattle.std.proofs.Common.{◌≡◌, ◌<◌, ◌∙◌, ℕ, ap, arith, Result, Ok, Err, IfOk}
use Rattle.nt_devices.specs.Device.{one_more}
use Rattle.nt_script.specs.declared.fault.RunFault.{RunFault}
use Rattle.nt_script.specs.declared.summary.Summary.{Summary}
use Rattle.nt_script.specs.Running.{CountsFaults}
use Rattle.nt_script.specs.declared.fault.RunFault.TheVariants.{Script, Read, Write, Memory}
use Rattle.nt_script.proofs.Running.{Answers-end, Answers-full}
use Rattle.nt_script.proofs.runner.Runner.take_lines.Goals as goal

lines_below : (result : Result Summary RunFault) (n most : ℕ) → IfOk result (λ summary. summary.lines ≡ n) → n < most → IfOk result (λ summary. summary.lines < most)
lines_below (Ok summary) n most e below = omega (arith, e, below)
lines_below (Err fault) n most e below = tt

-- nothing failed before the end was written
counts_end : (read read' written written' written'' : ℕ) (result : Result Summary RunFault) → read' ≡ read → written' ≡ written → CountsFaults 0 0 written' written'' result → CountsFaults read read' written written'' result
counts_end read read' written written' written'' (Ok summary) p q e = (p, e.1 ∙ q)
counts_end read read' written written' written'' (Err (Script place fault)) p q e = (p, e.1 ∙ q)
counts_end read read' written written' written'' (Err (Memory place)) p q e = (p, e.1 ∙ q)
counts_end read read' written written' written'' (Err (Write place)) p q e = (p, e.1 ∙ ap one_more q)
counts_end read read' written written' written'' (Err (Read place)) p q e = let none = e.0 in absurd (omega arith)

pub returns-in-Ok-Some-clause-counts : goal.returns-in-Ok-Some-clause-counts
returns-in-Ok-Some-clause-counts g c =
    let before = c.in-Ok-Some.ensures.counts in
    counts_end _ _ _ _ _ c.end.result before.0 before.1 c.end.ensures.counts

pub returns-in-Ok-Some-clause-lines : goal.returns-in-Ok-Some-clause-lines
returns-in-Ok-Some-clause-lines g c = lines_below c.end.result _ _ c.end.ensures.lines (rw c.in-Ok-Some.field-0-is at c.in-Ok-Some.ensures.few)

pub returns-in-Ok-Some-clause-answers : goal.returns-in-Ok-Some-clause-answers
returns-in-Ok-Some-clause-answers g c = Answers-end _ _ _ _ _ _ _ _ (rw c.in-Ok-Some.field-0-is at c.in-Ok-Some.ensures.passes) c.end.ensures.ends

pub returns-in-Ok-None-clause-answers : goal.returns-in-Ok-None-clause-answers
returns-in-Ok-None-clause-answers g c = Answers-full _ _ _ _ (g.R.Source.seen c.pass_to.new.reader).left _ _ (rw c.in-Ok-None.field-0-is at c.in-Ok-None.ensures.passes)
