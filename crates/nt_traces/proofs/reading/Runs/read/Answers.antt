use Rattle.std.proofs.Common.{ℕ, ◌+◌, List, Ok, Err, sym, subst, arith}
use Rattle.nt_lines.specs.Lines.{lines_of}
use Rattle.nt_traces.specs.declared.reading.TraceFault.{TraceFault}
use Rattle.nt_traces.specs.declared.reading.TraceVerdict.{TraceVerdict}
use Rattle.nt_traces.specs.Traces.{at_of, Tells}
use Rattle.nt_traces.proofs.Telling.{goes_on, is_no_event, is_no_step}
use Rattle.nt_traces.proofs.reading.Runs.read.Goals as goal

pub returns-in-Ok-NoStep : goal.returns-in-Ok-NoStep
returns-in-Ok-NoStep c =
    let at = at_of c.loop-rest.self in
    let number = c.loop-rest.lines in
    let line = c.first_line.result.0.now in
    let others = lines_of c.first_line.result.1.now in
    c.loop-rest.invariant.told (Ok (TraceVerdict.IsNoStep (number + 1)))
    (subst (λ (ls : List (List ℕ)). Tells at number ls (Ok (TraceVerdict.IsNoStep (number + 1)))) (sym c.first_line.ensures.lines)
    (is_no_step at (at_of c.take_line.new.self) number line others (rw c.in-Ok-NoStep.field-0-is at c.in-Ok-NoStep.ensures)))

pub returns-in-Ok-NoEvent : goal.returns-in-Ok-NoEvent
returns-in-Ok-NoEvent c =
    let at = at_of c.loop-rest.self in
    let number = c.loop-rest.lines in
    let line = c.first_line.result.0.now in
    let others = lines_of c.first_line.result.1.now in
    c.loop-rest.invariant.told (Err (TraceFault.Line (number + 1)))
    (subst (λ (ls : List (List ℕ)). Tells at number ls (Err (TraceFault.Line (number + 1)))) (sym c.first_line.ensures.lines)
    (is_no_event at (at_of c.take_line.new.self) number line others (rw c.in-Ok-NoEvent.field-0-is at c.in-Ok-NoEvent.ensures)))

pub loop-rest-preserved : goal.loop-rest-preserved
loop-rest-preserved c =
    let at = at_of c.loop-rest.self in
    let number = c.loop-rest.lines in
    let line = c.first_line.result.0.now in
    let others = lines_of c.first_line.result.1.now in
    record {
      few = omega (arith, c.loop-rest.invariant.few, c.first_line.ensures.shorter);
      told = λ found further.
          c.loop-rest.invariant.told found
          (subst (λ (ls : List (List ℕ)). Tells at number ls found) (sym c.first_line.ensures.lines)
          (goes_on at (at_of c.take_line.new.self) number line others found (rw c.in-Ok-Step.field-0-is at c.in-Ok-Step.ensures) further));
    }
