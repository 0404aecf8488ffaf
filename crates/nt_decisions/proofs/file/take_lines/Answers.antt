use Rattle.std.proofs.Common.{◌≡◌, List, Option, Some, Err, sym, ap, subst, ◌∙◌, rules}
use Rattle.std.specs.List.{slice_split}
use Rattle.nt_decisions.specs.declared.decision.Decision.{Decision}
use Rattle.nt_decisions.specs.declared.file.FileFault.{FileFault}
use Rattle.nt_decisions.specs.Decisions.{is_end, entry_in, read_on, IsLineFault}
use Rattle.nt_decisions.proofs.Lines.{fault_on}
use Rattle.nt_decisions.proofs.file.take_lines.Goals as goal

pub returns-in_err-take_line-clause-fault : goal.returns-in_err-take_line-clause-fault
returns-in_err-take_line-clause-fault c =
    let fault : FileFault = c.in_err-take_line.field-0.0 in
    let line = entry_in c.loop-left.decisions.items c.split_line.result.0.now in
    let left = slice_split is_end c.split_line.result.1.now in
    let is : c.from_residual.result ≡ Err fault = search rules in
    let same : read_on line left ≡ read_on (Some c.args.decisions.now.items) (slice_split is_end c.args.text.now) =
    sym (c.split_line.ensures.split.lines (Some c.loop-left.decisions.items)) ∙ c.loop-left.invariant in
    let bad : IsLineFault fault (read_on line left) = fault_on fault line left c.in_err-take_line.ensures.fault in
    rw is (subst (λ (x : Option (List Decision)). IsLineFault fault x) same bad)

pub loop-left-preserved : goal.loop-left-preserved
loop-left-preserved c =
    let left = slice_split is_end c.split_line.result.1.now in
    ap (λ (x : Option (List Decision)). read_on x left) (sym c.in_ok-take_line.ensures.ok)
    ∙ (sym (c.split_line.ensures.split.lines (Some c.loop-left.decisions.items)) ∙ c.loop-left.invariant)
