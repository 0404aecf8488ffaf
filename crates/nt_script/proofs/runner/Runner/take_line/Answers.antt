use Rattle.std.proofs.Common.{◌≡◌, ◌<◌, ◌==◌, inr, length, arith, subst, sym, ap, List, ℕ, false}
use Rattle.std.proofs.lemmas.Bool.Decides.{nat_tests}
use Rattle.nt_lines.specs.Lines.{to_come}
use Rattle.nt_script.specs.Running.{TakesLine}
use Rattle.nt_script.proofs.Running.{Turns-err}
use Rattle.nt_script.proofs.runner.Runner.take_line.Goals as goal

positive : (n : ℕ) → false ≡ (n == 0) → 0 < n
positive n some = grind (arith, nat_tests)

pub returns-in-Err-clause-next : goal.returns-in-Err-clause-next
returns-in-Err-clause-next g c =
    let left = to_come c.args.self.now.input (g.R.Source.seen c.args.reader.now).left in
    let left' = to_come c.read_line.new.self (g.R.Source.seen c.read_line.new.reader).left in
    let read = rw c.in-Ok-EndOfInput.field-0-is at c.in-Ok-EndOfInput.ensures.ok in
    let some : 0 < length c.read_line.new.line.items = omega (arith, positive _ c.if-is_empty.ensures, c.as_slice-in-Ok-EndOfInput.ensures.len, ap length c.as_slice-in-Ok-EndOfInput.ensures.value) in
    let taken : TakesLine left left' c.read_line.new.line.items = (read.0, inr (some, read.2, read.3)) in
    Turns-err _ _ _ _ _ _ _ _ c.in-Err.fault (subst (λ (line : List ℕ). TakesLine left left' line) (sym c.as_slice-in-Ok-EndOfInput.ensures.value) taken) c.in-Err.ensures.line
