use Rattle.std.proofs.Common.{◌≡◌, ℕ, List, Some, None, Result, Ok, Err, inl, inr, ◌⊎◌, refl, sym, ◌∙◌}
use Rattle.nt_grammar.specs.Scope.{Scope}
use Rattle.nt_grammar.specs.Reading.{statement_of}
use Rattle.nt_grammar.specs.Laws.{IsOneStatement, HasFault}
use Rattle.nt_grammar.specs.declared.fault.ScriptFault.{ScriptFault}
use Rattle.nt_grammar.specs.declared.parser.Statement.{Statement}
use Rattle.nt_grammar.proofs.Faults.{statement_fault, no_fault}
use Rattle.nt_grammar.proofs.Forms.{is_line}
use Rattle.nt_grammar.proofs.Recognizing.{line_reads, one_statement}
use Rattle.nt_grammar.proofs.laws.lines_read_one_way.Goals as goal

none_some : {A : Type 0} (x : A) → None ≡ Some x → ⊥
none_some x e = absurd (cc)

ok_err : (st : Statement) (fault : ScriptFault) → (let left : Result Statement ScriptFault = Ok st in left ≡ Err fault) → ⊥
ok_err st fault e = absurd (cc)

read : (scope : Scope) (bytes : List ℕ) (result : Result Statement ScriptFault) → statement_of scope bytes ≡ result → IsOneStatement scope bytes ⊎ HasFault scope bytes
read scope bytes (Ok st) e =
    let line = is_line scope bytes st e in
    inl (record {
      statement = st;
      is = line;
      only = λ other is. one_statement scope bytes other st is line;
      faultless = λ fault has. none_some fault (sym (no_fault scope bytes st e) ∙ has);
    })
read scope bytes (Err fault) e =
    inr (record { fault = fault; has = statement_fault scope bytes fault e; is_none = λ st is. ok_err st fault (sym (line_reads scope st bytes is) ∙ e) })

pub returns : goal.returns
returns c = λ scope bytes. read scope bytes (statement_of scope bytes) refl
