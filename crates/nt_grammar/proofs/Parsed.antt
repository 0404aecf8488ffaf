-- What was parsed, in the words of the grammar.
use Rattle.std.proofs.Common.{◌≡◌, ℕ, List, Option, Some, None, Result, Ok, Err}
use Rattle.nt_grammar.specs.Scope.{Scope}
use Rattle.nt_grammar.specs.Reading.{Gives, statement_of, opening_of}
use Rattle.nt_grammar.specs.Lines.{ReadsOpening, ReadsStatement}
use Rattle.nt_grammar.specs.declared.fault.ScriptFault.{ScriptFault}
use Rattle.nt_grammar.specs.declared.fault.LineFault.{LineFault}
use Rattle.nt_grammar.specs.declared.fault.LineFault.TheVariants as fault
use Rattle.nt_grammar.specs.declared.parser.Statement.{Statement}
use Rattle.nt_grammar.proofs.Faults.{statement_fault, first_opening_fault}
use Rattle.nt_grammar.proofs.Forms.{is_line, is_opening_line, is_blank_line}

pub reads_statement : (scope : Scope) (bytes : List ℕ) (result : Result Statement LineFault) → Gives (λ statement. statement) result (statement_of scope bytes) → ReadsStatement scope bytes result
reads_statement scope bytes (Ok statement) e = is_line scope bytes statement e
reads_statement scope bytes (Err (fault.Script script)) e = statement_fault scope bytes script e
reads_statement scope bytes (Err fault.Memory) e = tt

pub reads_opening : (bytes : List ℕ) (found : Option ℕ) → opening_of bytes ≡ Ok found → ReadsOpening bytes (Ok found)
reads_opening bytes None e = is_blank_line bytes e
reads_opening bytes (Some threads) e = is_opening_line bytes threads e

pub reads_opening_fault : (bytes : List ℕ) (script : ScriptFault) → opening_of bytes ≡ Err script → ReadsOpening bytes (Err (fault.Script script))
reads_opening_fault bytes script e = first_opening_fault bytes script e
