-- A call of a run, written as the line of a script.
use Rattle.std.specs.Prelude.{◌≡◌, ℕ, ◌<◌, Bool, true, false, List, [], ◌∷◌, ◌++◌, length, Option, Some, None, if◌then◌else◌, codes}
use Rattle.std.specs.Fmt.{decimal}
use Rattle.nt_lines.specs.declared.input.TheConstants.{MAX_LINE}
use Rattle.nt_calls.specs.declared.call.Call.{Call}
use Rattle.nt_calls.specs.declared.call.Act.{Act}
use Rattle.nt_grammar.specs.Naming.{NamesFree}
use Rattle.nt_grammar.specs.Scope.{Scope}
use Rattle.nt_grammar.specs.Spelling.{statement_text}
use Rattle.nt_grammar.specs.Lines.{IsLine}
use Rattle.nt_grammar.specs.declared.parser.Statement.{Statement}
use Rattle.nt_grammar.specs.declared.parser.Statement.TheVariants.{Create, Perform}
use Rattle.nt_written.specs.declared.writing.Unwritten.{Unwritten}
use Rattle.nt_written.specs.declared.writing.Unwritten.TheVariants.{Unsayable, TooLong, Memory}

-- the name in a creation's line: `h` and the number of the handle that it answered; `refused` where it answered none
abbrev pub name_for : Option ℕ → List ℕ
name_for (Some handle) = codes "h" ++ decimal handle
name_for None = codes "refused"

-- the act makes a handle, so that its line has a name
abbrev pub makes_handle : Act → Bool
makes_handle (Act.CreateEvent flags) = true
makes_handle (Act.CreateSemaphore initial maximum) = true
makes_handle (Act.CreateMutex flags) = true
makes_handle (Act.CreateTimer flags) = true
makes_handle (Act.Duplicate handle access) = true
makes_handle _ = false

-- what a call says in a script, where it answered this handle or none
abbrev pub statement_for : ℕ → Call → Option ℕ → Statement
statement_for who (Call.Act act) created = if makes_handle act then Create who (name_for created) act else Perform who (Call.Act act)
statement_for who call created = Perform who call

-- The statement's own text and a line feed were put last. Where its name is free, this is a line of the statement and of no other.
pub record IsWritten (statement : Statement) (old new : List ℕ) : Type 0 where
  pub puts : new ≡ old ++ (statement_text statement ++ 10 ∷ [])
  pub is : (scope : Scope) → NamesFree scope statement → IsLine scope statement (statement_text statement)
  pub only : (scope : Scope) (other : Statement) → IsLine scope other (statement_text statement) → NamesFree scope statement → other ≡ statement

-- no line of any script is this statement; or its own text is longer than a line; or memory was refused
abbrev pub IsUnwritten : Statement → Unwritten → Type 0
IsUnwritten statement Unsayable = (scope : Scope) (bytes : List ℕ) → ¬ IsLine scope statement bytes
IsUnwritten statement TooLong = MAX_LINE < length (statement_text statement)
IsUnwritten statement Memory = Unit {0}
