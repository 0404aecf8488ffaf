-- What follows from the definitions alone.
use Rattle.std.specs.Prelude.{◌≡◌, ℕ, ◌≤◌, ◌⊎◌, List, [], ◌∷◌, length, Some}
use Rattle.std.specs.Fmt.{decimal}
use Rattle.nt_lines.specs.declared.input.TheConstants.{MAX_LINE}
use Rattle.nt_status.specs.declared.limits.TheConstants.{INFINITE}
use Rattle.nt_lines.specs.Words.{words_of, text_of}
use Rattle.nt_grammar.specs.Keywords.{EndlessWord, other_text}
use Rattle.nt_grammar.specs.Plain.{plain_word}
use Rattle.nt_grammar.specs.Scope.{Scope}
use Rattle.nt_grammar.specs.Places.{named_object}
use Rattle.nt_grammar.specs.Spelling.{spelling, statement_text, CanBeSaid}
use Rattle.nt_grammar.specs.Lines.{IsLine, FaultIn}
use Rattle.nt_grammar.specs.declared.fault.ScriptFault.{ScriptFault}
use Rattle.nt_grammar.specs.declared.parser.Statement.{Statement}

-- a statement reads back: with lawful names and numbers, and short enough, its own text is a line of that statement and of no other
abbrev pub StatementsReadBack : Type 0
StatementsReadBack =
    (scope : Scope) (statement : Statement)
    → CanBeSaid scope statement
    → length (statement_text statement) ≤ MAX_LINE
    → IsLine scope statement (statement_text statement)
    × ((other : Statement) → IsLine scope other (statement_text statement) → other ≡ statement)

-- the word is that text but for leading zeros; or it is the number of `inf`; or it names the object with that handle
abbrev pub StandsFor : Scope → List ℕ → List ℕ → Type 0
StandsFor scope word text =
    (plain_word word ≡ text)
    ⊎ ((plain_word word ≡ decimal INFINITE) × (text ≡ other_text EndlessWord))
    ⊎ ((handle : ℕ) × (named_object scope word ≡ Some handle) × (text ≡ decimal handle))

-- each word stands for the text in its place
abbrev pub StandFor : Scope → List (List ℕ) → List (List ℕ) → Type 0
StandFor scope [] [] = Unit {0}
StandFor scope (word ∷ words) (text ∷ texts) = StandsFor scope word text × StandFor scope words texts
StandFor scope words texts = ⊥

-- a line is a statement only where its words are those of the statement's own text, but for leading zeros and names
abbrev pub LinesSpellStatements : Type 0
LinesSpellStatements = (scope : Scope) (statement : Statement) (bytes : List ℕ) → IsLine scope statement bytes → StandFor scope (words_of (text_of bytes)) (spelling statement)

-- The line is this statement, no other, and has no fault.
pub record IsOneStatement (scope : Scope) (bytes : List ℕ) : Type 0 where
  pub statement : Statement
  pub is : IsLine scope statement bytes
  pub only : (other : Statement) → IsLine scope other bytes → other ≡ statement
  pub faultless : (fault : ScriptFault) → FaultIn (Some scope) bytes fault → ⊥

-- The line has this first fault, and is no statement.
pub record HasFault (scope : Scope) (bytes : List ℕ) : Type 0 where
  pub fault : ScriptFault
  pub has : FaultIn (Some scope) bytes fault
  pub is_none : (statement : Statement) → IsLine scope statement bytes → ⊥

-- a line is read one way: it is one statement, or it has a first fault
abbrev pub LinesReadOneWay : Type 0
LinesReadOneWay = (scope : Scope) (bytes : List ℕ) → IsOneStatement scope bytes ⊎ HasFault scope bytes
