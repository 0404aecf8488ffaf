-- What a whole line of a script says: a statement, how many threads there are, or its first fault.
use Rattle.std.specs.Prelude.{◌≡◌, ℕ, List, [], Option, Some, None, Result, Ok, Err}
use Rattle.nt_lines.specs.Words.{words_of, text_of}
use Rattle.nt_grammar.specs.Scope.{Scope}
use Rattle.nt_grammar.specs.Grammar.{IsPlainLine, IsStatement, IsOpening, line_fault, words_fault, opening_fault}
use Rattle.nt_grammar.specs.declared.fault.ScriptFault.{ScriptFault}
use Rattle.nt_grammar.specs.declared.fault.LineFault.{LineFault}
use Rattle.nt_grammar.specs.declared.fault.LineFault.TheVariants as fault
use Rattle.nt_grammar.specs.declared.parser.Statement.{Statement}

-- so many threads, and no name yet
abbrev pub opened_scope : ℕ → Scope
opened_scope threads = record { threads = threads; names = [] }

-- The line is this statement.
abbrev pub IsLine : Scope → Statement → List ℕ → Type 0
IsLine scope statement bytes = IsPlainLine bytes × IsStatement scope statement (words_of (text_of bytes))

-- The line opens so many threads.
abbrev pub IsOpeningLine : ℕ → List ℕ → Type 0
IsOpeningLine threads bytes = IsPlainLine bytes × IsOpening threads (words_of (text_of bytes))

abbrev pub IsBlankLine : List ℕ → Type 0
IsBlankLine bytes = IsPlainLine bytes × (words_of (text_of bytes) ≡ [])

-- the first fault of a line
abbrev pub FaultIn : Option Scope → List ℕ → ScriptFault → Type 0
FaultIn None bytes fault = line_fault opening_fault bytes ≡ Some fault
FaultIn (Some scope) bytes fault = line_fault (words_fault scope) bytes ≡ Some fault

-- A line before `threads` opens so many threads, or says nothing, or has this first fault.
abbrev pub ReadsOpening : List ℕ → Result (Option ℕ) LineFault → Type 0
ReadsOpening bytes (Ok None) = IsBlankLine bytes
ReadsOpening bytes (Ok (Some threads)) = IsOpeningLine threads bytes
ReadsOpening bytes (Err (fault.Script script)) = FaultIn None bytes script
ReadsOpening bytes (Err fault.Memory) = Unit {0}

-- A line after `threads` is this statement, or has this first fault.
abbrev pub ReadsStatement : Scope → List ℕ → Result Statement LineFault → Type 0
ReadsStatement scope bytes (Ok statement) = IsLine scope statement bytes
ReadsStatement scope bytes (Err (fault.Script script)) = FaultIn (Some scope) bytes script
ReadsStatement scope bytes (Err fault.Memory) = Unit {0}
