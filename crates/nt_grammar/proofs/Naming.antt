-- A creation's name is free.
use Rattle.std.proofs.Common.{◌≡◌, ℕ, ◌&&◌, not, Bool, true, false, List, [], ◌∷◌, ◌++◌, ◌^◌, Option, Some, None, is_some, Result, Ok, Err, IfOk, refl, subst}
use Rattle.nt_lines.specs.Words.{is_name, words_of, text_of}
use Rattle.nt_grammar.specs.Scope.{Scope, bound_in}
use Rattle.nt_grammar.specs.Keywords.{keyword_text}
use Rattle.nt_grammar.specs.Naming.{NamesFree}
use Rattle.nt_grammar.specs.Places.{NamePlace, ObjectPlace, SignedPlace, AccessPlace, free_name_in}
use Rattle.nt_grammar.specs.Grammar.{Line, Nothing, Moment, Called, said_by, after_of, Part, Caller, Word, Value, Spells, value_parts, after_parts, line_parts, IsStatement}
use Rattle.nt_grammar.specs.Lines.{ReadsStatement}
use Rattle.nt_grammar.specs.declared.fault.LineFault.{LineFault}
use Rattle.nt_grammar.specs.declared.keyword.Keyword.{Keyword}
use Rattle.nt_grammar.specs.declared.parser.Statement.{Statement}
use Rattle.nt_grammar.proofs.Plain.{and_true}

abbrev Words : Type 0
Words = List (List ℕ)

is_free : (o : Option ℕ) → not (is_some o) ≡ true → o ≡ None
is_free None e = refl
is_free (Some handle) e = let bad : false ≡ true = e in absurd (cc)

word_free : (scope : Scope) (word name : List ℕ) → free_name_in scope word ≡ Some name → bound_in scope.names name ≡ None
word_free scope word name e = by (is_name word && not (is_some (bound_in scope.names word))) refl
  where
    by : (b : Bool) → (is_name word && not (is_some (bound_in scope.names word))) ≡ b → bound_in scope.names name ≡ None
    by true is =
        let some : Some word ≡ Some name = rw is at e in
        let same : word ≡ name = (cc) in
        subst (λ (name : List ℕ). bound_in scope.names name ≡ None) same (is_free (bound_in scope.names word) (and_true {a = is_name word} is).1)
    by false is = let none : None ≡ Some name = rw is at e in absurd (cc)

-- a name is free where a word says it
name_free : (scope : Scope) (who : ℕ) (text name : List ℕ) (parts : List Part) (words : Words) → Spells scope (Caller who ∷ Word text ∷ Value NamePlace name ∷ parts) words → bound_in scope.names name ≡ None
name_free scope who text name parts [] s = absurd s
name_free scope who text name parts (first ∷ []) s = absurd s.1
name_free scope who text name parts (first ∷ second ∷ []) s = absurd s.1.1
name_free scope who text name parts (first ∷ second ∷ word ∷ words) s = word_free scope word name s.1.1.0

line_free : (scope : Scope) (line : Line) (words : Words) → Spells scope (line_parts line) words → NamesFree scope (said_by line)
line_free scope Nothing words s = tt
line_free scope (Moment moment) words s = tt
line_free scope (Called who Keyword.Event values after) words s = name_free scope who (keyword_text Keyword.Event) values.0 (after_parts (after_of Keyword.Event) after) words s
line_free scope (Called who Keyword.Semaphore values after) words s = name_free scope who (keyword_text Keyword.Semaphore) values.0 (value_parts (SignedPlace (2 ^ 31) ∷ SignedPlace (2 ^ 31) ∷ []) values.1 ++ after_parts (after_of Keyword.Semaphore) after) words s
line_free scope (Called who Keyword.Mutex values after) words s = name_free scope who (keyword_text Keyword.Mutex) values.0 (after_parts (after_of Keyword.Mutex) after) words s
line_free scope (Called who Keyword.Timer values after) words s = name_free scope who (keyword_text Keyword.Timer) values.0 (after_parts (after_of Keyword.Timer) after) words s
line_free scope (Called who Keyword.Duplicate values after) words s = name_free scope who (keyword_text Keyword.Duplicate) values.0 (value_parts (ObjectPlace ∷ AccessPlace ∷ []) values.1 ++ after_parts (after_of Keyword.Duplicate) after) words s
line_free scope (Called who Keyword.Set values after) words s = tt
line_free scope (Called who Keyword.Reset values after) words s = tt
line_free scope (Called who Keyword.Pulse values after) words s = tt
line_free scope (Called who Keyword.Release values after) words s = tt
line_free scope (Called who Keyword.Unlock values after) words s = tt
line_free scope (Called who Keyword.Arm values after) words s = tt
line_free scope (Called who Keyword.Cancel values after) words s = tt
line_free scope (Called who Keyword.Apc values after) words s = tt
line_free scope (Called who Keyword.Close values after) words s = tt
line_free scope (Called who Keyword.Any values after) words s = tt
line_free scope (Called who Keyword.All values after) words s = tt
line_free scope (Called who Keyword.Sleep values after) words s = tt
line_free scope (Called who Keyword.Swap values after) words s = tt
line_free scope (Called who Keyword.Next values after) words s = tt
line_free scope (Called who Keyword.Exit values after) words s = tt

statement_free : (scope : Scope) (st : Statement) (words : Words) → IsStatement scope st words → NamesFree scope st
statement_free scope st words is = subst (λ (st : Statement). NamesFree scope st) is.1 (line_free scope is.0 words is.2)

pub read_free : (scope : Scope) (bytes : List ℕ) (result : Result Statement LineFault) → ReadsStatement scope bytes result → IfOk result (NamesFree scope)
read_free scope bytes (Ok st) reads = statement_free scope st (words_of (text_of bytes)) reads.1
read_free scope bytes (Err fault) reads = tt
