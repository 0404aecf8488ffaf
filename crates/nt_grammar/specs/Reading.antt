-- How the parser reads a line, word by word from the left, up to the first fault.
use Rattle.std.specs.Prelude.{◌≡◌, ℕ, ℤ, ◌==◌, nat_le, Bool, true, false, List, [], ◌∷◌, length, Option, Some, None, Result, Ok, Err, if◌then◌else◌}
use Rattle.std.specs.List.{list_all}
use Rattle.std.specs.Str.{bytes_eq}
use Rattle.nt_lines.specs.declared.input.TheConstants.{MAX_LINE}
use Rattle.nt_status.specs.declared.limits.TheConstants.{MAX_MOMENT, MAX_THREADS}
use Rattle.nt_lines.specs.Words.{text_of, words_of, is_plain, caller_of}
use Rattle.nt_grammar.specs.Scope.{Scope}
use Rattle.nt_grammar.specs.Places.{Place, NamePlace, ObjectPlace, NumberPlace, SignedPlace, TimePlace, ModePlace, ValuePlace, ValueOf, value_in, blame, is_word, number_in, signed_in, free_name_in, object_meant, time_in, mode_in}
use Rattle.nt_grammar.specs.Grammar.{After, Options, Each, Both, Values, Given, ValuesAfter, places_of, after_of, called}
use Rattle.nt_grammar.specs.declared.keyword.Keyword.{Keyword}
use Rattle.nt_grammar.specs.Keywords.{ThreadsWord, TickWord, keyword_of, other_text}
use Rattle.nt_grammar.specs.declared.fault.ScriptFault.{ScriptFault}
use Rattle.nt_grammar.specs.declared.fault.ScriptFault.TheVariants.{LineTooLong, BadByte, ThreadsExpected, UnknownWord, MissingWord, ExtraWord}
use Rattle.nt_grammar.specs.declared.parser.Statement.{Statement}
use Rattle.nt_grammar.specs.declared.parser.Statement.TheVariants.{Blank, Tick}
use Rattle.nt_grammar.specs.declared.fault.LineFault.{LineFault}
use Rattle.nt_grammar.specs.declared.fault.LineFault.TheVariants as line
use denote.Ref.{Bor}

infixl 10 ◌>>=◌
abbrev pub ◌>>=◌ : {A B : Type 0} → Result A ScriptFault → (A → Result B ScriptFault) → Result B ScriptFault
(Ok x) >>= f = f x
(Err e) >>= f = Err e

-- a value that is there, or the fault
abbrev pub or_fault : {A : Type 0} → Option A → ScriptFault → Result A ScriptFault
or_fault None fault = Err fault
or_fault (Some x) fault = Ok x

-- ---- what a function of the parser answers

-- it gave what the definition gives, or memory ran out
abbrev pub Fails : {Y : Type 0} → LineFault → Result Y ScriptFault → Type 0
Fails line.Memory read = Unit {0}
Fails (line.Script fault) read = read ≡ Err fault

-- a value was taken from the front of the words, and these are left
abbrev pub Takes : {X Y : Type 0} → (X → Y) → Result X ScriptFault → List (List ℕ) → Result (Y × List (List ℕ)) ScriptFault → Type 0
Takes view (Ok x) left taken = taken ≡ Ok (view x, left)
Takes view (Err fault) left taken = taken ≡ Err fault

abbrev pub Gives : {X Y : Type 0} → (X → Y) → Result X LineFault → Result Y ScriptFault → Type 0
Gives view (Ok x) read = read ≡ Ok (view x)
Gives view (Err fault) read = Fails fault read

abbrev pub GivesText : Result (Bor (List ℕ)) ScriptFault → Result (List ℕ) ScriptFault → Type 0
GivesText (Ok text) read = read ≡ Ok text.now
GivesText (Err fault) read = read ≡ Err fault

-- ---- places

-- the next word
abbrev pub word_at : List (List ℕ) → Result (List ℕ × List (List ℕ)) ScriptFault
word_at [] = Err MissingWord
word_at (word ∷ words) = Ok (word, words)

-- no word is left
abbrev pub end_at : List (List ℕ) → Result (Unit {0}) ScriptFault
end_at [] = Ok tt
end_at (word ∷ words) = Err ExtraWord

-- a word that may stand here, and whether it does
abbrev pub option_at : List ℕ → List (List ℕ) → Bool × List (List ℕ)
option_at text [] = (false, [])
option_at text (word ∷ words) = if bytes_eq word text then (true, words) else (false, word ∷ words)

-- the value of the next word, or the fault of its place
abbrev pub value_at : {A : Type 0} → (List ℕ → Option A) → Place → List (List ℕ) → Result (A × List (List ℕ)) ScriptFault
value_at read place words = do
  word ← word_at words
  value ← or_fault (read word.0) (blame place word.0)
  Ok (value, word.1)

unfoldable pub number_at : ℕ → ℕ → List (List ℕ) → Result (ℕ × List (List ℕ)) ScriptFault
number_at least most words = value_at (number_in least most) (NumberPlace least most) words

unfoldable pub free_name_at : Scope → List (List ℕ) → Result (List ℕ × List (List ℕ)) ScriptFault
free_name_at scope words = value_at (free_name_in scope) NamePlace words

unfoldable pub object_word_at : Scope → List (List ℕ) → Result (ℕ × List (List ℕ)) ScriptFault
object_word_at scope words = value_at (object_meant scope) ObjectPlace words

unfoldable pub signed_at : ℕ → List (List ℕ) → Result (ℤ × List (List ℕ)) ScriptFault
signed_at half words = value_at (signed_in half) (SignedPlace half) words

unfoldable pub time_at : List (List ℕ) → Result (ℕ × List (List ℕ)) ScriptFault
time_at words = value_at time_in TimePlace words

unfoldable pub mode_at : List (List ℕ) → Result (Bool × List (List ℕ)) ScriptFault
mode_at words = value_at mode_in ModePlace words

-- the value of the next word in any place
abbrev pub place_value_at : Scope → (place : Place) → List (List ℕ) → Result (ValueOf place × List (List ℕ)) ScriptFault
place_value_at scope NamePlace words = free_name_at scope words
place_value_at scope ObjectPlace words = object_word_at scope words
place_value_at scope (NumberPlace least most) words = number_at least most words
place_value_at scope (SignedPlace half) words = signed_at half words
place_value_at scope TimePlace words = time_at words
place_value_at scope ModePlace words = mode_at words

-- a value for each place, and what is made of them and the words that are left
abbrev pub places_at : {A : Type 0} → Scope → (places : List Place) → (Values places → List (List ℕ) → Result A ScriptFault) → List (List ℕ) → Result A ScriptFault
places_at scope [] read words = read tt words
places_at scope (place ∷ places) read words = place_value_at scope place words >>= λ value. places_at scope places (λ values rest. read (value.0, values) rest) value.1

-- ---- after the places

-- which of these words stand here
abbrev pub options_at : (options : List (List ℕ)) → List (List ℕ) → Given options × List (List ℕ)
options_at [] words = (tt, words)
options_at (option ∷ options) words = (((option_at option words).0, (options_at options (option_at option words).1).0), (options_at options (option_at option words).1).1)

-- a value of each word that is left
unfoldable pub each_at : Scope → (place : Place) → List (List ℕ) → Result (List (ValueOf place)) ScriptFault
each_at scope place [] = Ok []
each_at scope place (word ∷ words) = do
  value ← or_fault (value_in scope place word) (blame place word)
  values ← each_at scope place words
  Ok (value ∷ values)

-- both values, where any word is left
abbrev pub both_at : Scope → (first second : Place) → List (List ℕ) → Result (Option (ValueOf first × ValueOf second)) ScriptFault
both_at scope first second words =
    if length words == 0 then Ok None
    else (place_value_at scope first words >>= λ one. (place_value_at scope second one.1 >>= λ two. (end_at two.1 >>= λ ended. Ok (Some (one.0, two.0)))))

-- what the words after the places say
abbrev pub after_at : Scope → (after : After) → List (List ℕ) → Result (ValuesAfter after) ScriptFault
after_at scope (Options options) words = end_at (options_at options words).1 >>= λ ended. Ok (options_at options words).0
after_at scope (Each place) words = each_at scope place words
after_at scope (Both first second) words = both_at scope first second words

-- ---- statements

-- a routine and its argument, both or none
unfoldable pub routine_at : List (List ℕ) → Result (Option (ℕ × ℕ)) ScriptFault
routine_at words = both_at (record { threads = 0; names = [] }) ValuePlace ValuePlace words

-- tick M
unfoldable pub tick_at : List (List ℕ) → Result Statement ScriptFault
tick_at words = do
  moment ← number_at 0 MAX_MOMENT words
  ended ← end_at moment.1
  Ok (Tick moment.0)

-- the line of a keyword
unfoldable pub keyword_line_at : Scope → ℕ → Keyword → List (List ℕ) → Result Statement ScriptFault
keyword_line_at scope who k words = places_at scope (places_of k) (λ values rest. after_at scope (after_of k) rest >>= λ after. Ok (called who k values after)) words

-- after a caller
unfoldable pub caller_at : Scope → ℕ → List (List ℕ) → Result Statement ScriptFault
caller_at scope who words = do
  word ← word_at words
  keyword ← or_fault (keyword_of word.0) UnknownWord
  keyword_line_at scope who keyword word.1

unfoldable pub statement_at : Scope → List (List ℕ) → Result Statement ScriptFault
statement_at scope [] = Ok Blank
statement_at scope (first ∷ words) = if is_word first (other_text TickWord) then tick_at words else (or_fault (caller_of first) UnknownWord >>= λ who. caller_at scope who words)

unfoldable pub threads_at : List (List ℕ) → Result (Option ℕ) ScriptFault
threads_at words = do
  n ← number_at 1 MAX_THREADS words
  ended ← end_at n.1
  Ok (Some n.0)

-- threads N, on the first line that isn't blank
unfoldable pub opening_at : List (List ℕ) → Result (Option ℕ) ScriptFault
opening_at [] = Ok None
opening_at (first ∷ words) = if is_word first (other_text ThreadsWord) then threads_at words else Err ThreadsExpected

unfoldable pub plain_text : List ℕ → Result (List ℕ) ScriptFault
plain_text line = if list_all is_plain (text_of line) then Ok (text_of line) else Err BadByte

-- a line of at most 4096 bytes
abbrev pub short_line : List ℕ → Result (List ℕ) ScriptFault
short_line bytes = if nat_le (length bytes) MAX_LINE then Ok bytes else Err LineTooLong

-- what a line says before the `threads` line: how many threads there are, or nothing
abbrev pub opening_of : List ℕ → Result (Option ℕ) ScriptFault
opening_of bytes = short_line bytes >>= λ line. (plain_text line >>= λ text. opening_at (words_of text))

-- what a line says after it
abbrev pub statement_of : Scope → List ℕ → Result Statement ScriptFault
statement_of scope bytes = short_line bytes >>= λ line. (plain_text line >>= λ text. statement_at scope (words_of text))
