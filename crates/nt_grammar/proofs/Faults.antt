-- The fault at which the parser stops is the first one.
use Rattle.std.proofs.Common.{◌≡◌, ℕ, Bool, true, false, List, [], ◌∷◌, length, nat_le, Option, Some, None, Result, Ok, Err, refl, sym, ap, ◌∙◌}
use Rattle.std.specs.List.{list_all}
use Rattle.std.specs.Str.{bytes_eq}
use Rattle.nt_status.specs.declared.limits.TheConstants.{MAX_MOMENT, MAX_THREADS}
use Rattle.nt_lines.specs.Words.{text_of, words_of, is_plain, caller_of}
use Rattle.nt_grammar.specs.Scope.{Scope}
use Rattle.nt_grammar.specs.Keywords.{ThreadsWord, TickWord, keyword_of, other_text}
use Rattle.nt_grammar.specs.Places.{Place, NumberPlace, MomentPlace, ValueOf, value_in, is_word}
use Rattle.nt_grammar.specs.Grammar.{After, Options, Each, Both, Values, places_of, after_of, called, row, only, options_fault, each_fault, places_fault, both_fault, after_fault, shape_fault, caller_fault, words_fault, opening_fault, line_fault}
use Rattle.nt_grammar.specs.Reading.{◌>>=◌, end_at, option_at, options_at, value_at, places_at, each_at, both_at, after_at, tick_at, keyword_line_at, caller_at, statement_at, threads_at, opening_at, plain_text, short_line, opening_of, statement_of}
use Rattle.nt_grammar.specs.declared.keyword.Keyword.{Keyword}
use Rattle.nt_grammar.specs.declared.parser.Statement.{Statement}
use Rattle.nt_grammar.specs.declared.parser.Statement.TheVariants.{Tick}
use Rattle.nt_grammar.specs.declared.fault.ScriptFault.{ScriptFault}
use Rattle.nt_grammar.proofs.Values.{read_in, then_at, both_in}

abbrev pub fault_of : {A : Type 0} → Result A ScriptFault → Option ScriptFault
fault_of (Ok x) = None
fault_of (Err fault) = Some fault

abbrev Words : Type 0
Words = List (List ℕ)

-- ---- places

module _ {A : Type 0} (scope : Scope) (after : Words → Option ScriptFault) (place : Place) (places : List Place) (read : Values (place ∷ places) → Words → Result A ScriptFault)
    (others : (value : ValueOf place) (words : Words) → fault_of (places_at scope places (λ values rest. read (value, values) rest) words) ≡ places_fault scope places after words) where
  word_faults : (word : List ℕ) (words : Words) (o : Option (ValueOf place)) → value_in scope place word ≡ o
      → fault_of (then_at scope place places read (value_at (value_in scope place) place (word ∷ words))) ≡ places_fault scope (place ∷ places) after (word ∷ words)
  word_faults word words None is = rw is refl
  word_faults word words (Some value) is = rw is (others value words)

  place_faults : (words : Words) → fault_of (then_at scope place places read (value_at (value_in scope place) place words)) ≡ places_fault scope (place ∷ places) after words
  place_faults [] = refl
  place_faults (word ∷ words) = word_faults word words (value_in scope place word) refl

places_faults : {A : Type 0} (scope : Scope) (after : Words → Option ScriptFault) (places : List Place) (read : Values places → Words → Result A ScriptFault)
    → ((values : Values places) (rest : Words) → fault_of (read values rest) ≡ after rest) → (words : Words) → fault_of (places_at scope places read words) ≡ places_fault scope places after words
places_faults scope after [] read rest words = rest tt words
places_faults scope after (place ∷ places) read rest words =
    ap (λ (m : Result (ValueOf place × Words) ScriptFault). fault_of (then_at scope place places read m)) (read_in scope place words)
    ∙ place_faults scope after place places read (λ value words. places_faults scope after places (λ values rest. read (value, values) rest) (λ values others. rest (value, values) others) words) words

-- ---- after the places

-- what is made of a value has no fault of its own
made : {A B : Type 0} (f : A → B) (read : Result A ScriptFault) → fault_of (read >>= λ x. Ok (f x)) ≡ fault_of read
made f (Ok x) = refl
made f (Err fault) = refl

ends : {A : Type 0} (x : A) (words : Words) → fault_of (end_at words >>= λ ended. Ok x) ≡ options_fault [] words
ends x [] = refl
ends x (word ∷ words) = refl

none_left : (options : List (List ℕ)) → options_fault options [] ≡ None
none_left [] = refl
none_left (option ∷ options) = refl

option_step : (option : List ℕ) (options : List (List ℕ)) (words : Words) → options_fault options (option_at option words).1 ≡ options_fault (option ∷ options) words
option_step option options [] = none_left options
option_step option options (word ∷ words) = by (bytes_eq word option) refl
  where
    by : (b : Bool) → bytes_eq word option ≡ b → options_fault options (option_at option (word ∷ words)).1 ≡ options_fault (option ∷ options) (word ∷ words)
    by true e = rw e refl
    by false e = rw e refl

options_faults : (options : List (List ℕ)) (words : Words) → options_fault [] (options_at options words).1 ≡ options_fault options words
options_faults [] words = refl
options_faults (option ∷ options) words = options_faults options (option_at option words).1 ∙ option_step option options words

each_faults : (scope : Scope) (place : Place) (words : Words) → fault_of (each_at scope place words) ≡ each_fault scope place words
unfolding each_at
each_faults scope place [] = refl
each_faults scope place (word ∷ words) = by (value_in scope place word) refl (each_faults scope place words)
  where
    by : (o : Option (ValueOf place)) → value_in scope place word ≡ o → fault_of (each_at scope place words) ≡ each_fault scope place words → fault_of (each_at scope place (word ∷ words)) ≡ each_fault scope place (word ∷ words)
    by None is rest = rw is refl
    by (Some value) is rest = rw is (made (λ values. value ∷ values) (each_at scope place words) ∙ rest)

both_faults : (scope : Scope) (first second : Place) (words : Words) → fault_of (both_at scope first second words) ≡ both_fault scope first second words
both_faults scope first second [] = refl
both_faults scope first second (word ∷ words) =
    ap fault_of (both_in scope first second word words)
    ∙ places_faults scope (options_fault []) (first ∷ second ∷ []) (λ values rest. end_at rest >>= λ ended. Ok (Some (values.0, values.1.0))) (λ values rest. ends _ rest) (word ∷ words)

after_faults : (scope : Scope) (after : After) (words : Words) → fault_of (after_at scope after words) ≡ after_fault scope after words
after_faults scope (Options options) words = ends _ (options_at options words).1 ∙ options_faults options words
after_faults scope (Each place) words = each_faults scope place words
after_faults scope (Both first second) words = both_faults scope first second words

-- ---- the line of a keyword

call_faults : (scope : Scope) (who : ℕ) (k : Keyword) (words : Words) → fault_of (keyword_line_at scope who k words) ≡ shape_fault scope (row k).shape words
unfolding keyword_line_at
call_faults scope who k words =
    places_faults scope (after_fault scope (after_of k)) (places_of k) (λ values rest. after_at scope (after_of k) rest >>= λ after. Ok (called who k values after))
    (λ values rest. made (λ after. called who k values after) (after_at scope (after_of k) rest) ∙ after_faults scope (after_of k) rest) words

caller_faults : (scope : Scope) (who : ℕ) (words : Words) → fault_of (caller_at scope who words) ≡ caller_fault scope words
unfolding caller_at
caller_faults scope who [] = refl
caller_faults scope who (word ∷ words) = by (keyword_of word) refl
  where
    by : (o : Option Keyword) → keyword_of word ≡ o → fault_of (caller_at scope who (word ∷ words)) ≡ caller_fault scope (word ∷ words)
    by None e = rw e refl
    by (Some keyword) e = rw e (call_faults scope who keyword words)

tick : (scope : Scope) (words : Words) → fault_of (tick_at words) ≡ shape_fault scope (only (MomentPlace ∷ [])) words
unfolding tick_at
tick scope words = places_faults scope (options_fault []) (NumberPlace 0 MAX_MOMENT ∷ []) (λ values rest. end_at rest >>= λ ended. Ok (Tick values.0)) (λ values rest. ends _ rest) words

statement : (scope : Scope) (words : Words) → fault_of (statement_at scope words) ≡ words_fault scope words
unfolding statement_at
statement scope [] = refl
statement scope (first ∷ words) = by (is_word first (other_text TickWord)) (caller_of first) refl refl
  where
    by : (b : Bool) (o : Option ℕ) → is_word first (other_text TickWord) ≡ b → caller_of first ≡ o → fault_of (statement_at scope (first ∷ words)) ≡ words_fault scope (first ∷ words)
    by true o is e = rw is (tick scope words)
    by false None is e = rw is (rw e refl)
    by false (Some who) is e = rw is (rw e (caller_faults scope who words))

opening : (words : Words) → fault_of (opening_at words) ≡ opening_fault words
unfolding opening_at threads_at
opening [] = refl
opening (first ∷ words) = by (is_word first (other_text ThreadsWord)) refl
  where
    by : (b : Bool) → is_word first (other_text ThreadsWord) ≡ b → fault_of (opening_at (first ∷ words)) ≡ opening_fault (first ∷ words)
    by true e = rw e (places_faults (record { threads = 0; names = [] }) (options_fault []) (NumberPlace 1 MAX_THREADS ∷ []) (λ values rest. end_at rest >>= λ ended. Ok (Some values.0)) (λ values rest. ends _ rest) words)
    by false e = rw e refl

-- ---- a whole line

line : {A : Type 0} (parse : Words → Result A ScriptFault) (faults : Words → Option ScriptFault) → ((words : Words) → fault_of (parse words) ≡ faults words)
    → (bytes : List ℕ) → fault_of (short_line bytes >>= λ line. (plain_text line >>= λ text. parse (words_of text))) ≡ line_fault faults bytes
unfolding plain_text
line parse faults same bytes = by (nat_le (length bytes) 4096) (list_all is_plain (text_of bytes)) refl refl
  where
    by : (short plain : Bool) → nat_le (length bytes) 4096 ≡ short → list_all is_plain (text_of bytes) ≡ plain
        → fault_of (short_line bytes >>= λ line. (plain_text line >>= λ text. parse (words_of text))) ≡ line_fault faults bytes
    by false plain e f = rw e refl
    by true false e f = rw e (rw f refl)
    by true true e f = rw e (rw f (same (words_of (text_of bytes))))

pub statement_fault : (scope : Scope) (bytes : List ℕ) (fault : ScriptFault) → statement_of scope bytes ≡ Err fault → line_fault (words_fault scope) bytes ≡ Some fault
statement_fault scope bytes fault e = sym (line (statement_at scope) (words_fault scope) (statement scope) bytes) ∙ ap fault_of e

pub no_fault : (scope : Scope) (bytes : List ℕ) (st : Statement) → statement_of scope bytes ≡ Ok st → line_fault (words_fault scope) bytes ≡ None
no_fault scope bytes st e = sym (line (statement_at scope) (words_fault scope) (statement scope) bytes) ∙ ap fault_of e

pub first_opening_fault : (bytes : List ℕ) (fault : ScriptFault) → opening_of bytes ≡ Err fault → line_fault opening_fault bytes ≡ Some fault
first_opening_fault bytes fault e = sym (line opening_at opening_fault opening bytes) ∙ ap fault_of e
