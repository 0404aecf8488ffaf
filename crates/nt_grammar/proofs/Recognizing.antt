-- Words that are a statement are read as it, and as no other.
use Rattle.std.proofs.Common.{◌≡◌, ℕ, Bool, true, false, List, [], ◌∷◌, ◌++◌, Some, None, Ok, refl, sym, ap, subst, ◌∙◌}
use Rattle.std.proofs.lemmas.Slice.Eq.{bytes_eq-Decides}
use Rattle.nt_lines.specs.Words.{text_of, words_of, caller_of, digits_number}
use Rattle.nt_grammar.specs.Scope.{Scope}
use Rattle.nt_grammar.specs.Keywords.{TickWord, keyword_of, keyword_text, other_text}
use Rattle.nt_grammar.specs.Places.{is_word}
use Rattle.nt_grammar.specs.Grammar.{Values, ValuesAfter, places_of, after_of, Line, Nothing, Moment, Called, called, said_by, Spells, value_parts, after_parts, line_parts, IsStatement, IsOpening}
use Rattle.nt_grammar.specs.Reading.{◌>>=◌, number_at, tick_at, after_at, keyword_line_at, caller_at, statement_at, plain_text, statement_of}
use Rattle.nt_grammar.specs.Lines.{IsLine, IsOpeningLine, IsBlankLine}
use Rattle.nt_grammar.specs.declared.keyword.Keyword.{Keyword}
use Rattle.nt_grammar.specs.declared.parser.Statement.{Statement}
use Rattle.nt_grammar.proofs.Values.{is_apart, places_read, after_read}

abbrev Words : Type 0
Words = List (List ℕ)

-- ---- the line of a keyword

keyword_of-text : (k : Keyword) → keyword_of (keyword_text k) ≡ Some k
keyword_of-text Keyword.Event = refl
keyword_of-text Keyword.Semaphore = refl
keyword_of-text Keyword.Mutex = refl
keyword_of-text Keyword.Timer = refl
keyword_of-text Keyword.Duplicate = refl
keyword_of-text Keyword.Set = refl
keyword_of-text Keyword.Reset = refl
keyword_of-text Keyword.Pulse = refl
keyword_of-text Keyword.Release = refl
keyword_of-text Keyword.Unlock = refl
keyword_of-text Keyword.Arm = refl
keyword_of-text Keyword.Cancel = refl
keyword_of-text Keyword.Apc = refl
keyword_of-text Keyword.Close = refl
keyword_of-text Keyword.Any = refl
keyword_of-text Keyword.All = refl
keyword_of-text Keyword.Sleep = refl
keyword_of-text Keyword.Swap = refl
keyword_of-text Keyword.Next = refl
keyword_of-text Keyword.Exit = refl

-- no option of a keyword's line stands twice
apart : (k : Keyword) → is_apart (after_of k) ≡ true
apart Keyword.Event = refl
apart Keyword.Semaphore = refl
apart Keyword.Mutex = refl
apart Keyword.Timer = refl
apart Keyword.Duplicate = refl
apart Keyword.Set = refl
apart Keyword.Reset = refl
apart Keyword.Pulse = refl
apart Keyword.Release = refl
apart Keyword.Unlock = refl
apart Keyword.Arm = refl
apart Keyword.Cancel = refl
apart Keyword.Apc = refl
apart Keyword.Close = refl
apart Keyword.Any = refl
apart Keyword.All = refl
apart Keyword.Sleep = refl
apart Keyword.Swap = refl
apart Keyword.Next = refl
apart Keyword.Exit = refl

tick_calls_nobody : (who : ℕ) → caller_of (other_text TickWord) ≡ Some who → ⊥
unfolding caller_of digits_number
tick_calls_nobody who e = let none : None ≡ Some who = e in absurd (cc)

caller_no_tick : (first : List ℕ) (who : ℕ) → caller_of first ≡ Some who → is_word first (other_text TickWord) ≡ false
caller_no_tick first who e = by (is_word first (other_text TickWord)) refl
  where
    by : (b : Bool) → is_word first (other_text TickWord) ≡ b → is_word first (other_text TickWord) ≡ false
    by true is = absurd (tick_calls_nobody who (subst (λ (word : List ℕ). caller_of word ≡ Some who) ((bytes_eq-Decides first (other_text TickWord)).0 is) e))
    by false is = is

call_reads : (scope : Scope) (who : ℕ) (k : Keyword) (values : Values (places_of k)) (after : ValuesAfter (after_of k)) (words : Words)
    → Spells scope (value_parts (places_of k) values ++ after_parts (after_of k) after) words → keyword_line_at scope who k words ≡ Ok (called who k values after)
unfolding keyword_line_at
call_reads scope who k values after words s =
    places_read scope (after_parts (after_of k) after) (called who k values after) (places_of k) values (λ values rest. after_at scope (after_of k) rest >>= λ after. Ok (called who k values after))
    (λ rest s. rw (after_read scope (after_of k) after (apart k) rest s) refl) words s

-- ---- statements

said_reads : (scope : Scope) (line : Line) (words : Words) → Spells scope (line_parts line) words → statement_at scope words ≡ Ok (said_by line)
unfolding statement_at caller_at tick_at number_at
said_reads scope Nothing [] s = refl
said_reads scope Nothing (word ∷ words) s = absurd s
said_reads scope (Moment moment) [] s = absurd s
said_reads scope (Moment moment) (first ∷ []) s = absurd s.1
said_reads scope (Moment moment) (first ∷ second ∷ []) s = rw s.0 (rw s.1.0 refl)
said_reads scope (Moment moment) (first ∷ second ∷ third ∷ words) s = absurd s.1.1
said_reads scope (Called who k values after) [] s = absurd s
said_reads scope (Called who k values after) (first ∷ []) s = absurd s.1
said_reads scope (Called who k values after) (first ∷ word ∷ rest) s =
    rw (caller_no_tick first who s.0) (rw s.0 (rw s.1.0 (rw (keyword_of-text k) (call_reads scope who k values after rest s.1.1))))

pub reads : (scope : Scope) (st : Statement) (words : Words) → IsStatement scope st words → statement_at scope words ≡ Ok st
reads scope st words is = said_reads scope is.0 words is.2 ∙ ap (λ (st : Statement). Ok st) is.1

-- ---- a whole line

pub line_reads : (scope : Scope) (st : Statement) (bytes : List ℕ) → IsLine scope st bytes → statement_of scope bytes ≡ Ok st
unfolding plain_text
line_reads scope st bytes is = rw is.0.short (rw is.0.plain (reads scope st (words_of (text_of bytes)) is.1))

pub one_statement : (scope : Scope) (bytes : List ℕ) (a b : Statement) → IsLine scope a bytes → IsLine scope b bytes → a ≡ b
one_statement scope bytes a b x y = let same : Ok a ≡ Ok b = sym (line_reads scope a bytes x) ∙ line_reads scope b bytes y in cc

opening_same : (words : Words) (a b : ℕ) → IsOpening a words → IsOpening b words → a ≡ b
opening_same [] a b x y = absurd x
opening_same (first ∷ []) a b x y = absurd x.1
opening_same (first ∷ count ∷ []) a b x y = let same : Some a ≡ Some b = sym x.1.0 ∙ y.1.0 in cc
opening_same (first ∷ count ∷ third ∷ words) a b x y = absurd x.1.1

pub one_opening : (bytes : List ℕ) (a b : ℕ) → IsOpeningLine a bytes → IsOpeningLine b bytes → a ≡ b
one_opening bytes a b x y = opening_same (words_of (text_of bytes)) a b x.1 y.1

pub blank_opens_none : (bytes : List ℕ) (n : ℕ) → IsBlankLine bytes → IsOpeningLine n bytes → ⊥
blank_opens_none bytes n blank opens = let bad : IsOpening n [] = subst (λ (words : Words). IsOpening n words) blank.1 opens.1 in bad
