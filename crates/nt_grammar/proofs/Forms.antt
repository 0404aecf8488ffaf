-- The parser reads a statement only where the words are that statement.
use Rattle.std.proofs.Common.{◌≡◌, ℕ, Bool, true, false, List, [], ◌∷◌, ◌++◌, length, nat_le, Option, Some, None, Result, Ok, Err, refl, ap, subst, ◌∙◌}
use Rattle.std.specs.List.{list_all}
use Rattle.std.specs.Str.{bytes_eq}
use Rattle.std.proofs.lemmas.Slice.Eq.{bytes_eq-Decides}
use Rattle.nt_status.specs.declared.limits.TheConstants.{MAX_MOMENT, MAX_THREADS}
use Rattle.nt_lines.specs.Words.{text_of, words_of, is_plain, caller_of}
use Rattle.nt_grammar.specs.Scope.{Scope}
use Rattle.nt_grammar.specs.Keywords.{ThreadsWord, TickWord, keyword_among, keyword_of, keyword_text, keywords, other_text}
use Rattle.nt_grammar.specs.Places.{NumberPlace, is_word}
use Rattle.nt_grammar.specs.Grammar.{Values, ValuesAfter, places_of, after_of, Nothing, Moment, Called, called, Spells, value_parts, after_parts, Part, Value, IsStatement, IsOpening, IsPlainLine}
use Rattle.nt_grammar.specs.Reading.{◌>>=◌, end_at, number_at, after_at, tick_at, keyword_line_at, caller_at, statement_at, threads_at, opening_at, plain_text, short_line, opening_of, statement_of}
use Rattle.nt_grammar.specs.Lines.{IsLine, IsOpeningLine, IsBlankLine}
use Rattle.nt_grammar.specs.declared.fault.ScriptFault.{ScriptFault}
use Rattle.nt_grammar.specs.declared.fault.ScriptFault.TheVariants.{ThreadsExpected}
use Rattle.nt_grammar.specs.declared.keyword.Keyword.{Keyword}
use Rattle.nt_grammar.specs.declared.parser.Statement.{Statement}
use Rattle.nt_grammar.specs.declared.parser.Statement.TheVariants.{Blank, Tick}
use Rattle.nt_grammar.proofs.Values.{ok_is, err_is, places_said, after_said}

abbrev Words : Type 0
Words = List (List ℕ)

-- ---- the line of a keyword

-- these values were said, and the statement is made of them
record SaidCall (scope : Scope) (who : ℕ) (k : Keyword) (words : Words) (st : Statement) : Type 0 where
  values : Values (places_of k)
  after : ValuesAfter (after_of k)
  made : called who k values after ≡ st
  spells : Spells scope (value_parts (places_of k) values ++ after_parts (after_of k) after) words

call_said : (scope : Scope) (who : ℕ) (k : Keyword) (words : Words) (st : Statement) → keyword_line_at scope who k words ≡ Ok st → SaidCall scope who k words st
unfolding keyword_line_at
call_said scope who k words st e =
    let read = places_said scope (places_of k) (λ values rest. after_at scope (after_of k) rest >>= λ after. Ok (called who k values after)) words st e in
    by read.values read.rest read.spells (after_at scope (after_of k) read.rest) refl read.after
  where
    by : (values : Values (places_of k)) (rest : Words) → ((parts : List Part) → Spells scope parts rest → Spells scope (value_parts (places_of k) values ++ parts) words)
        → (m : Result (ValuesAfter (after_of k)) ScriptFault) → after_at scope (after_of k) rest ≡ m → (m >>= λ after. Ok (called who k values after)) ≡ Ok st → SaidCall scope who k words st
    by values rest spells (Err fault) is e = absurd (err_is st fault e)
    by values rest spells (Ok after) is e =
        record { values = values; after = after; made = ok_is (called who k values after) st e; spells = spells (after_parts (after_of k) after) (after_said scope (after_of k) rest after is) }

-- ---- a keyword is its text

bytes_eq-true : (xs ys : List ℕ) → bytes_eq xs ys ≡ true → xs ≡ ys
bytes_eq-true xs ys = (bytes_eq-Decides xs ys).0

among_said : (ks : List Keyword) (word : List ℕ) (k : Keyword) → keyword_among ks word ≡ Some k → word ≡ keyword_text k
among_said [] word k e = let bad : None ≡ Some k = e in absurd (cc)
among_said (one ∷ others) word k e = by (among_said others word k) (bytes_eq word (keyword_text one)) refl
  where
    by : (keyword_among others word ≡ Some k → word ≡ keyword_text k) → (b : Bool) → bytes_eq word (keyword_text one) ≡ b → word ≡ keyword_text k
    by more true is =
        let same : Some one ≡ Some k = rw is at e in
        let one_is : one ≡ k = (cc) in
        bytes_eq-true word (keyword_text one) is ∙ ap keyword_text one_is
    by more false is = more (rw is at e)

keyword_said : (word : List ℕ) (k : Keyword) → keyword_of word ≡ Some k → word ≡ keyword_text k
keyword_said word k e = among_said keywords word k e

-- ---- statements

caller_said : (scope : Scope) (who : ℕ) (first : List ℕ) (words : Words) (st : Statement) → caller_of first ≡ Some who → caller_at scope who words ≡ Ok st → IsStatement scope st (first ∷ words)
unfolding caller_at
caller_said scope who first [] st caller e = absurd (err_is st _ e)
caller_said scope who first (word ∷ words) st caller e = by (keyword_of word) refl
  where
    by : (o : Option Keyword) → keyword_of word ≡ o → IsStatement scope st (first ∷ word ∷ words)
    by None is = absurd (err_is st _ (rw is at e))
    by (Some k) is =
        let said = call_said scope who k words st (rw is at e) in
        (Called who k said.values said.after, said.made, (caller, (keyword_said word k is, said.spells)))

-- a number, and no word after it
record SaidNumber (A : Type 0) (least most : ℕ) (f : ℕ → A) (words : Words) (x : A) : Type 0 where
  number : ℕ
  made : f number ≡ x
  spells : (scope : Scope) → Spells scope (Value (NumberPlace least most) number ∷ []) words

number_said : {A : Type 0} (least most : ℕ) (f : ℕ → A) (words : Words) (x : A) → (number_at least most words >>= λ n. (end_at n.1 >>= λ ended. Ok (f n.0))) ≡ Ok x → SaidNumber A least most f words x
number_said least most f words x e =
    let nowhere : Scope = record { threads = 0; names = [] } in
    let read = places_said nowhere (NumberPlace least most ∷ []) (λ values rest. end_at rest >>= λ ended. Ok (f values.0)) words x e in
    by read.values.0 read.rest read.after read.spells
  where
    by : (n : ℕ) (rest : Words) → (end_at rest >>= λ ended. Ok (f n)) ≡ Ok x → ((parts : List Part) → Spells (record { threads = 0; names = [] }) parts rest → Spells (record { threads = 0; names = [] }) (Value (NumberPlace least most) n ∷ parts) words)
        → SaidNumber _ least most f words x
    by n [] e spells = record { number = n; made = ok_is (f n) x e; spells = λ scope. anywhere scope n words (spells [] tt) }
      where
        anywhere : (scope : Scope) (n : ℕ) (words : Words) → Spells (record { threads = 0; names = [] }) (Value (NumberPlace least most) n ∷ []) words → Spells scope (Value (NumberPlace least most) n ∷ []) words
        anywhere scope n [] s = absurd s
        anywhere scope n (word ∷ []) s = s
        anywhere scope n (word ∷ next ∷ words) s = absurd s.1
    by n (word ∷ rest) e spells = absurd (err_is x _ e)

statement_said : (scope : Scope) (words : Words) (st : Statement) → statement_at scope words ≡ Ok st → IsStatement scope st words
unfolding statement_at tick_at
statement_said scope [] st e = (Nothing, ok_is Blank st e, tt)
statement_said scope (first ∷ words) st e = by (is_word first (other_text TickWord)) (caller_of first) refl refl
  where
    by : (b : Bool) (o : Option ℕ) → is_word first (other_text TickWord) ≡ b → caller_of first ≡ o → IsStatement scope st (first ∷ words)
    by true o is caller =
        let said = number_said 0 MAX_MOMENT (λ moment. Tick moment) words st (rw is at e) in
        (Moment said.number, said.made, (bytes_eq-true _ _ is, said.spells scope))
    by false None is caller = absurd (err_is st _ (rw caller at (rw is at e)))
    by false (Some who) is caller = caller_said scope who first words st caller (rw caller at (rw is at e))

-- ---- before `threads`

opened_by : (words : Words) (found : Option ℕ) → threads_at words ≡ Ok found → SaidNumber (Option ℕ) 1 MAX_THREADS (λ n. Some n) words found
unfolding threads_at
opened_by words found e = number_said 1 MAX_THREADS (λ n. Some n) words found e

opening_said : (words : Words) (threads : ℕ) → opening_at words ≡ Ok (Some threads) → IsOpening threads words
unfolding opening_at
opening_said [] threads e = let bad : None ≡ Some threads = ok_is None (Some threads) e in absurd (cc)
opening_said (first ∷ words) threads e = by (is_word first (other_text ThreadsWord)) refl
  where
    by : (b : Bool) → is_word first (other_text ThreadsWord) ≡ b → IsOpening threads (first ∷ words)
    by true is =
        let opened = opened_by words (Some threads) (rw is at e) in
        let same : opened.number ≡ threads = let h : Some opened.number ≡ Some threads = opened.made in (cc) in
        (bytes_eq-true _ _ is, subst (λ (n : ℕ). Spells (record { threads = 0; names = [] }) (Value (NumberPlace 1 MAX_THREADS) n ∷ []) words) same (opened.spells (record { threads = 0; names = [] })))
    by false is = absurd (err_is (Some threads) ThreadsExpected (rw is at e))

blank_said : (words : Words) → opening_at words ≡ Ok None → words ≡ []
unfolding opening_at
blank_said [] e = refl
blank_said (first ∷ words) e = by (is_word first (other_text ThreadsWord)) refl
  where
    by : (b : Bool) → is_word first (other_text ThreadsWord) ≡ b → first ∷ words ≡ []
    by true is =
        let opened = opened_by words None (rw is at e) in
        let bad : Some opened.number ≡ None = opened.made in
        absurd (cc)
    by false is = absurd (err_is {A = Option ℕ} None ThreadsExpected (rw is at e))

-- ---- a whole line

record Read (A : Type 0) (parse : Words → Result A ScriptFault) (bytes : List ℕ) (x : A) : Type 0 where
  plain : IsPlainLine bytes
  reads : parse (words_of (text_of bytes)) ≡ Ok x

line : {A : Type 0} (parse : Words → Result A ScriptFault) (bytes : List ℕ) (x : A) → (short_line bytes >>= λ line. (plain_text line >>= λ text. parse (words_of text))) ≡ Ok x → Read A parse bytes x
unfolding plain_text
line parse bytes x e = by (nat_le (length bytes) 4096) (list_all is_plain (text_of bytes)) refl refl e
  where
    by : (short plain : Bool) → nat_le (length bytes) 4096 ≡ short → list_all is_plain (text_of bytes) ≡ plain
        → (short_line bytes >>= λ line. (plain_text line >>= λ text. parse (words_of text))) ≡ Ok x → Read _ parse bytes x
    by false plain f g h = absurd (err_is x _ (rw f at h))
    by true false f g h = absurd (err_is x _ (rw g at (rw f at h)))
    by true true f g h = record { plain = record { short = f; plain = g }; reads = rw g at (rw f at h) }

pub is_line : (scope : Scope) (bytes : List ℕ) (st : Statement) → statement_of scope bytes ≡ Ok st → IsLine scope st bytes
is_line scope bytes st e =
    let read = line (statement_at scope) bytes st e in
    (read.plain, statement_said scope _ st read.reads)

pub is_opening_line : (bytes : List ℕ) (threads : ℕ) → opening_of bytes ≡ Ok (Some threads) → IsOpeningLine threads bytes
is_opening_line bytes threads e =
    let read = line opening_at bytes (Some threads) e in
    (read.plain, opening_said _ threads read.reads)

pub is_blank_line : (bytes : List ℕ) → opening_of bytes ≡ Ok None → IsBlankLine bytes
is_blank_line bytes e =
    let read = line opening_at bytes None e in
    (read.plain, blank_said _ read.reads)
