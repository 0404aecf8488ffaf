-- The laws of a statement's own text.
use Rattle.std.proofs.Common.{◌≡◌, ℕ, ◌≤◌, true, false, List, length, map, Some, refl, sym, ap, subst, ◌∙◌}
use Rattle.std.specs.List.{list_all}
use Rattle.std.proofs.lemmas.Bool.{le-leb}
use Rattle.nt_lines.specs.Words.{words_of, text_of, is_plain}
use Rattle.nt_grammar.specs.Scope.{Scope}
use Rattle.nt_grammar.specs.Grammar.{Line, Nothing, Moment, Called, said_by, places_of, after_of, line_parts, Spells, IsStatement}
use Rattle.nt_grammar.specs.Spelling.{plain, line_of, line_words, spelling, statement_text, CanBeSaid}
use Rattle.nt_grammar.specs.Laws.{StatementsReadBack, LinesSpellStatements, StandFor}
use Rattle.nt_grammar.specs.Lines.{IsLine}
use Rattle.nt_grammar.specs.declared.keyword.Keyword.{Keyword}
use Rattle.nt_grammar.specs.declared.parser.Statement.{Statement}
use Rattle.nt_grammar.proofs.Joining.{AreBodies, words_of-joined, text_of-joined, plain-joined}
use Rattle.nt_grammar.proofs.Spelling.{is_sound, are_sound, is_sound_after, sound_line, sound_word, all_said, all_stand, all_bodies}
use Rattle.nt_grammar.proofs.Recognizing.{one_statement}

abbrev Words : Type 0
Words = List (List ℕ)

-- ---- each keyword's line

sound_keyword : (k : Keyword) → sound_word k ≡ true
sound_keyword Keyword.Event = refl
sound_keyword Keyword.Semaphore = refl
sound_keyword Keyword.Mutex = refl
sound_keyword Keyword.Timer = refl
sound_keyword Keyword.Duplicate = refl
sound_keyword Keyword.Set = refl
sound_keyword Keyword.Reset = refl
sound_keyword Keyword.Pulse = refl
sound_keyword Keyword.Release = refl
sound_keyword Keyword.Unlock = refl
sound_keyword Keyword.Arm = refl
sound_keyword Keyword.Cancel = refl
sound_keyword Keyword.Apc = refl
sound_keyword Keyword.Close = refl
sound_keyword Keyword.Any = refl
sound_keyword Keyword.All = refl
sound_keyword Keyword.Sleep = refl
sound_keyword Keyword.Swap = refl
sound_keyword Keyword.Next = refl
sound_keyword Keyword.Exit = refl

sound_places : (k : Keyword) → are_sound (places_of k) ≡ true
sound_places Keyword.Event = refl
sound_places Keyword.Semaphore = refl
sound_places Keyword.Mutex = refl
sound_places Keyword.Timer = refl
sound_places Keyword.Duplicate = refl
sound_places Keyword.Set = refl
sound_places Keyword.Reset = refl
sound_places Keyword.Pulse = refl
sound_places Keyword.Release = refl
sound_places Keyword.Unlock = refl
sound_places Keyword.Arm = refl
sound_places Keyword.Cancel = refl
sound_places Keyword.Apc = refl
sound_places Keyword.Close = refl
sound_places Keyword.Any = refl
sound_places Keyword.All = refl
sound_places Keyword.Sleep = refl
sound_places Keyword.Swap = refl
sound_places Keyword.Next = refl
sound_places Keyword.Exit = refl

sound_after : (k : Keyword) → is_sound_after (after_of k) ≡ true
sound_after Keyword.Event = refl
sound_after Keyword.Semaphore = refl
sound_after Keyword.Mutex = refl
sound_after Keyword.Timer = refl
sound_after Keyword.Duplicate = refl
sound_after Keyword.Set = refl
sound_after Keyword.Reset = refl
sound_after Keyword.Pulse = refl
sound_after Keyword.Release = refl
sound_after Keyword.Unlock = refl
sound_after Keyword.Arm = refl
sound_after Keyword.Cancel = refl
sound_after Keyword.Apc = refl
sound_after Keyword.Close = refl
sound_after Keyword.Any = refl
sound_after Keyword.All = refl
sound_after Keyword.Sleep = refl
sound_after Keyword.Swap = refl
sound_after Keyword.Next = refl
sound_after Keyword.Exit = refl

sound : (line : Line) → list_all is_sound (line_parts line) ≡ true
sound Nothing = refl
sound (Moment moment) = refl
sound (Called who k values after) = sound_line who k values after (sound_keyword k) (sound_places k) (sound_after k)

-- a statement has one line
line_of-said : (line : Line) → line_of (said_by line) ≡ Some line
line_of-said Nothing = refl
line_of-said (Moment moment) = refl
line_of-said (Called who Keyword.Event values (true, (true, given))) = refl
line_of-said (Called who Keyword.Event values (true, (false, given))) = refl
line_of-said (Called who Keyword.Event values (false, (true, given))) = refl
line_of-said (Called who Keyword.Event values (false, (false, given))) = refl
line_of-said (Called who Keyword.Mutex values (true, given)) = refl
line_of-said (Called who Keyword.Mutex values (false, given)) = refl
line_of-said (Called who Keyword.Timer values (true, given)) = refl
line_of-said (Called who Keyword.Timer values (false, given)) = refl
line_of-said (Called who Keyword.Semaphore values after) = refl
line_of-said (Called who Keyword.Duplicate values after) = refl
line_of-said (Called who Keyword.Set values after) = refl
line_of-said (Called who Keyword.Reset values after) = refl
line_of-said (Called who Keyword.Pulse values after) = refl
line_of-said (Called who Keyword.Release values after) = refl
line_of-said (Called who Keyword.Unlock values after) = refl
line_of-said (Called who Keyword.Arm values after) = refl
line_of-said (Called who Keyword.Cancel values after) = refl
line_of-said (Called who Keyword.Apc values after) = refl
line_of-said (Called who Keyword.Close values after) = refl
line_of-said (Called who Keyword.Any values after) = refl
line_of-said (Called who Keyword.All values after) = refl
line_of-said (Called who Keyword.Sleep values after) = refl
line_of-said (Called who Keyword.Swap values after) = refl
line_of-said (Called who Keyword.Next values after) = refl
line_of-said (Called who Keyword.Exit values after) = refl

-- ---- the laws

spelled : (line : Line) (st : Statement) → said_by line ≡ st → map plain (line_parts line) ≡ spelling st
spelled line st e = subst (λ (st : Statement). map plain (line_parts line) ≡ spelling st) e (sym (ap line_words (line_of-said line)))

pub own_text_is_line : (scope : Scope) (st : Statement) → CanBeSaid scope st → length (statement_text st) ≤ 4096 → IsLine scope st (statement_text st)
own_text_is_line scope st said short =
    let line = said.0 in
    let parts = line_parts line in
    let texts = spelled line st said.1 in
    let bodies : AreBodies (spelling st) = subst AreBodies texts (all_bodies scope parts (sound line) said.2) in
    let text = text_of-joined (spelling st) bodies in
    let words : words_of (text_of (statement_text st)) ≡ spelling st = ap words_of text ∙ words_of-joined (spelling st) bodies in
    let own : Spells scope parts (spelling st) = subst (λ (words : Words). Spells scope parts words) texts (all_said scope parts (sound line) said.2) in (
      record { short = le-leb _ _ short; plain = ap (list_all is_plain) text ∙ plain-joined (spelling st) bodies },
      subst (λ (words : Words). IsStatement scope st words) (sym words) (line, said.1, own),
    )

pub statements_read_back : StatementsReadBack
statements_read_back scope st said short =
    let line = own_text_is_line scope st said short in
    (line, λ other is. one_statement scope (statement_text st) other st is line)

pub lines_spell_statements : LinesSpellStatements
lines_spell_statements scope st bytes is =
    let line = is.1.0 in
    subst (λ (texts : Words). StandFor scope (words_of (text_of bytes)) texts) (spelled line st is.1.1)
    (all_stand scope (line_parts line) (words_of (text_of bytes)) (sound line) is.1.2)
