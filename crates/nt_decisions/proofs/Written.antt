-- What was written is read back.
use Rattle.std.proofs.Common.{◌≡◌, ℕ, ◌≤◌, Bool, true, false, List, [], ◌∷◌, ◌++◌, Option, Some, refl, sym, ap, ◌∙◌, arith, append_assoc, append-nil}
use Rattle.std.specs.List.{All, list_all, slice_split}
use Rattle.std.specs.Fmt.{decimal}
use Rattle.std.proofs.lemmas.Fmt.{length-decimal-le}
use Rattle.std.proofs.lemmas.List.Sums.{AllPass-from_list_all}
use Rattle.std.proofs.lemmas.List.Splits.{slice_split_at}
use Rattle.nt_lines.specs.declared.words.TheConstants.{MAX_CALLER}
use Rattle.nt_lines.specs.Words.{is_plain, is_digit, words_of, digits_number}
use Rattle.nt_grammar.specs.Spelling.{caller_word}
use Rattle.nt_grammar.proofs.Plain.{decimal_digits, caller_of-decimal, number_of-decimal}
use Rattle.nt_grammar.proofs.Joining.{is_body, IsBody, AreBodies, weaker, digit_body, words_of-joined, plain-joined}
use Rattle.nt_decisions.specs.declared.decision.Chosen.{Chosen}
use Rattle.nt_decisions.specs.declared.decision.Decision.{Decision}
use Rattle.nt_decisions.specs.declared.file.Time.{Time}
use Rattle.nt_decisions.specs.Decisions.{chosen_word, decision_words, decision_text, lines_text, first_text, file_text, is_end, thread_in, chosen_in, joined, decision_in, pushed, entry_in, read_on, time_of, time_in, both, file_of, file_in, IsWritable, AreWritable}

-- ---- words

number_body : (n : ℕ) → n ≤ MAX_CALLER → IsBody (decimal n)
number_body n le = let d = decimal_digits n (omega (arith, le)) in record { bytes = weaker is_digit is_body digit_body (decimal n) d.digits; some = d.some }

caller_body : (t : ℕ) → t ≤ MAX_CALLER → IsBody (caller_word t)
caller_body t le = let d = decimal_digits t (omega (arith, le)) in record { bytes = weaker is_digit is_body digit_body (decimal t) d.digits; some = omega arith }

chosen_body : (c : Chosen) → ((t : ℕ) → c ≡ Chosen.Thread t → t ≤ MAX_CALLER) → IsBody (chosen_word c)
chosen_body (Chosen.Thread t) le = caller_body t (le t refl)
chosen_body Chosen.Clock le = record { bytes = refl; some = omega arith }

bodies : (it : Decision) → IsWritable it → AreBodies (decision_words it)
bodies it w = (caller_body it.thread w.thread, (number_body it.ordinal w.ordinal, (chosen_body it.chosen w.chosen, tt)))

number_back : (n : ℕ) → n ≤ MAX_CALLER → digits_number 9 (decimal n) ≡ Some n
number_back n le = number_of-decimal 9 n (omega (arith, le)) (length-decimal-le 9 n (omega arith) (omega (arith, le)) (omega (arith, le)))

chosen_back : (c : Chosen) → ((t : ℕ) → c ≡ Chosen.Thread t → t ≤ MAX_CALLER) → chosen_in (chosen_word c) ≡ Some c
chosen_back (Chosen.Thread t) le = ap thread_in (caller_of-decimal t (le t refl))
chosen_back Chosen.Clock le = refl

-- ---- a line

decision_back : (it : Decision) → IsWritable it → decision_in (words_of (decision_text it)) ≡ Some it
decision_back it w =
    ap decision_in (words_of-joined (decision_words it) (bodies it w))
    ∙ (ap (λ (a : Option ℕ). joined a (digits_number 9 (decimal it.ordinal)) (chosen_in (chosen_word it.chosen))) (caller_of-decimal it.thread w.thread)
    ∙ (ap (λ (b : Option ℕ). joined (Some it.thread) b (chosen_in (chosen_word it.chosen))) (number_back it.ordinal w.ordinal)
    ∙ ap (λ (c : Option Chosen). joined (Some it.thread) (Some it.ordinal) c) (chosen_back it.chosen w.chosen)))

entry_back : (front : List Decision) (it : Decision) → IsWritable it → entry_in front (decision_text it) ≡ Some (front ++ it ∷ [])
entry_back front it w = ap (pushed front) (decision_back it w)

-- ---- lines

plain_no_end : (b : ℕ) → is_plain b ≡ true → is_end b ≡ false
plain_no_end b h = grind arith

no_end : (bs : List ℕ) → list_all is_plain bs ≡ true → All (λ b. is_end b ≡ false) bs
no_end bs h k d lt = plain_no_end _ (AllPass-from_list_all is_plain bs h k d lt)

abbrev lines_of : List Decision → List (List ℕ)
lines_of [] = [] ∷ []
lines_of (it ∷ decisions) = decision_text it ∷ lines_of decisions

lines_split : (decisions : List Decision) → AreWritable decisions → slice_split is_end (lines_text decisions) ≡ lines_of decisions
lines_split [] w = refl
lines_split (it ∷ decisions) w =
    slice_split_at is_end (decision_text it) 10 (lines_text decisions) (no_end (decision_text it) (plain-joined (decision_words it) (bodies it w.0))) refl
    ∙ ap (λ (parts : List (List ℕ)). decision_text it ∷ parts) (lines_split decisions w.1)

read_back : (front decisions : List Decision) → AreWritable decisions → read_on (Some front) (lines_of decisions) ≡ Some (front ++ decisions)
read_back front [] w = ap (λ (x : List Decision). Some x) (sym (append-nil front))
read_back front (it ∷ decisions) w =
    ap (λ (o : Option (List Decision)). read_on o (lines_of decisions)) (entry_back front it w.0)
    ∙ (read_back (front ++ it ∷ []) decisions w.1
    ∙ ap (λ (x : List Decision). Some x) (append_assoc front (it ∷ []) decisions))

-- ---- a file

first_plain : (is_free is_still : Bool) → list_all is_plain (first_text (time_of is_free is_still)) ≡ true
first_plain true true = refl
first_plain true false = refl
first_plain false true = refl
first_plain false false = refl

first_back : (is_free is_still : Bool) → time_in (first_text (time_of is_free is_still)) ≡ Some (time_of is_free is_still)
first_back true true = refl
first_back true false = refl
first_back false true = refl
first_back false false = refl

pub file_back : (time : Time) (decisions : List Decision) → AreWritable decisions → file_in (file_text time decisions) ≡ Some (time, decisions)
file_back time decisions w =
    ap file_of (slice_split_at is_end (first_text time) 10 (lines_text decisions) (no_end (first_text time) (first_plain time.is_free time.is_still)) refl)
    ∙ (ap (λ (lines : List (List ℕ)). both (time_in (first_text time)) (read_on (Some []) lines)) (lines_split decisions w)
    ∙ (ap (λ (o : Option (List Decision)). both (time_in (first_text time)) o) (read_back [] decisions w)
    ∙ ap (λ (o : Option Time). both o (Some decisions)) (first_back time.is_free time.is_still)))
