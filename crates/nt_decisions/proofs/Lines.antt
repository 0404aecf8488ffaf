-- The first line of a text, and what comes after it.
use Rattle.std.proofs.Common.{◌≡◌, ℕ, suc, ◌+◌, ◌-◌, ◌<◌, ◌≤◌, Bool, true, false, not, cond, List, [], ◌∷◌, ◌++◌, length, take, drop, get_or, append_assoc, position, unwrap_or, nat_lt, Option, Some, None, Result, Ok, Err, OnOk, refl, sym, ap, ◌∙◌, arith}
use Rattle.std.specs.Bool.{if◌then◌else◌}
use Rattle.std.specs.Result.{is_ok}
use Rattle.std.specs.List.{slice_split, onto_first, position_or_len, after_first}
use Rattle.std.proofs.lemmas.List.Splits.{slice_split-cons_no, slice_split_first}
use Rattle.std.proofs.lemmas.List.{take_rest, take_more, drop_all}
use Rattle.std.proofs.lemmas.List.Sums.{prefix_len-le-length}
use Rattle.std.proofs.lemmas.Bool.{ltb-false}
use Rattle.nt_decisions.specs.declared.decision.Decision.{Decision}
use Rattle.nt_decisions.specs.declared.file.Time.{Time}
use Rattle.nt_decisions.specs.declared.file.FileFault.{FileFault}
use Rattle.nt_decisions.specs.Decisions.{decision_text, lines_text, IsFault, IsLineFault, is_end, lines_in, entry_in, read_on, time_in, first_in, both, file_of, EndsLine}

-- a text that ends without a line feed is read as with one
end_same : (read : Option (List Decision)) (line : List ℕ) → read_on read (line ∷ []) ≡ read_on read (line ∷ [] ∷ [])
end_same None line = refl
end_same (Some decisions) line = go (entry_in decisions line)
  where
    go : (o : Option (List Decision)) → read_on o [] ≡ read_on o ([] ∷ [])
    go None = refl
    go (Some more) = refl

-- where no line ends, the text is the one line
one_line : (text : List ℕ) → position_or_len is_end text ≡ length text → slice_split is_end text ≡ text ∷ []
one_line [] none = refl
one_line (b ∷ bs) none = go (one_line bs) (is_end b) refl none
  where
    go : (position_or_len is_end bs ≡ length bs → slice_split is_end bs ≡ bs ∷ []) → (e : Bool) → is_end b ≡ e → cond (not e) (1 + position_or_len is_end bs) 0 ≡ suc (length bs) → slice_split is_end (b ∷ bs) ≡ (b ∷ bs) ∷ []
    go rest true is n = absurd (omega (arith, n))
    go rest false is n = slice_split-cons_no is_end b bs is ∙ ap (onto_first b) (rest (omega (arith, n)))

pub ends_text : (text left : List ℕ) → position_or_len is_end text ≡ length text → left ≡ [] → EndsLine text text left
ends_text text left none empty = record {
  first = ap first_in (one_line text none);
  lines = λ read. ap (read_on read) (one_line text none) ∙ (end_same read text ∙ ap (λ (x : List ℕ). read_on read (text ∷ slice_split is_end x)) (sym empty));
  file = ap file_of (one_line text none) ∙ ap (λ (x : List ℕ). file_of (text ∷ slice_split is_end x)) (sym empty);
}

pub ends_line : (text line left : List ℕ) → position_or_len is_end text < length text → line ≡ take (position_or_len is_end text) text → left ≡ drop (position_or_len is_end text + 1) text → EndsLine text line left
ends_line text line left within first rest =
    let split = slice_split_first is_end text 0 within in
    let same : slice_split is_end text ≡ line ∷ slice_split is_end left = split ∙ (ap (λ (x : List ℕ). x ∷ slice_split is_end (after_first is_end text)) (sym first) ∙ ap (λ (x : List ℕ). line ∷ slice_split is_end x) (sym rest)) in
    record { first = ap first_in same; lines = λ read. ap (read_on read) same; file = ap file_of same }

pub place_or_len : (text : List ℕ) → unwrap_or (position is_end text) (length text) ≡ position_or_len is_end text
place_or_len text = go (nat_lt (position_or_len is_end text) (length text)) refl
  where
    go : (b : Bool) → nat_lt (position_or_len is_end text) (length text) ≡ b → unwrap_or (position is_end text) (length text) ≡ position_or_len is_end text
    go true is = ap (λ (b : Bool). unwrap_or (cond b (Some (position_or_len is_end text)) None) (length text)) is
    go false is =
        let far = ltb-false _ _ is in
        let most = prefix_len-le-length (λ (b : ℕ). not (is_end b)) text in
        let all : length text ≡ position_or_len is_end text = omega (arith, far, most) in
        ap (λ (b : Bool). unwrap_or (cond b (Some (position_or_len is_end text)) None) (length text)) is ∙ all

-- the slices that stand for the first line and for what comes after it
pub taken_line : (text : List ℕ) (end : ℕ) → end ≡ position_or_len is_end text → end < length text → EndsLine text (take end text) (take (length text - (end + 1)) (drop (end + 1) text))
taken_line text end place within =
    ends_line text (take end text) (take (length text - (end + 1)) (drop (end + 1) text)) (omega (arith, place, within))
    (ap (λ (n : ℕ). take n text) place)
    (take_rest text (end + 1) ∙ ap (λ (n : ℕ). drop (n + 1) text) place)

pub taken_text : (text : List ℕ) (end : ℕ) → end ≡ position_or_len is_end text → length text ≤ end → end ≤ length text → EndsLine text text (take (length text - end) (drop end text))
taken_text text end place far most =
    ends_text text (take (length text - end) (drop end text)) (omega (arith, place, far, most)) (take_rest text end ∙ drop_all end text far)

-- ---- lines that are no decisions

pub fault_on : (fault : FileFault) (read : Option (List Decision)) (lines : List (List ℕ)) → IsLineFault fault read → IsLineFault fault (read_on read lines)
fault_on FileFault.FirstLine read lines none = none
fault_on FileFault.Line read lines none = ap (λ (x : Option (List Decision)). read_on x lines) none
fault_on FileFault.Memory read lines none = tt

-- why the lines behind the first are no decisions is why the text is no file
pub fault_in : (fault : FileFault) (text line left : List ℕ) (time : Time) → EndsLine text line left → time_in line ≡ Some time → IsLineFault fault (read_on (Some []) (lines_in left)) → IsFault fault text
fault_in FileFault.FirstLine text line left time ends first none = absurd none
fault_in FileFault.Line text line left time ends first none =
    (time, ends.first ∙ first, ends.file ∙ (ap (λ (x : Option Time). both x (read_on (Some []) (lines_in left))) first ∙ ap (both (Some time)) none))
fault_in FileFault.Memory text line left time ends first none = tt

-- ---- lines that are written

lines_push : (decisions : List Decision) (it : Decision) → lines_text (decisions ++ it ∷ []) ≡ lines_text decisions ++ (decision_text it ++ 10 ∷ [])
lines_push [] it = refl
lines_push (first ∷ decisions) it =
    ap (λ (rest : List ℕ). decision_text first ++ 10 ∷ rest) (lines_push decisions it)
    ∙ sym (append_assoc (decision_text first) (10 ∷ lines_text decisions) (decision_text it ++ 10 ∷ []))

-- one line more was put
pub put_more : (start out new : List ℕ) (decisions : List Decision) (i : ℕ) (d : Decision) → i < length decisions → new ≡ out ++ (decision_text (get_or decisions i d) ++ 10 ∷ []) → out ≡ start ++ lines_text (take i decisions) → new ≡ start ++ lines_text (take (i + 1) decisions)
put_more start out new decisions i d lt puts before =
    puts
    ∙ (ap (λ (x : List ℕ). x ++ (decision_text (get_or decisions i d) ++ 10 ∷ [])) before
    ∙ (append_assoc start (lines_text (take i decisions)) (decision_text (get_or decisions i d) ++ 10 ∷ [])
    ∙ ap (λ (x : List ℕ). start ++ x) (sym (lines_push (take i decisions) (get_or decisions i d)) ∙ ap lines_text (sym (take_more decisions i d lt)))))

-- a line of three parts was put
pub put_line : {X E : Type 0} (result : Result X E) (old one two three new first second third : List ℕ) → one ≡ old ++ first → two ≡ one ++ second → three ≡ two ++ third
    → new ≡ (if is_ok result then three ++ 10 ∷ [] else three) → OnOk result (new ≡ old ++ ((first ++ (second ++ third)) ++ 10 ∷ []))
put_line (Ok x) old one two three new first second third a b c q =
    q
    ∙ (ap (λ (l : List ℕ). l ++ 10 ∷ []) (c
    ∙ (ap (λ (l : List ℕ). l ++ third) (b ∙ ap (λ (l : List ℕ). l ++ second) a)
    ∙ (append_assoc (old ++ first) second third ∙ append_assoc old first (second ++ third))))
    ∙ append_assoc old (first ++ (second ++ third)) (10 ∷ []))
put_line (Err e) old one two three new first second third a b c q = tt
