-- Words joined by spaces, and parted again.
use Rattle.std.proofs.Common.{◌≡◌, ℕ, ◌-◌, ◌<◌, Bool, true, false, not, nat_le, nat_lt, ◌&&◌, ◌==◌, List, [], ◌∷◌, ◌++◌, length, filter, unwrap_or, take, cond, Some, None, refl, ap, ◌∙◌, arith, slice_index}
use Rattle.std.specs.List.{All, list_all, slice_split, join_with_byte, position_or_len}
use Rattle.std.specs.Str.Lines.{strip_carriage_return}
use Rattle.std.proofs.lemmas.List.{take_all}
use Rattle.std.proofs.lemmas.List.Sums.{AllPass-from_list_all}
use Rattle.std.proofs.lemmas.List.Splits.{slice_split_at, slice_split_none}
use Rattle.std.proofs.Math.Dec.{eqb-suc-zero}
use Rattle.nt_lines.specs.Words.{text_of, is_semicolon, comment_start, before_comment, is_plain, is_gap, words_of, is_digit, is_name_byte}
use Rattle.nt_grammar.proofs.Plain.{and_true}

-- a visible byte that begins no comment
abbrev pub is_body : ℕ → Bool
is_body byte = nat_le 33 byte && nat_le byte 126 && not (byte == 59)

abbrev is_kept : ℕ → Bool
is_kept byte = nat_le 32 byte && nat_le byte 126 && not (byte == 59)

pub record IsBody (word : List ℕ) : Type 0 where
  pub bytes : list_all is_body word ≡ true
  pub some : 0 < length word

abbrev pub AreBodies : List (List ℕ) → Type 0
AreBodies [] = Unit {0}
AreBodies (word ∷ words) = IsBody word × AreBodies words

-- ---- bytes

pub weaker : (p q : ℕ → Bool) → ((b : ℕ) → p b ≡ true → q b ≡ true) → (bs : List ℕ) → list_all p bs ≡ true → list_all q bs ≡ true
weaker p q f [] h = refl
weaker p q f (b ∷ bs) h = let both = and_true {a = p b} h in rw (f b both.0, weaker p q f bs both.1) refl

all_false : (p q : ℕ → Bool) → ((b : ℕ) → p b ≡ true → q b ≡ false) → (bs : List ℕ) → list_all p bs ≡ true → All (λ b. q b ≡ false) bs
all_false p q f bs h k d lt = f _ (AllPass-from_list_all p bs h k d lt)

pub digit_body : (b : ℕ) → is_digit b ≡ true → is_body b ≡ true
digit_body b h = grind arith

pub name_body : (b : ℕ) → is_name_byte b ≡ true → is_body b ≡ true
name_body b h = grind arith

body_kept : (b : ℕ) → is_body b ≡ true → is_kept b ≡ true
body_kept b h = grind arith

body_no_gap : (b : ℕ) → is_body b ≡ true → is_gap b ≡ false
body_no_gap b h = grind arith

kept_plain : (b : ℕ) → is_kept b ≡ true → is_plain b ≡ true
kept_plain b h = grind arith

kept_no_comment : (b : ℕ) → is_kept b ≡ true → is_semicolon b ≡ false
kept_no_comment b h = grind arith

kept_no_return : (b : ℕ) → is_kept b ≡ true → (b == 13) ≡ false
kept_no_return b h = grind arith

-- ---- parted again

split_joined : (word : List ℕ) (words : List (List ℕ)) → AreBodies (word ∷ words) → slice_split is_gap (join_with_byte 32 (word ∷ words)) ≡ word ∷ words
split_joined word [] h = slice_split_none is_gap word (all_false is_body is_gap body_no_gap word h.0.bytes)
split_joined word (next ∷ words) h =
    slice_split_at is_gap word 32 (join_with_byte 32 (next ∷ words)) (all_false is_body is_gap body_no_gap word h.0.bytes) refl
    ∙ ap (λ (parts : List (List ℕ)). word ∷ parts) (split_joined next words h.1)

none_empty : (words : List (List ℕ)) → AreBodies words → filter (λ word. not (length word == 0)) words ≡ words
none_empty [] h = refl
none_empty ([] ∷ words) h = let some = h.0.some in absurd (omega arith)
none_empty ((byte ∷ bytes) ∷ words) h =
    let some : not (length (byte ∷ bytes) == 0) ≡ true = ap not (eqb-suc-zero (length bytes)) in
    let others = filter (λ word. not (length word == 0)) words in
    ap (λ (b : Bool). cond b ((byte ∷ bytes) ∷ others) others) some ∙ ap (λ (others : List (List ℕ)). (byte ∷ bytes) ∷ others) (none_empty words h.1)

pub words_of-joined : (words : List (List ℕ)) → AreBodies words → words_of (join_with_byte 32 words) ≡ words
words_of-joined [] h = refl
words_of-joined (word ∷ words) h = ap (filter (λ word. not (length word == 0))) (split_joined word words h) ∙ none_empty (word ∷ words) h

-- ---- no comment, and no return

all_append : (p : ℕ → Bool) (xs ys : List ℕ) → list_all p xs ≡ true → list_all p ys ≡ true → list_all p (xs ++ ys) ≡ true
all_append p [] ys h k = k
all_append p (x ∷ xs) ys h k = let both = and_true {a = p x} h in rw (both.0, all_append p xs ys both.1 k) refl

joined_kept : (words : List (List ℕ)) → AreBodies words → list_all is_kept (join_with_byte 32 words) ≡ true
joined_kept [] h = refl
joined_kept (word ∷ []) h = weaker is_body is_kept body_kept word h.0.bytes
joined_kept (word ∷ next ∷ words) h =
    all_append is_kept word (32 ∷ join_with_byte 32 (next ∷ words)) (weaker is_body is_kept body_kept word h.0.bytes) (joined_kept (next ∷ words) h.1)

no_return : (bs : List ℕ) → list_all is_kept bs ≡ true → strip_carriage_return bs ≡ bs
no_return [] h = refl
no_return (b ∷ bs) h =
    let last : (slice_index (b ∷ bs) (length (b ∷ bs) - 1) == 13) ≡ false = kept_no_return _ (AllPass-from_list_all is_kept (b ∷ bs) h (length (b ∷ bs) - 1) 0 (omega arith)) in
    ap (λ (at : Bool). cond at (take (length (b ∷ bs) - 1) (b ∷ bs)) (b ∷ bs)) last

no_comment : (bs : List ℕ) → list_all is_kept bs ≡ true → position_or_len is_semicolon bs ≡ length bs
no_comment [] h = refl
no_comment (b ∷ bs) h =
    let both = and_true {a = is_kept b} h in
    rw (kept_no_comment b both.0) (omega (arith, no_comment bs both.1))

start_is : (bs : List ℕ) → position_or_len is_semicolon bs ≡ length bs → comment_start bs ≡ length bs
start_is bs e = by (nat_lt (position_or_len is_semicolon bs) (length bs)) refl
  where
    by : (b : Bool) → nat_lt (position_or_len is_semicolon bs) (length bs) ≡ b → comment_start bs ≡ length bs
    by true is = ap (λ (b : Bool). unwrap_or (cond b (Some (position_or_len is_semicolon bs)) None) (length bs)) is ∙ e
    by false is = ap (λ (b : Bool). unwrap_or (cond b (Some (position_or_len is_semicolon bs)) None) (length bs)) is

pub text_of-joined : (words : List (List ℕ)) → AreBodies words → text_of (join_with_byte 32 words) ≡ join_with_byte 32 words
text_of-joined words h =
    let line = join_with_byte 32 words in
    let kept = joined_kept words h in
    ap before_comment (no_return line kept) ∙ ap (λ (n : ℕ). take n line) (start_is line (no_comment line kept)) ∙ take_all (length line) line (omega arith)

pub plain-joined : (words : List (List ℕ)) → AreBodies words → list_all is_plain (join_with_byte 32 words) ≡ true
plain-joined words h = weaker is_kept is_plain kept_plain (join_with_byte 32 words) (joined_kept words h)
