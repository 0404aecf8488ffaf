-- Words, one after another.
use Rattle.std.proofs.Common.{◌≡◌, ℕ, suc, ◌+◌, ◌<◌, Bool, true, false, not, cond, List, [], ◌∷◌, length, filter, take, drop, get_or, Some, None, ◌-◌, position, unwrap_or, nat_lt, ◌==◌, refl, sym, ap, ◌∙◌, arith, drop-cons}
use Rattle.std.specs.List.{slice_split, onto_first, position_or_len}
use Rattle.std.proofs.lemmas.List.Splits.{slice_split-cons_yes, slice_split-cons_no}
use Rattle.std.proofs.lemmas.List.{drop_all, take_rest}
use Rattle.std.proofs.lemmas.List.Quantifiers.{position-Some}
use Rattle.std.proofs.Math.Dec.{eqb-suc-zero}
use Rattle.std.proofs.lemmas.List.Sums.{prefix_len-le-length}
use Rattle.std.proofs.lemmas.Bool.{ltb-true, ltb-false}
use Rattle.nt_lines.specs.Words.{is_gap, is_no_gap, words_of}

abbrev is_word : List ℕ → Bool
is_word word = not (length word == 0)

one_more : (n : ℕ) → 1 + n ≡ suc n
one_more n = omega arith

gap_yes : (b : ℕ) (bs : List ℕ) → is_gap b ≡ true → words_of (b ∷ bs) ≡ words_of bs
gap_yes b bs e = ap (filter is_word) (slice_split-cons_yes is_gap b bs e)

-- gaps in front make no word
skip_gaps : (text : List ℕ) → words_of (drop (position_or_len is_no_gap text) text) ≡ words_of text
skip_gaps [] = refl
skip_gaps (b ∷ bs) = by (skip_gaps bs) (is_gap b) refl
  where
    by : words_of (drop (position_or_len is_no_gap bs) bs) ≡ words_of bs → (g : Bool) → is_gap b ≡ g → words_of (drop (position_or_len is_no_gap (b ∷ bs)) (b ∷ bs)) ≡ words_of (b ∷ bs)
    by rest true e =
        let place : position_or_len is_no_gap (b ∷ bs) ≡ suc (position_or_len is_no_gap bs) = rw e (one_more (position_or_len is_no_gap bs)) in
        ap (λ (n : ℕ). words_of (drop n (b ∷ bs))) place ∙ rest ∙ sym (gap_yes b bs e)
    by rest false e =
        let place : position_or_len is_no_gap (b ∷ bs) ≡ 0 = rw e refl in
        ap (λ (n : ℕ). words_of (drop n (b ∷ bs))) place

-- what stands before the first gap, and the parts after it
record Parted (text : List ℕ) : Type 0 where
  parts : List (List ℕ)
  first : slice_split is_gap text ≡ take (position_or_len is_gap text) text ∷ parts
  others : filter is_word parts ≡ words_of (drop (position_or_len is_gap text) text)

parted : (text : List ℕ) → Parted text
parted [] = record { parts = []; first = refl; others = refl }
parted (b ∷ bs) = by (parted bs) (is_gap b) refl
  where
    by : Parted bs → (g : Bool) → is_gap b ≡ g → Parted (b ∷ bs)
    by p true e =
        let place : position_or_len is_gap (b ∷ bs) ≡ 0 = rw e refl in
        record {
          parts = slice_split is_gap bs;
          first = slice_split-cons_yes is_gap b bs e ∙ ap (λ (n : ℕ). take n (b ∷ bs) ∷ slice_split is_gap bs) (sym place);
          others = sym (gap_yes b bs e) ∙ ap (λ (n : ℕ). words_of (drop n (b ∷ bs))) (sym place);
        }
    by p false e =
        let place : position_or_len is_gap (b ∷ bs) ≡ suc (position_or_len is_gap bs) = rw e (one_more (position_or_len is_gap bs)) in
        record {
          parts = p.parts;
          first = slice_split-cons_no is_gap b bs e ∙ ap (onto_first b) p.first ∙ ap (λ (n : ℕ). take n (b ∷ bs) ∷ p.parts) (sym place);
          others = p.others ∙ ap (λ (n : ℕ). words_of (drop n (b ∷ bs))) (sym place);
        }

first_word : (b : ℕ) (bs : List ℕ) → is_gap b ≡ false → words_of (b ∷ bs) ≡ take (position_or_len is_gap (b ∷ bs)) (b ∷ bs) ∷ words_of (drop (position_or_len is_gap (b ∷ bs)) (b ∷ bs))
first_word b bs e =
    let p = parted (b ∷ bs) in
    let place : position_or_len is_gap (b ∷ bs) ≡ suc (position_or_len is_gap bs) = rw e (one_more (position_or_len is_gap bs)) in
    let some : is_word (take (position_or_len is_gap (b ∷ bs)) (b ∷ bs)) ≡ true = ap (λ (n : ℕ). is_word (take n (b ∷ bs))) place ∙ ap not (eqb-suc-zero (length (take (position_or_len is_gap bs) bs))) in
    ap (filter is_word) p.first ∙ ap (λ (g : Bool). cond g (take (position_or_len is_gap (b ∷ bs)) (b ∷ bs) ∷ filter is_word p.parts) (filter is_word p.parts)) some
    ∙ ap (λ (others : List (List ℕ)). take (position_or_len is_gap (b ∷ bs)) (b ∷ bs) ∷ others) p.others

-- ---- the place of the first word

record Starts (text : List ℕ) (start : ℕ) : Type 0 where
  place : position_or_len is_no_gap text ≡ start
  within : start < length text

starts : (text : List ℕ) (start : ℕ) → position is_no_gap text ≡ Some start → Starts text start
starts text start e = by (nat_lt (position_or_len is_no_gap text) (length text)) refl
  where
    by : (b : Bool) → nat_lt (position_or_len is_no_gap text) (length text) ≡ b → Starts text start
    by true is =
        let same : Some (position_or_len is_no_gap text) ≡ Some start = sym (ap (λ (b : Bool). cond b (Some (position_or_len is_no_gap text)) None) is) ∙ e in
        let place : position_or_len is_no_gap text ≡ start = (cc) in
        let lt = ltb-true _ _ is in
        record { place = place; within = omega (arith, lt, place) }
    by false is =
        let none : None ≡ Some start = sym (ap (λ (b : Bool). cond b (Some (position_or_len is_no_gap text)) None) is) ∙ e in
        absurd (cc)

no_gap : (b : ℕ) → is_no_gap b ≡ true → is_gap b ≡ false
no_gap b e = by (is_gap b) refl
  where
    by : (g : Bool) → is_gap b ≡ g → is_gap b ≡ false
    by true is = let h : false ≡ true = sym (ap not is) ∙ e in absurd (cc)
    by false is = is

pub next_word : (text : List ℕ) (start : ℕ) → position is_no_gap text ≡ Some start
    → words_of text ≡ take (position_or_len is_gap (drop start text)) (drop start text) ∷ words_of (drop (position_or_len is_gap (drop start text)) (drop start text))
next_word text start e =
    let s = starts text start e in
    let first : drop start text ≡ get_or text start 0 ∷ drop (suc start) text = drop-cons text start 0 s.within in
    let passes = (position-Some is_no_gap text start 0 e).1 in
    let word = first_word (get_or text start 0) (drop (suc start) text) (no_gap (get_or text start 0) passes) in
    sym (skip_gaps text) ∙ ap (λ (n : ℕ). words_of (drop n text)) s.place
    ∙ (rw first word)

pub no_word : (text : List ℕ) → position is_no_gap text ≡ None → words_of text ≡ []
no_word text e = by (nat_lt (position_or_len is_no_gap text) (length text)) refl
  where
    by : (b : Bool) → nat_lt (position_or_len is_no_gap text) (length text) ≡ b → words_of text ≡ []
    by true is =
        let some : Some (position_or_len is_no_gap text) ≡ None = sym (ap (λ (b : Bool). cond b (Some (position_or_len is_no_gap text)) None) is) ∙ e in
        absurd (cc)
    by false is =
        let far = ltb-false _ _ is in
        let all : drop (position_or_len is_no_gap text) text ≡ [] = drop_all _ text far in
        sym (skip_gaps text) ∙ ap words_of all

pub place_or_len : (text : List ℕ) → unwrap_or (position is_gap text) (length text) ≡ position_or_len is_gap text
place_or_len text = by (nat_lt (position_or_len is_gap text) (length text)) refl
  where
    by : (b : Bool) → nat_lt (position_or_len is_gap text) (length text) ≡ b → unwrap_or (position is_gap text) (length text) ≡ position_or_len is_gap text
    by true is = ap (λ (b : Bool). unwrap_or (cond b (Some (position_or_len is_gap text)) None) (length text)) is
    by false is =
        let far = ltb-false _ _ is in
        let most = prefix_len-le-length (λ (b : ℕ). not (is_gap b)) text in
        let all : length text ≡ position_or_len is_gap text = omega (arith, far, most) in
        ap (λ (b : Bool). unwrap_or (cond b (Some (position_or_len is_gap text)) None) (length text)) is ∙ all

-- the slices that stand for the next word and for what comes after it
pub taken_word : (text : List ℕ) (start end : ℕ) → position is_no_gap text ≡ Some start → end ≡ position_or_len is_gap (take (length text - start) (drop start text))
    → words_of text ≡ take end (take (length text - start) (drop start text)) ∷ words_of (take (length (take (length text - start) (drop start text)) - end) (drop end (take (length text - start) (drop start text))))
taken_word text start end e place =
    let rest = take_rest text start in
    let others = take_rest (drop start text) end in
    let here : end ≡ position_or_len is_gap (drop start text) = place ∙ ap (position_or_len is_gap) rest in
    let word : words_of text ≡ take end (drop start text) ∷ words_of (drop end (drop start text)) = rw here (next_word text start e) in
    rw rest (rw others word)
