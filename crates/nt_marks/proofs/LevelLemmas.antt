-- Levels of bits, and the marks that they keep.
use Rattle.std.proofs.Common.{◌≡◌, ◌≢◌, ℕ, zero, suc, ◌+◌, ◌/◌, ◌%◌, ◌<◌, ◌≤◌, Bool, true, false, List, [], ◌∷◌, ◌++◌, length, refl, sym, ap, ◌∙◌, inl, inr, arith, get_or, get_or-set_same, get_or-set_other}
use Rattle.std.specs.Prelude.{slice_index, slice_set, ◌==◌, min}
use Rattle.std.specs.Int.{bit_at}
use Rattle.std.proofs.lemmas.Bool.{cases_eq, cases_lt}
use Rattle.std.proofs.lemmas.Bool.Decides.{nat_tests}
use Rattle.std.proofs.lemmas.Nat.Bits.{bit_at-zero}
use Rattle.std.proofs.lemmas.List.{length-set, length-append, get_or_past, get_or_default, same_lists}
use Rattle.nt_marks.specs.Marks.{is_marked, NoneMarked, IsFirstMarked}
use Rattle.nt_marks.specs.Bits.{bit_of, ChangesBit, IsLowestBit}
use Rattle.nt_marks.specs.Levels.{marks_from, marks_of, Summarizes, Reaches, AreLevels}

-- ---- words that are 0

pub no_bits : (words : List ℕ) (n : ℕ) → slice_index words (n / 64) ≡ 0 → bit_of words n ≡ 0
unfolding bit_of
no_bits words n none = ap (λ (x : ℕ). bit_at x (n % 64)) none ∙ bit_at-zero (n % 64)

-- a word with a bit
word_with : (words : List ℕ) (n : ℕ) → bit_of words n ≡ 1 → slice_index words (n / 64) ≢ 0
word_with words n one none = (let zero_bit = no_bits words n none in omega (arith, one, zero_bit))

-- one word alone, which is 0
pub lone_zero : (words : List ℕ) → length words ≡ 1 → slice_index words 0 ≡ 0 → (w : ℕ) → slice_index words w ≡ 0
lone_zero words one none zero = none
lone_zero words one none (suc w) = get_or_past words (suc w) 0 (omega (arith, one))

-- a word of 0 is added
zero_more : (words : List ℕ) (w : ℕ) → slice_index (words ++ 0 ∷ []) w ≡ slice_index words w
zero_more [] zero = refl
zero_more [] (suc w) = refl
zero_more (x ∷ words) zero = refl
zero_more (x ∷ words) (suc w) = zero_more words w

same_bits : (a b : List ℕ) → ((w : ℕ) → slice_index a w ≡ slice_index b w) → (n : ℕ) → bit_of a n ≡ bit_of b n
unfolding bit_of
same_bits a b same n = ap (λ (x : ℕ). bit_at x (n % 64)) (same (n / 64))

-- ---- what upper bits tell

-- a bit is set in both levels
pub told_set : (upper lower new_upper new_lower : List ℕ) (n : ℕ) → Summarizes upper lower → ChangesBit lower new_lower n 1 → ChangesBit upper new_upper (n / 64) 1 → Summarizes new_upper new_lower
told_set upper lower new_upper new_lower n told low up = record {
  each = λ w. elim (cases_eq w (n / 64)) [
    | inl same ↦
        let one = up.here in
        let there = word_with new_lower n low.here in
        rw same (one ∙ omega (arith, there))
    | inr apart ↦ up.others w apart ∙ told.each w ∙ ap (λ (x : ℕ). min 1 x) (sym (low.words w apart))
  ];
}

-- a bit is cleared, and with it the upper bit, as its word is 0 now
pub told_emptied : (upper lower new_upper new_lower : List ℕ) (n : ℕ) → Summarizes upper lower → ChangesBit lower new_lower n 0 → slice_index new_lower (n / 64) ≡ 0 → ChangesBit upper new_upper (n / 64) 0 → Summarizes new_upper new_lower
told_emptied upper lower new_upper new_lower n told low none up = record {
  each = λ w. elim (cases_eq w (n / 64)) [
    | inl same ↦ rw same (let gone = up.here in omega (arith, gone, none))
    | inr apart ↦ up.others w apart ∙ told.each w ∙ ap (λ (x : ℕ). min 1 x) (sym (low.words w apart))
  ];
}

-- a bit is cleared, and its word is not 0
pub told_left : (upper lower new_lower : List ℕ) (n : ℕ) → Summarizes upper lower → ChangesBit lower new_lower n 0 → slice_index new_lower (n / 64) ≢ 0 → (slice_index lower (n / 64) ≡ 0 → slice_index new_lower (n / 64) ≡ 0) → Summarizes upper new_lower
told_left upper lower new_lower n told low left still = record {
  each = λ w. elim (cases_eq w (n / 64)) [
    | inl same ↦
        let was : slice_index lower (n / 64) ≢ 0 = λ none. left (still none) in
        rw same (let before = told.each (n / 64) in omega (arith, before, was, left))
    | inr apart ↦ told.each w ∙ ap (λ (x : ℕ). min 1 x) (sym (low.words w apart))
  ];
}

-- the words are the same, but for some that are 0
pub told_same : (upper lower new_upper new_lower : List ℕ) → Summarizes upper lower → ((w : ℕ) → slice_index new_upper w ≡ slice_index upper w) → ((w : ℕ) → slice_index new_lower w ≡ slice_index lower w) → Summarizes new_upper new_lower
told_same upper lower new_upper new_lower told up low = record { each = λ w. same_bits new_upper upper up w ∙ told.each w ∙ ap (λ (x : ℕ). min 1 x) (sym (low w)) }

-- the lowest upper bit is that of the first word that is not 0
pub word_first : (upper lower : List ℕ) (w : ℕ) → Summarizes upper lower → IsLowestBit upper w → slice_index lower w ≢ 0
word_first upper lower w told lowest none = (let here = lowest.here in let each = told.each w in omega (arith, here, each, none))

pub words_before : (upper lower : List ℕ) (w : ℕ) → Summarizes upper lower → IsLowestBit upper w → (v : ℕ) → v < w → slice_index lower v ≡ 0
words_before upper lower w told lowest v below = (let none = lowest.none_below v below in let each = told.each v in omega (arith, none, each))

pub told_none : (upper lower : List ℕ) → Summarizes upper lower → ((w : ℕ) → slice_index upper w ≡ 0) → (w : ℕ) → slice_index lower w ≡ 0
told_none upper lower told none w = (let bit = no_bits upper w (none (w / 64)) in let each = told.each w in omega (arith, bit, each))

-- ---- the marks

pub length-marks : (words : List ℕ) (k n : ℕ) → length (marks_from words k n) ≡ n
unfolding marks_from
length-marks words k zero = refl
length-marks words k (suc n) = ap suc (length-marks words (k + 1) n)

marks_at : (words : List ℕ) (k n i : ℕ) → i < n → is_marked (marks_from words k n) i ≡ (bit_of words (k + i) == 1)
unfolding marks_from
marks_at words k zero i below = absurd (omega (arith, below))
marks_at words k (suc n) zero below = (let e : k ≡ k + 0 = omega arith in ap (λ (x : ℕ). bit_of words x == 1) e)
marks_at words k (suc n) (suc i) below = (let e : k + 1 + i ≡ k + suc i = omega arith in marks_at words (k + 1) n i (omega (arith, below)) ∙ ap (λ (x : ℕ). bit_of words x == 1) e)

pub mark_at : (words : List ℕ) (n i : ℕ) → i < n → is_marked (marks_of words n) i ≡ (bit_of words i == 1)
mark_at words n i below = (let e : 0 + i ≡ i = omega arith in marks_at words 0 n i below ∙ ap (λ (x : ℕ). bit_of words x == 1) e)

-- a place that is marked has its bit
pub marked_bit : (words : List ℕ) (n i : ℕ) → is_marked (marks_of words n) i ≡ true → (i < n) × (bit_of words i ≡ 1)
marked_bit words n i marked = elim (cases_lt i n) [
  | inl below ↦ (below, (let is : (bit_of words i == 1) ≡ true = sym (mark_at words n i below) ∙ marked in grind (arith, nat_tests, is)))
  | inr past ↦ (let none = get_or_past (marks_of words n) i false (let count = length-marks words 0 n in omega (arith, count, past)) in absurd (cc (none, marked)))
]

-- one mark is set or cleared
pub marks_changed : (old new : List ℕ) (bit value n : ℕ) → bit < n → ChangesBit old new bit value → marks_of new n ≡ slice_set (marks_of old n) bit (value == 1)
marks_changed old new bit value n below change = same_lists (marks_of new n) (slice_set (marks_of old n) bit (value == 1))
    (length-marks new 0 n ∙ sym (length-marks old 0 n) ∙ sym (length-set (marks_of old n) bit (value == 1)))
    (λ i d inside. each i d (let count = length-marks new 0 n in omega (arith, count, inside)) inside)
  where
    there : bit < length (marks_of old n)
    there = (let count = length-marks old 0 n in omega (arith, count, below))

    at : (i : ℕ) → i < n → is_marked (marks_of new n) i ≡ is_marked (slice_set (marks_of old n) bit (value == 1)) i
    at i within = elim (cases_eq i bit) [
      | inl same ↦
          mark_at new n i within ∙ ap (λ (x : ℕ). bit_of new x == 1) same ∙ ap (λ (x : ℕ). x == 1) change.here
          ∙ sym (ap (λ (x : ℕ). is_marked (slice_set (marks_of old n) bit (value == 1)) x) same ∙ get_or-set_same (marks_of old n) bit (value == 1) false there)
      | inr apart ↦
          mark_at new n i within ∙ ap (λ (x : ℕ). x == 1) (change.others i apart)
          ∙ sym (get_or-set_other (marks_of old n) bit i (value == 1) false apart ∙ mark_at old n i within)
    ]

    each : (i : ℕ) (d : Bool) → i < n → i < length (marks_of new n) → get_or (marks_of new n) i d ≡ get_or (slice_set (marks_of old n) bit (value == 1)) i d
    each i d within inside =
        get_or_default (marks_of new n) i d false inside ∙ at i within
        ∙ get_or_default (slice_set (marks_of old n) bit (value == 1)) i false d
        (let a = length-set (marks_of old n) bit (value == 1) in let b = length-marks old 0 n in omega (arith, a, b, within))

-- the bits of the places are the same
same_marks : (a b : List ℕ) (k n : ℕ) → ((i : ℕ) → bit_of a i ≡ bit_of b i) → marks_from a k n ≡ marks_from b k n
unfolding marks_from
same_marks a b k zero same = refl
same_marks a b k (suc n) same = λ i. (same k i == 1) ∷ same_marks a b (k + 1) n same i

marks_more : (words : List ℕ) (k n : ℕ) → marks_from words k (n + 1) ≡ marks_from words k n ++ (bit_of words (k + n) == 1) ∷ []
unfolding marks_from
marks_more words k zero = (let e : k ≡ k + 0 = omega arith in ap (λ (x : ℕ). (bit_of words x == 1) ∷ []) e)
marks_more words k (suc n) =
    let one_up : suc n + 1 ≡ suc (n + 1) = omega arith in
    let e : k + 1 + n ≡ k + suc n = omega arith in
    ap (marks_from words k) one_up ∙ ap (λ xs. (bit_of words k == 1) ∷ xs) (marks_more words (k + 1) n ∙ ap (λ (x : ℕ). marks_from words (k + 1) n ++ (bit_of words x == 1) ∷ []) e)

-- one place more, whose bit is not set
pub marks_added : (words new : List ℕ) (n : ℕ) → ((w : ℕ) → slice_index new w ≡ slice_index words w) → bit_of words n ≡ 0 → marks_of new (n + 1) ≡ marks_of words n ++ false ∷ []
marks_added words new n same none =
    let e : 0 + n ≡ n = omega arith in
    same_marks new words 0 (n + 1) (same_bits new words same)
    ∙ (marks_more words 0 n ∙ ap (λ (x : ℕ). marks_of words n ++ (bit_of words x == 1) ∷ []) e ∙ ap (λ (x : ℕ). marks_of words n ++ (x == 1) ∷ []) none)

-- a place that is marked is there
pub marked_known : (marks : List Bool) (place : ℕ) → is_marked marks place ≡ true → place < length marks
marked_known marks place marked = elim (cases_lt place (length marks)) [ inl below ↦ below | inr past ↦ (let none = get_or_past marks place false past in absurd (cc (none, marked))) ]

-- ---- all levels

pub levels_empty : AreLevels [] [] (0 ∷ []) 0
levels_empty = record {
  few = omega arith;
  one_top = refl;
  enough_words = omega arith;
  enough_groups = omega arith;
  none_past = λ n past. no_bits [] n refl;
  words_told = record { each = λ w. no_bits [] w refl };
  groups_told = record { each = λ w. no_bits (0 ∷ []) w (lone_zero (0 ∷ []) refl refl (w / 64)) };
}

-- a word is added, or was there
pub reached_more : (words : List ℕ) (word : ℕ) → word ≤ length words → Reaches words (words ++ 0 ∷ []) word
reached_more words word next = record {
  reached = (let count = length-append words (0 ∷ []) in omega (arith, count, next));
  kept = (let count = length-append words (0 ∷ []) in omega (arith, count));
  same = zero_more words;
}

pub reached_already : (words : List ℕ) (word : ℕ) → word < length words → Reaches words words word
reached_already words word there = record { reached = there; kept = omega arith; same = λ w. refl }

-- a place is added
pub levels_added : (words groups top words' groups' : List ℕ) (n : ℕ) → AreLevels words groups top n → n < 262144 →
    Reaches words words' (n / 64) → Reaches groups groups' (n / 4096) → AreLevels words' groups' top (n + 1)
levels_added words groups top words' groups' n levels few low mid = record {
  few = omega (arith, few);
  one_top = levels.one_top;
  enough_words = (let enough = low.reached in omega (arith, enough));
  enough_groups = (let enough = mid.reached in omega (arith, enough));
  none_past = λ i past. same_bits words' words low.same i ∙ levels.none_past i (omega (arith, past));
  words_told = told_same groups words groups' words' levels.words_told mid.same low.same;
  groups_told = told_same top groups top groups' levels.groups_told (λ w. refl) mid.same;
}

-- a place is marked
pub levels_set : (words groups top words' groups' top' : List ℕ) (n place : ℕ) → AreLevels words groups top n → place < n →
    ChangesBit words words' place 1 → ChangesBit groups groups' (place / 64) 1 → ChangesBit top top' (place / 64 / 64) 1 →
    length words' ≡ length words → length groups' ≡ length groups → length top' ≡ length top → AreLevels words' groups' top' n
levels_set words groups top words' groups' top' n place levels below low mid up same_words same_groups same_top = record {
  few = levels.few;
  one_top = same_top ∙ levels.one_top;
  enough_words = (let enough = levels.enough_words in omega (arith, enough, same_words));
  enough_groups = (let enough = levels.enough_groups in omega (arith, enough, same_groups));
  none_past = λ i past. low.others i (λ same. absurd (omega (arith, same, past, below))) ∙ levels.none_past i past;
  words_told = told_set groups words groups' words' place levels.words_told low mid;
  groups_told = told_set top groups top' groups' (place / 64) levels.groups_told mid up;
}

-- a place is not marked any more; what the upper levels tell was seen to
pub levels_cleared : (words groups top words' groups' top' : List ℕ) (n place : ℕ) → AreLevels words groups top n → place < n →
    ChangesBit words words' place 0 → Summarizes groups' words' → Summarizes top' groups' →
    length words' ≡ length words → length groups' ≡ length groups → length top' ≡ length top → AreLevels words' groups' top' n
levels_cleared words groups top words' groups' top' n place levels below low words_told groups_told same_words same_groups same_top = record {
  few = levels.few;
  one_top = same_top ∙ levels.one_top;
  enough_words = (let enough = levels.enough_words in omega (arith, enough, same_words));
  enough_groups = (let enough = levels.enough_groups in omega (arith, enough, same_groups));
  none_past = λ i past. low.others i (λ same. absurd (omega (arith, same, past, below))) ∙ levels.none_past i past;
  words_told = words_told;
  groups_told = groups_told;
}

-- nothing is marked if the top is 0
pub none_at_top : (words groups top : List ℕ) (n : ℕ) → AreLevels words groups top n → slice_index top 0 ≡ 0 → NoneMarked (marks_of words n)
none_at_top words groups top n levels none place marked =
    let groups_none = told_none top groups levels.groups_told (lone_zero top levels.one_top none) in
    let words_none = told_none groups words levels.words_told groups_none in
    let bit = no_bits words place (words_none (place / 64)) in
    let one = (marked_bit words n place marked).1 in
    omega (arith, bit, one)

-- the lowest bit is that of the first place that is marked
pub first_marked : (words groups top : List ℕ) (n place : ℕ) → AreLevels words groups top n → IsLowestBit words place → IsFirstMarked (marks_of words n) place
first_marked words groups top n place levels lowest = record {
  here = mark_at words n place below ∙ ap (λ (x : ℕ). x == 1) lowest.here;
  none_below = λ lower less marked. (let one = (marked_bit words n lower marked).1 in let none = lowest.none_below lower less in omega (arith, one, none));
}
  where
    below : place < n
    below = elim (cases_lt place n) [ inl less ↦ less | inr past ↦ (let one = lowest.here in let none = levels.none_past place past in absurd (omega (arith, one, none))) ]

-- a place that there is, by the marks as they are seen
pub place_below : (words : List ℕ) (n place : ℕ) (marks : List Bool) → marks_of words n ≡ marks → place < length marks → place < n
place_below words n place marks view known = (let count = length-marks words 0 n in let same : length (marks_of words n) ≡ length marks = ap length view in omega (arith, count, same, known))

-- the words of the levels that have a place's bits
pub in_levels : (words groups top : List ℕ) (n place : ℕ) → AreLevels words groups top n → place < n → (place / 64 < length words) × (place / 64 / 64 < length groups) × (place / 64 / 64 / 64 < length top)
in_levels words groups top n place levels below =
    let few = levels.few in
    let enough_words = levels.enough_words in
    let enough_groups = levels.enough_groups in
    let one = levels.one_top in
    (omega (arith, below, enough_words), omega (arith, below, enough_groups), omega (arith, below, few, one))

-- what the test of a word tells
pub word_left : (word : ℕ) (empty : Bool) → empty ≡ (word == 0) → empty ≡ false → word ≢ 0
word_left word empty test is none = (let tested : (word == 0) ≡ false = sym test ∙ is in grind (arith, nat_tests, tested, none))

pub word_emptied : (word : ℕ) (empty : Bool) → empty ≡ (word == 0) → empty ≡ true → word ≡ 0
word_emptied word empty test is = (let tested : (word == 0) ≡ true = sym test ∙ is in grind (arith, nat_tests, tested))
