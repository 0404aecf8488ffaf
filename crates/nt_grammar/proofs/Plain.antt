-- Numbers as decimal text, and back.
use Rattle.std.proofs.Common.{◌≡◌, ℕ, pos, neg_ℤ, zero, suc, ◌+◌, ◌-◌, ◌*◌, ◌/◌, ◌%◌, ◌^◌, ◌<◌, ◌≤◌, Bool, true, false, not, nat_le, nat_lt, ◌&&◌, ◌==◌, List, [], ◌∷◌, ◌++◌, length, Option, Some, None, refl, sym, ap, subst, ◌∙◌, append_assoc, append-nil, codes, arith, length-append}
use Rattle.std.specs.List.{list_all}
use Rattle.std.specs.Str.{bytes_eq}
use Rattle.std.specs.Fmt.{decimal, signed_decimal}
use Rattle.std.proofs.lemmas.Fmt.{decimal_by_steps, decimal_step, decimal_digit, length-decimal-le, decimal_injective}
use Rattle.std.proofs.lemmas.Slice.Eq.{bytes_eq-Decides}
use Rattle.std.proofs.lemmas.Bool.{lt-ltb, le-leb, ltb-true, leb-true}
use Rattle.std.proofs.Math.Dec.{eqb-suc-zero}
use Rattle.nt_lines.specs.Words.{is_digit, are_digits, value_after, fitting, digits_number, up_to, caller_of, is_name, is_identifier, is_name_byte}
use Rattle.nt_grammar.specs.Plain.{without_zeros, negative_word, plain_word}

pub and_true : {a b : Bool} → (a && b) ≡ true → (a ≡ true) × (b ≡ true)
and_true {a = true} {b} h = (refl, h)
and_true {a = false} {b} h = absurd cc

-- ---- digits

-- more digits make no smaller number
value_after-le : (n : ℕ) (digits : List ℕ) → n ≤ value_after n digits
value_after-le n [] = omega arith
value_after-le n (digit ∷ digits) = omega (arith, value_after-le (n * 10 + (digit - 48)) digits)

fitted : (n : ℕ) → n < 2 ^ 64 → fitting n ≡ Some n
fitted n lt = rw (lt-ltb _ _ lt) refl

digit_yes : (n : ℕ) → n < 10 → is_digit (48 + n) ≡ true
digit_yes n lt = let low : nat_le 48 (48 + n) ≡ true = le-leb _ _ (omega arith) in let high : nat_le (48 + n) 57 ≡ true = le-leb _ _ (omega arith) in rw (low, high) refl

record Digit (d : ℕ) : Type 0 where
  least : 48 ≤ d
  most : d ≤ 57

digit_is : (d : ℕ) → is_digit d ≡ true → Digit d
digit_is d h = let both = and_true {a = nat_le 48 d} h in record { least = leb-true _ _ both.0; most = leb-true _ _ both.1 }

digits_push : (ds : List ℕ) (d : ℕ) → are_digits ds ≡ true → is_digit d ≡ true → are_digits (ds ++ d ∷ []) ≡ true
digits_push [] d h e = rw e refl
digits_push (x ∷ xs) d h e = let both = and_true {a = is_digit x} h in rw (both.0, digits_push xs d both.1 e) refl

value_after-push : (n : ℕ) (ds : List ℕ) (d : ℕ) → value_after n (ds ++ d ∷ []) ≡ value_after n ds * 10 + (d - 48)
value_after-push n [] d = refl
value_after-push n (x ∷ xs) d = value_after-push (n * 10 + (x - 48)) xs d

-- the digits of a number
pub record Digits (n : ℕ) (ds : List ℕ) : Type 0 where
  pub digits : are_digits ds ≡ true
  pub value : value_after 0 ds ≡ n
  pub some : 0 < length ds

pub decimal_digits : (n : ℕ) → n < 2 ^ 64 → Digits n (decimal n)
decimal_digits = decimal_by_steps Digits
    (λ n lt. record { digits = rw (digit_yes n lt) refl; value = omega arith; some = omega arith })
    (λ n ds ge h. record {
      digits = digits_push ds (48 + n % 10) h.digits (digit_yes (n % 10) (omega arith));
      value = value_after-push 0 ds (48 + n % 10) ∙ omega (arith, h.value);
      some = omega (arith, length-append ds ((48 + n % 10) ∷ []));
    })

-- ---- a number's word

some_not_empty : (n : ℕ) → 0 < n → not (n == 0) ≡ true
some_not_empty n lt = search (arith, lt)

pub number_of-decimal : (most n : ℕ) → n < 2 ^ 64 → length (decimal n) ≤ most → digits_number most (decimal n) ≡ Some n
unfolding digits_number
number_of-decimal most n lt len =
    let d = decimal_digits n lt in
    let some : not (length (decimal n) == 0) ≡ true = some_not_empty _ d.some in
    let short : nat_le (length (decimal n)) most ≡ true = le-leb _ _ len in
    rw (d.digits, some, short, d.value) (fitted n lt)

-- a word that is a number
pub record Numeral (n : ℕ) (word : List ℕ) : Type 0 where
  pub digits : are_digits word ≡ true
  pub value : value_after 0 word ≡ n
  pub some : 0 < length word
  pub fits : n < 2 ^ 64

not_empty_some : (n : ℕ) → not (n == 0) ≡ true → 0 < n
not_empty_some n h = search (arith, h)

fitting_is : (v n : ℕ) → fitting v ≡ Some n → (v ≡ n) × (n < 2 ^ 64)
fitting_is v n e = by (nat_lt v (2 ^ 64)) refl
  where
    by : (b : Bool) → nat_lt v (2 ^ 64) ≡ b → (v ≡ n) × (n < 2 ^ 64)
    by true is =
        let some : Some v ≡ Some n = rw is at e in
        let same : v ≡ n = (cc) in
        let lt = ltb-true _ _ is in
        (same, omega (arith, lt, same))
    by false is = let none : None ≡ Some n = rw is at e in absurd (cc)

pub numeral : (most n : ℕ) (word : List ℕ) → digits_number most word ≡ Some n → Numeral n word
unfolding digits_number
numeral most n word e = by (are_digits word && not (length word == 0) && nat_le (length word) most) refl
  where
    by : (b : Bool) → (are_digits word && not (length word == 0) && nat_le (length word) most) ≡ b → Numeral n word
    by true is =
        let both = and_true {a = are_digits word && not (length word == 0)} is in
        let front = and_true {a = are_digits word} both.0 in
        let fit = fitting_is (value_after 0 word) n (rw is at e) in
        record { digits = front.0; value = fit.0; some = not_empty_some _ front.1; fits = fit.1 }
    by false is = let none : None ≡ Some n = rw is at e in absurd (cc)

-- ---- leading zeros

decimal_after : (n : ℕ) (ds : List ℕ) → 0 < n → are_digits ds ≡ true → value_after n ds < 2 ^ 64 → decimal (value_after n ds) ≡ decimal n ++ ds
decimal_after n [] some h small = sym (append-nil (decimal n))
decimal_after n (d ∷ ds) some h small =
    let both = and_true {a = is_digit d} h in
    let digit = digit_is d both.0 in
    let m : ℕ = n * 10 + (d - 48) in
    let front : m / 10 ≡ n = omega (arith, digit.least, digit.most) in
    let end : 48 + m % 10 ≡ d = omega (arith, digit.least, digit.most) in
    decimal_after m ds (omega arith) both.1 small
    ∙ ap (λ x. x ++ ds) (decimal_step m (omega arith) (omega (arith, value_after-le m ds)) ∙ (λ i. decimal (front i) ++ (end i ∷ [])))
    ∙ append_assoc (decimal n) (d ∷ []) ds

pub zeros_gone : (ds : List ℕ) → are_digits ds ≡ true → 0 < length ds → value_after 0 ds < 2 ^ 64 → without_zeros ds ≡ decimal (value_after 0 ds)
zeros_gone [] h some small = absurd (omega arith)
zeros_gone (d ∷ []) h some small =
    let both = and_true {a = is_digit d} h in
    let digit = digit_is d both.0 in
    let back : 48 + (d - 48) ≡ d = omega (arith, digit.least) in
    sym (decimal_digit (0 * 10 + (d - 48)) (omega (arith, digit.most)) ∙ ap (λ x. x ∷ []) (omega (arith, back)))
zeros_gone (d ∷ e ∷ ds) h some small = by (zeros_gone (e ∷ ds)) (d == 48) refl
  where
    both : (is_digit d ≡ true) × (are_digits (e ∷ ds) ≡ true)
    both = and_true {a = is_digit d} h

    by : (are_digits (e ∷ ds) ≡ true → 0 < length (e ∷ ds) → value_after 0 (e ∷ ds) < 2 ^ 64 → without_zeros (e ∷ ds) ≡ decimal (value_after 0 (e ∷ ds)))
        → (b : Bool) → (d == 48) ≡ b → without_zeros (d ∷ e ∷ ds) ≡ decimal (value_after 0 (d ∷ e ∷ ds))
    by rest true is =
        let zero : d ≡ 48 = search (arith, is) in
        let value : value_after (0 * 10 + (d - 48)) (e ∷ ds) ≡ value_after 0 (e ∷ ds) = rw zero refl in
        rw is (rest both.1 (omega arith) (omega (arith, value, small)) ∙ ap decimal (sym value))
    by rest false is =
        let digit = digit_is d both.0 in
        let no : 48 < d = search (arith, is, digit.least) in
        let back : 48 + (0 * 10 + (d - 48)) ≡ d = omega (arith, digit.least) in
        rw is (sym (decimal_after (0 * 10 + (d - 48)) (e ∷ ds) (omega (arith, no)) both.1 small
        ∙ ap (λ x. x ++ (e ∷ ds)) (decimal_digit (0 * 10 + (d - 48)) (omega (arith, digit.most)) ∙ ap (λ x. x ∷ []) back)))

-- ---- a plain word

pub plain_numeral : (n : ℕ) (word : List ℕ) → Numeral n word → plain_word word ≡ decimal n
plain_numeral n [] h = let some = h.some in absurd (omega arith)
plain_numeral n (first ∷ others) h = rw h.digits (zeros_gone (first ∷ others) h.digits h.some (omega (arith, h.value, h.fits)) ∙ ap decimal h.value)

plain_after_t : (n : ℕ) (digits : List ℕ) → Numeral n digits → plain_word (116 ∷ digits) ≡ 116 ∷ decimal n
plain_after_t n digits h = rw h.digits (ap (λ (ds : List ℕ). 116 ∷ ds) (zeros_gone digits h.digits h.some (omega (arith, h.value, h.fits)) ∙ ap decimal h.value))

zero_word : (n : ℕ) → 0 < n → n < 2 ^ 64 → bytes_eq (decimal n) (codes "0") ≡ false
zero_word n some small = by (bytes_eq (decimal n) (codes "0")) refl
  where
    by : (b : Bool) → bytes_eq (decimal n) (codes "0") ≡ b → bytes_eq (decimal n) (codes "0") ≡ false
    by true is =
        let same : decimal n ≡ decimal 0 = (bytes_eq-Decides (decimal n) (codes "0")).0 is ∙ sym (decimal_digit 0 (omega arith)) in
        absurd (omega (arith, decimal_injective n 0 small (omega arith) same))
    by false is = is

pub plain_after_minus : (n : ℕ) (digits : List ℕ) → Numeral n digits → plain_word (45 ∷ digits) ≡ signed_decimal (neg_ℤ (pos n))
plain_after_minus n digits h = by n (zeros_gone digits h.digits h.some (omega (arith, h.value, h.fits)) ∙ ap decimal h.value) h.fits
  where
    by : (n : ℕ) → without_zeros digits ≡ decimal n → n < 2 ^ 64 → plain_word (45 ∷ digits) ≡ signed_decimal (neg_ℤ (pos n))
    by zero e small = rw h.digits (ap negative_word (e ∙ decimal_digit 0 (omega arith)) ∙ sym (decimal_digit 0 (omega arith)))
    by (suc n) e small = rw h.digits (ap negative_word e ∙ (rw (zero_word (suc n) (omega arith) small) refl))

-- ---- callers

pub up_to_is : (most n : ℕ) (o : Option ℕ) → up_to most o ≡ Some n → (o ≡ Some n) × (n ≤ most)
up_to_is most n None e = absurd (cc)
up_to_is most n (Some m) e = by (nat_le m most) refl
  where
    by : (b : Bool) → nat_le m most ≡ b → (Some m ≡ Some n) × (n ≤ most)
    by true is =
        let some : Some m ≡ Some n = rw is at e in
        let same : m ≡ n = (cc) in
        let le = leb-true _ _ is in
        (some, omega (arith, le, same))
    by false is = let none : None ≡ Some n = rw is at e in absurd (cc)

pub plain_caller : (who : ℕ) (word : List ℕ) → caller_of word ≡ Some who → plain_word word ≡ codes "t" ++ decimal who
unfolding caller_of
plain_caller who [] e = let none : None ≡ Some who = e in absurd (cc)
plain_caller who (first ∷ digits) e = by (first == 116) refl
  where
    by : (b : Bool) → (first == 116) ≡ b → plain_word (first ∷ digits) ≡ codes "t" ++ decimal who
    by true is =
        let t : first ≡ 116 = search (arith, is) in
        let read : up_to 999999999 (digits_number 9 digits) ≡ Some who = rw is at e in
        let h = numeral 9 who digits (up_to_is 999999999 who _ read).0 in
        subst (λ (b : ℕ). plain_word (b ∷ digits) ≡ codes "t" ++ decimal who) (sym t) (plain_after_t who digits h)
    by false is = let none : None ≡ Some who = rw is at e in absurd (cc)

pub caller_of-decimal : (who : ℕ) → who ≤ 999999999 → caller_of (codes "t" ++ decimal who) ≡ Some who
unfolding caller_of
caller_of-decimal who le =
    let most : nat_le who 999999999 ≡ true = le-leb _ _ le in
    let read = number_of-decimal 9 who (omega arith) (length-decimal-le 9 who (omega arith) (omega arith) (omega arith)) in
    ap (up_to 999999999) read ∙ (rw most refl)

-- ---- names

-- what a lawful name is made of
pub record Name (first : ℕ) (others : List ℕ) : Type 0 where
  pub bytes : list_all is_name_byte (first ∷ others) ≡ true
  pub no_digits : are_digits (first ∷ others) ≡ false
  pub no_minus : (first == 45) ≡ false
  pub no_thread : (first == 116 && not (length others == 0) && are_digits others) ≡ false
  pub fits : length (first ∷ others) ≤ 32

not_true : (b : Bool) → not b ≡ true → b ≡ false
not_true true h = absurd (cc)
not_true false h = refl

letter_no_minus : (b : ℕ) → is_name_byte b ≡ true → (b == 45) ≡ false
letter_no_minus b h = grind arith

pub name_is : (first : ℕ) (others : List ℕ) → is_name (first ∷ others) ≡ true → Name first others
unfolding is_name
name_is first others h =
    let front = and_true {a = is_identifier (first ∷ others) && nat_le (length (first ∷ others)) 32} h in
    let short = and_true {a = is_identifier (first ∷ others)} front.0 in
    let letters = and_true {a = not (length (first ∷ others) == 0) && not (is_digit first)} short.0 in
    let no_digit : is_digit first ≡ false = not_true _ (and_true {a = not (length (first ∷ others) == 0)} letters.0).1 in
    record {
      bytes = letters.1;
      no_digits = rw no_digit refl;
      no_minus = letter_no_minus first (and_true {a = is_name_byte first} letters.1).0;
      no_thread = not_true _ front.1;
      fits = leb-true _ _ short.1;
    }

pub plain_name : (word : List ℕ) → is_name word ≡ true → plain_word word ≡ word
plain_name [] h = refl
plain_name (first ∷ []) h = let name = name_is first [] h in by name (first == 116) refl
  where
    by : Name first [] → (b : Bool) → (first == 116) ≡ b → plain_word (first ∷ []) ≡ first ∷ []
    by name true is = let t : first ≡ 116 = search (arith, is) in rw (name.no_digits, is) (ap (λ (b : ℕ). b ∷ []) (sym t))
    by name false is = rw (name.no_digits, is, name.no_minus) refl
plain_name (first ∷ next ∷ others) h = let name = name_is first (next ∷ others) h in by name (first == 116) (are_digits (next ∷ others)) refl refl
  where
    by : Name first (next ∷ others) → (t digits : Bool) → (first == 116) ≡ t → are_digits (next ∷ others) ≡ digits → plain_word (first ∷ next ∷ others) ≡ first ∷ next ∷ others
    by name true true is d = let bad : true ≡ false = sym (rw (is, eqb-suc-zero (length others), d) refl) ∙ name.no_thread in absurd (cc)
    by name true false is d = rw (name.no_digits, is, d, name.no_minus) refl
    by name false d is e = rw (name.no_digits, is, name.no_minus) refl
