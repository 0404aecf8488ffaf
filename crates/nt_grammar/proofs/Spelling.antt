-- The words of a statement's own text say its parts, and words that say them stand for these.
use Rattle.std.proofs.Common.{◌≡◌, ℕ, ℤ, pos, negsuc, neg_ℤ, suc, ◌-◌, ◌^◌, ◌<◌, ◌≤◌, Bool, true, false, not, nat_le, nat_lt, ◌&&◌, ◌==◌, List, [], ◌∷◌, ◌++◌, length, map, Option, Some, None, is_some, refl, sym, ap, subst, ◌∙◌, inl, inr, arith}
use Rattle.std.specs.List.{list_all}
use Rattle.std.specs.Str.{bytes_eq}
use Rattle.std.specs.Option.{option_map}
use Rattle.std.specs.Fmt.{decimal, signed_decimal}
use Rattle.std.proofs.lemmas.Bool.{le-leb, leb-true, ltb-true}
use Rattle.std.proofs.lemmas.Fmt.{length-decimal-le}
use Rattle.std.proofs.lemmas.Slice.Eq.{bytes_eq-Decides}
use Rattle.nt_status.specs.declared.limits.TheConstants.{INFINITE}
use Rattle.nt_lines.specs.declared.words.TheConstants.{MAX_DIGITS}
use Rattle.nt_lines.specs.Words.{is_digit, are_digits, is_name, is_name_byte, digits_number, up_to}
use Rattle.nt_grammar.specs.Plain.{plain_word}
use Rattle.nt_grammar.specs.Scope.{Scope, bound_in}
use Rattle.nt_grammar.specs.Keywords.{AlertableWord, EndlessWord, PlainWord, keyword_text, other_text}
use Rattle.nt_grammar.specs.Places.{at_least, number_in, free_name_in, object_meant, is_word, is_negative, signed_in, time_in, mode_in, Place, NamePlace, ObjectPlace, NumberPlace, SignedPlace, TimePlace, ModePlace, ValueOf, value_in}
use Rattle.nt_grammar.specs.Grammar.{After, Options, Each, Both, Values, Given, ValuesAfter, places_of, after_of, Called, Part, Caller, Word, Value, WordSays, Spells, value_parts, option_parts, each_parts, both_parts, after_parts, line_parts}
use Rattle.nt_grammar.specs.Spelling.{time_word, mode_word, value_word, plain, IsSigned, IsFreeName, CanStand, CanSay, CanSayAll}
use Rattle.nt_grammar.specs.declared.keyword.Keyword.{Keyword}
use Rattle.nt_grammar.specs.Laws.{StandsFor, StandFor}
use Rattle.nt_grammar.proofs.Plain.{and_true, Numeral, numeral, decimal_digits, number_of-decimal, plain_numeral, plain_after_minus, plain_caller, caller_of-decimal, name_is, plain_name, up_to_is}
use Rattle.nt_grammar.proofs.Joining.{IsBody, AreBodies, is_body, weaker, digit_body, name_body}

abbrev Words : Type 0
Words = List (List ℕ)

-- ---- parts

-- a word of the grammar itself is plain, and can stand in a line
abbrev pub is_sound_word : List ℕ → Bool
is_sound_word text = bytes_eq (plain_word text) text && list_all is_body text && nat_lt 0 (length text)

-- the numbers of a place fit 64 bits
abbrev pub is_sound_place : Place → Bool
is_sound_place (NumberPlace least most) = nat_lt most (2 ^ 64)
is_sound_place (SignedPlace half) = nat_le half (2 ^ 63)
is_sound_place place = true

abbrev pub is_sound : Part → Bool
is_sound (Caller who) = true
is_sound (Word text) = is_sound_word text
is_sound (Value place value) = is_sound_place place

abbrev pub are_sound : List Place → Bool
are_sound places = list_all is_sound_place places

abbrev pub is_sound_after : After → Bool
is_sound_after (Options options) = list_all is_sound_word options
is_sound_after (Each place) = is_sound_place place
is_sound_after (Both first second) = is_sound_place first && is_sound_place second

-- ---- numbers

number_in-decimal : (least most n : ℕ) → least ≤ n → n ≤ most → n < 2 ^ 64 → number_in least most (decimal n) ≡ Some n
number_in-decimal least most n low high fits =
    let read = number_of-decimal MAX_DIGITS n fits (length-decimal-le MAX_DIGITS n (omega arith) (omega arith) fits) in
    let up : nat_le n most ≡ true = le-leb _ _ high in
    let down : nat_le least n ≡ true = le-leb _ _ low in
    ap (λ (o : Option ℕ). at_least least (up_to most o)) read ∙ (rw up (rw down refl))

at_least_is : (least n : ℕ) (o : Option ℕ) → at_least least o ≡ Some n → o ≡ Some n
at_least_is least n None e = e
at_least_is least n (Some m) e = by (nat_le least m) refl
  where
    by : (b : Bool) → nat_le least m ≡ b → Some m ≡ Some n
    by true is = rw is at e
    by false is = let none : None ≡ Some n = rw is at e in absurd (cc)

in_numeral : (least most n : ℕ) (word : List ℕ) → number_in least most word ≡ Some n → Numeral n word
in_numeral least most n word e = numeral MAX_DIGITS n word (up_to_is most n (digits_number MAX_DIGITS word) (at_least_is least n (up_to most (digits_number MAX_DIGITS word)) e)).0

plain_number : (least most n : ℕ) (word : List ℕ) → number_in least most word ≡ Some n → plain_word word ≡ decimal n
plain_number least most n word e = plain_numeral n word (in_numeral least most n word e)

-- ---- signed numbers

no_minus : (word : List ℕ) → are_digits word ≡ true → is_negative word ≡ false
no_minus [] h = refl
no_minus (first ∷ others) h = digit_no_minus first (and_true {a = is_digit first} h).0
  where
    digit_no_minus : (b : ℕ) → is_digit b ≡ true → (b == 45) ≡ false
    digit_no_minus b h = grind arith

signed_read : (half : ℕ) (n : ℤ) → IsSigned half n → half ≤ 2 ^ 63 → signed_in half (signed_decimal n) ≡ Some n
signed_read half (pos n) fits small =
    let digits = (decimal_digits n (omega (arith, fits, small))).digits in
    rw (no_minus (decimal n) digits) (ap (option_map (λ n. pos n)) (number_in-decimal 0 (half - 1) n (omega arith) (omega (arith, fits)) (omega (arith, fits, small))))
signed_read half (negsuc n) fits small =
    ap (option_map (λ n. neg_ℤ (pos n))) (number_in-decimal 0 half (suc n) (omega arith) (omega (arith, fits)) (omega (arith, fits, small)))

-- the number that a map was made of
map_some : (f : ℕ → ℤ) (o : Option ℕ) (n : ℤ) → option_map f o ≡ Some n → (m : ℕ) × (o ≡ Some m) × (f m ≡ n)
map_some f None n e = let none : None ≡ Some n = e in absurd (cc)
map_some f (Some m) n e = (m, refl, let same : Some (f m) ≡ Some n = e in cc)

plain_signed : (half : ℕ) (n : ℤ) (word : List ℕ) → signed_in half word ≡ Some n → plain_word word ≡ signed_decimal n
plain_signed half n [] e =
    let m = map_some (λ n. pos n) (number_in 0 (half - 1) []) n e in
    plain_number 0 (half - 1) m.0 [] m.1 ∙ ap signed_decimal m.2
plain_signed half n (first ∷ others) e = by (first == 45) refl
  where
    by : (b : Bool) → (first == 45) ≡ b → plain_word (first ∷ others) ≡ signed_decimal n
    by true is =
        let minus : first ≡ 45 = search (arith, is) in
        let m = map_some (λ n. neg_ℤ (pos n)) (number_in 0 half others) n (rw is at e) in
        subst (λ (b : ℕ). plain_word (b ∷ others) ≡ signed_decimal n) (sym minus) (plain_after_minus m.0 others (in_numeral 0 half m.0 others m.1) ∙ ap signed_decimal m.2)
    by false is =
        let m = map_some (λ n. pos n) (number_in 0 (half - 1) (first ∷ others)) n (rw is at e) in
        plain_number 0 (half - 1) m.0 (first ∷ others) m.1 ∙ ap signed_decimal m.2

-- ---- times

-- digits are no word of letters
no_inf : (word : List ℕ) → are_digits word ≡ true → is_word word (other_text EndlessWord) ≡ false
no_inf word h = by (is_word word (other_text EndlessWord)) refl
  where
    by : (b : Bool) → is_word word (other_text EndlessWord) ≡ b → is_word word (other_text EndlessWord) ≡ false
    by true is = let same = (bytes_eq-Decides word (other_text EndlessWord)).0 is in let bad : false ≡ true = sym (ap are_digits same) ∙ h in absurd (cc)
    by false is = is

time_read : (ms : ℕ) → ms < 2 ^ 32 → time_in (time_word ms) ≡ Some ms
time_read ms small = by (ms == INFINITE) refl
  where
    by : (b : Bool) → (ms == INFINITE) ≡ b → time_in (time_word ms) ≡ Some ms
    by true is = let same : ms ≡ INFINITE = search (arith, is) in rw is (ap (λ (n : ℕ). Some n) (sym same))
    by false is =
        let digits = (decimal_digits ms (omega (arith, small))).digits in
        rw is (rw (no_inf (decimal ms) digits) (number_in-decimal 0 (2 ^ 32 - 1) ms (omega arith) (omega (arith, small)) (omega (arith, small))))

time_stands : (scope : Scope) (ms : ℕ) (word : List ℕ) → time_in word ≡ Some ms → StandsFor scope word (time_word ms)
time_stands scope ms word e = by (is_word word (other_text EndlessWord)) (ms == INFINITE) refl refl
  where
    by : (b t : Bool) → is_word word (other_text EndlessWord) ≡ b → (ms == INFINITE) ≡ t → StandsFor scope word (time_word ms)
    by true t is at =
        let same : Some INFINITE ≡ Some ms = rw is at e in
        let inf : ms ≡ INFINITE = (cc) in
        let word_is : word ≡ other_text EndlessWord = (bytes_eq-Decides word (other_text EndlessWord)).0 is in
        inl (ap plain_word word_is ∙ sym (ap time_word inf))
    by false true is at =
        let inf : ms ≡ INFINITE = search (arith, at) in
        let number : plain_word word ≡ decimal ms = plain_number 0 (2 ^ 32 - 1) ms word (rw is at e) in
        inr (inl (number ∙ ap decimal inf, rw at refl))
    by false false is at =
        let number : plain_word word ≡ decimal ms = plain_number 0 (2 ^ 32 - 1) ms word (rw is at e) in
        inl (number ∙ (rw at refl))

-- ---- objects, names and modes

object_read : (scope : Scope) (handle : ℕ) → handle < 2 ^ 32 → object_meant scope (decimal handle) ≡ Some handle
object_read scope handle small =
    let digits = (decimal_digits handle (omega (arith, small))).digits in
    rw digits (number_in-decimal 0 (2 ^ 32 - 1) handle (omega arith) (omega (arith, small)) (omega (arith, small)))

object_stands : (scope : Scope) (handle : ℕ) (word : List ℕ) → object_meant scope word ≡ Some handle → StandsFor scope word (decimal handle)
object_stands scope handle word e = by (are_digits word) refl
  where
    by : (b : Bool) → are_digits word ≡ b → StandsFor scope word (decimal handle)
    by true is = inl (plain_number 0 (2 ^ 32 - 1) handle word (rw is at e))
    by false is = inr (inr (handle, rw is at e, refl))

name_read : (scope : Scope) (name : List ℕ) → IsFreeName scope name → free_name_in scope name ≡ Some name
name_read scope name free = rw (free.0, free.1) refl

name_stands : (scope : Scope) (name word : List ℕ) → free_name_in scope word ≡ Some name → StandsFor scope word name
name_stands scope name word e = by (is_name word && not (is_some (bound_in scope.names word))) refl
  where
    by : (b : Bool) → (is_name word && not (is_some (bound_in scope.names word))) ≡ b → StandsFor scope word name
    by true is =
        let some : Some word ≡ Some name = rw is at e in
        let same : word ≡ name = (cc) in
        inl (plain_name word (and_true {a = is_name word} is).0 ∙ same)
    by false is = let none : None ≡ Some name = rw is at e in absurd (cc)

mode_stands : (scope : Scope) (alertable : Bool) (word : List ℕ) → mode_in word ≡ Some alertable → StandsFor scope word (mode_word alertable)
mode_stands scope alertable word e = by (is_word word (other_text PlainWord)) (is_word word (other_text AlertableWord)) refl refl
  where
    by : (p a : Bool) → is_word word (other_text PlainWord) ≡ p → is_word word (other_text AlertableWord) ≡ a → StandsFor scope word (mode_word alertable)
    by true a is at =
        let some : Some false ≡ Some alertable = rw is at e in
        let same : false ≡ alertable = (cc) in
        inl (ap plain_word ((bytes_eq-Decides word (other_text PlainWord)).0 is) ∙ ap mode_word same)
    by false true is at =
        let some : Some true ≡ Some alertable = rw at at (rw is at e) in
        let same : true ≡ alertable = (cc) in
        inl (ap plain_word ((bytes_eq-Decides word (other_text AlertableWord)).0 at) ∙ ap mode_word same)
    by false false is at = let none : None ≡ Some alertable = rw at at (rw is at e) in absurd (cc)

-- ---- any part

-- a value that can stand in a place is written so that it is read
value_read : (scope : Scope) (place : Place) (value : ValueOf place) → is_sound_place place ≡ true → CanStand scope place value → value_in scope place (value_word place value) ≡ Some value
value_read scope NamePlace name sound h = name_read scope name h
value_read scope ObjectPlace handle sound h = object_read scope handle h
value_read scope (NumberPlace least most) n sound h = let small : most < 2 ^ 64 = ltb-true _ _ sound in number_in-decimal least most n h.0 h.1 (omega (arith, h.1, small))
value_read scope (SignedPlace half) n sound h = signed_read half n h (leb-true _ _ sound)
value_read scope TimePlace ms sound h = time_read ms h
value_read scope ModePlace true sound h = refl
value_read scope ModePlace false sound h = refl

said : (scope : Scope) (part : Part) → is_sound part ≡ true → CanSay scope part → WordSays scope part (plain part)
said scope (Caller who) sound h = caller_of-decimal who h
said scope (Word text) sound h = refl
said scope (Value place value) sound h = value_read scope place value sound h

sound_plain : (text : List ℕ) → is_sound_word text ≡ true → plain_word text ≡ text
sound_plain text h = (bytes_eq-Decides (plain_word text) text).0 (and_true {a = bytes_eq (plain_word text) text} (and_true {a = bytes_eq (plain_word text) text && list_all is_body text} h).0).0

value_stands : (scope : Scope) (place : Place) (value : ValueOf place) (word : List ℕ) → value_in scope place word ≡ Some value → StandsFor scope word (value_word place value)
value_stands scope NamePlace name word h = name_stands scope name word h
value_stands scope ObjectPlace handle word h = object_stands scope handle word h
value_stands scope (NumberPlace least most) n word h = inl (plain_number least most n word h)
value_stands scope (SignedPlace half) n word h = inl (plain_signed half n word h)
value_stands scope TimePlace ms word h = time_stands scope ms word h
value_stands scope ModePlace alertable word h = mode_stands scope alertable word h

stands : (scope : Scope) (part : Part) (word : List ℕ) → is_sound part ≡ true → WordSays scope part word → StandsFor scope word (plain part)
stands scope (Caller who) word sound h = inl (plain_caller who word h)
stands scope (Word text) word sound h = inl (ap plain_word h ∙ sound_plain text sound)
stands scope (Value place value) word sound h = value_stands scope place value word h

decimal_body : (n : ℕ) → n < 2 ^ 64 → IsBody (decimal n)
decimal_body n small = let d = decimal_digits n small in record { bytes = weaker is_digit is_body digit_body (decimal n) d.digits; some = d.some }

first_body : (first n : ℕ) → is_body first ≡ true → n < 2 ^ 64 → IsBody (first ∷ decimal n)
first_body first n ok small = record { bytes = rw (ok, (decimal_body n small).bytes) refl; some = omega arith }

name_is_body : (name : List ℕ) → is_name name ≡ true → IsBody name
unfolding is_name
name_is_body [] h = absurd (cc)
name_is_body (first ∷ others) h = record { bytes = weaker is_name_byte is_body name_body (first ∷ others) (name_is first others h).bytes; some = omega arith }

time_body : (ms : ℕ) → ms < 2 ^ 32 → IsBody (time_word ms)
time_body ms small = by (ms == INFINITE) refl
  where
    by : (b : Bool) → (ms == INFINITE) ≡ b → IsBody (time_word ms)
    by true is = let inf : IsBody (other_text EndlessWord) = record { bytes = refl; some = omega arith } in rw is inf
    by false is = rw is (decimal_body ms (omega (arith, small)))

signed_body : (half : ℕ) (n : ℤ) → half ≤ 2 ^ 63 → IsSigned half n → IsBody (signed_decimal n)
signed_body half (pos n) small h = decimal_body n (omega (arith, h, small))
signed_body half (negsuc n) small h = first_body 45 (suc n) refl (omega (arith, h, small))

value_body : (scope : Scope) (place : Place) (value : ValueOf place) → is_sound_place place ≡ true → CanStand scope place value → IsBody (value_word place value)
value_body scope NamePlace name sound h = name_is_body name h.0
value_body scope ObjectPlace handle sound h = decimal_body handle (omega (arith, h))
value_body scope (NumberPlace least most) n sound h = let small : most < 2 ^ 64 = ltb-true _ _ sound in decimal_body n (omega (arith, h.1, small))
value_body scope (SignedPlace half) n sound h = signed_body half n (leb-true _ _ sound) h
value_body scope TimePlace ms sound h = time_body ms h
value_body scope ModePlace true sound h = record { bytes = refl; some = omega arith }
value_body scope ModePlace false sound h = record { bytes = refl; some = omega arith }

body : (scope : Scope) (part : Part) → is_sound part ≡ true → CanSay scope part → IsBody (plain part)
body scope (Caller who) sound h = first_body 116 who refl (omega (arith, h))
body scope (Word text) sound h =
    let both = and_true {a = bytes_eq (plain_word text) text && list_all is_body text} sound in
    record { bytes = (and_true {a = bytes_eq (plain_word text) text} both.0).1; some = ltb-true _ _ both.1 }
body scope (Value place value) sound h = value_body scope place value sound h

-- ---- parts, one after another

pub all_said : (scope : Scope) (parts : List Part) → list_all is_sound parts ≡ true → CanSayAll scope parts → Spells scope parts (map plain parts)
all_said scope [] sound h = tt
all_said scope (part ∷ parts) sound h = let both = and_true {a = is_sound part} sound in (said scope part both.0 h.0, all_said scope parts both.1 h.1)

pub all_stand : (scope : Scope) (parts : List Part) (words : Words) → list_all is_sound parts ≡ true → Spells scope parts words → StandFor scope words (map plain parts)
all_stand scope [] [] sound h = tt
all_stand scope [] (word ∷ words) sound h = absurd h
all_stand scope (part ∷ parts) [] sound h = absurd h
all_stand scope (part ∷ parts) (word ∷ words) sound h =
    let both = and_true {a = is_sound part} sound in (stands scope part word both.0 h.0, all_stand scope parts words both.1 h.1)

pub all_bodies : (scope : Scope) (parts : List Part) → list_all is_sound parts ≡ true → CanSayAll scope parts → AreBodies (map plain parts)
all_bodies scope [] sound h = tt
all_bodies scope (part ∷ parts) sound h = let both = and_true {a = is_sound part} sound in (body scope part both.0 h.0, all_bodies scope parts both.1 h.1)

-- ---- sound lines

sound_values : (places : List Place) (values : Values places) (parts : List Part) → are_sound places ≡ true → list_all is_sound parts ≡ true → list_all is_sound (value_parts places values ++ parts) ≡ true
sound_values [] values parts sound h = h
sound_values (place ∷ places) values parts sound h =
    let both = and_true {a = is_sound_place place} sound in rw both.0 (sound_values places values.1 parts both.1 h)

sound_options : (options : List (List ℕ)) (given : Given options) → list_all is_sound_word options ≡ true → list_all is_sound (option_parts options given) ≡ true
sound_options [] given sound = refl
sound_options (option ∷ options) (true, given) sound =
    let both = and_true {a = is_sound_word option} sound in rw both.0 (sound_options options given both.1)
sound_options (option ∷ options) (false, given) sound = sound_options options given (and_true {a = is_sound_word option} sound).1

sound_each : (place : Place) (values : List (ValueOf place)) → is_sound_place place ≡ true → list_all is_sound (each_parts place values) ≡ true
sound_each place [] sound = refl
sound_each place (value ∷ values) sound = rw sound (sound_each place values sound)

sound_both : (first second : Place) (both : Option (ValueOf first × ValueOf second)) → (is_sound_place first && is_sound_place second) ≡ true → list_all is_sound (both_parts first second both) ≡ true
sound_both first second None sound = refl
sound_both first second (Some both) sound = let each = and_true {a = is_sound_place first} sound in rw (each.0, each.1) refl

sound_after : (after : After) (values : ValuesAfter after) → is_sound_after after ≡ true → list_all is_sound (after_parts after values) ≡ true
sound_after (Options options) given sound = sound_options options given sound
sound_after (Each place) values sound = sound_each place values sound
sound_after (Both first second) both sound = sound_both first second both sound

abbrev pub sound_word : Keyword → Bool
sound_word k = is_sound_word (keyword_text k)

pub sound_line : (who : ℕ) (k : Keyword) (values : Values (places_of k)) (after : ValuesAfter (after_of k)) → sound_word k ≡ true → are_sound (places_of k) ≡ true → is_sound_after (after_of k) ≡ true
    → list_all is_sound (line_parts (Called who k values after)) ≡ true
sound_line who k values after word places rest = rw word (sound_values (places_of k) values (after_parts (after_of k) after) places (sound_after (after_of k) after rest))
