-- One place after another: what is read there, and where that stops.
use Rattle.std.proofs.Common.{◌≡◌, ℕ, Bool, true, false, not, List, [], ◌∷◌, ◌++◌, length, ◌&&◌, Option, Some, None, Result, Ok, Err, refl, sym, ap, subst, ◌∙◌}
use Rattle.std.specs.List.{list_all}
use Rattle.std.specs.Str.{bytes_eq}
use Rattle.std.proofs.Math.Dec.{eqb-suc-zero}
use Rattle.std.proofs.lemmas.Slice.Eq.{bytes_eq-Decides}
use Rattle.nt_grammar.specs.Scope.{Scope}
use Rattle.nt_grammar.specs.Places.{Place, NamePlace, ObjectPlace, NumberPlace, SignedPlace, TimePlace, ModePlace, ValueOf, value_in, blame}
use Rattle.nt_grammar.specs.Grammar.{After, Options, Each, Both, Values, Given, ValuesAfter, Part, Spells, value_parts, word_if, option_parts, each_parts, both_parts, after_parts}
use Rattle.nt_grammar.specs.Reading.{◌>>=◌, value_at, place_value_at, places_at, number_at, signed_at, free_name_at, object_word_at, time_at, mode_at, option_at, options_at, each_at, both_at, after_at, end_at}
use Rattle.nt_grammar.specs.declared.fault.ScriptFault.{ScriptFault}
use Rattle.nt_grammar.proofs.Plain.{and_true}

abbrev Words : Type 0
Words = List (List ℕ)

-- what a place reads
pub read_in : (scope : Scope) (place : Place) (words : Words) → place_value_at scope place words ≡ value_at (value_in scope place) place words
unfolding number_at free_name_at object_word_at signed_at time_at mode_at
read_in scope NamePlace words = refl
read_in scope ObjectPlace words = refl
read_in scope (NumberPlace least most) words = refl
read_in scope (SignedPlace half) words = refl
read_in scope TimePlace words = refl
read_in scope ModePlace words = refl

-- a word that means this is taken
pub taken : (scope : Scope) (place : Place) (value : ValueOf place) (word : List ℕ) (words : Words) → value_in scope place word ≡ Some value → place_value_at scope place (word ∷ words) ≡ Ok (value, words)
taken scope place value word words e =
    let one : value_at (value_in scope place) place (word ∷ words) ≡ Ok (value, words) = rw e refl in
    read_in scope place (word ∷ words) ∙ one

-- ---- words that say values are read as these

module _ {A : Type 0} (scope : Scope) (parts : List Part) (y : A) where
  pub places_read : (places : List Place) (values : Values places) (read : Values places → Words → Result A ScriptFault) → ((rest : Words) → Spells scope parts rest → read values rest ≡ Ok y)
      → (words : Words) → Spells scope (value_parts places values ++ parts) words → places_at scope places read words ≡ Ok y
  places_read [] values read go words s = go words s
  places_read (place ∷ places) values read go [] s = absurd s
  places_read (place ∷ places) values read go (word ∷ words) s =
      ap (λ (m : Result (ValueOf place × Words) ScriptFault). m >>= λ value. places_at scope places (λ values rest. read (value.0, values) rest) value.1) (taken scope place values.0 word words s.0)
      ∙ places_read places values.1 (λ others rest. read (values.0, others) rest) go words s.1

-- no option stands twice
abbrev pub distinct : List (List ℕ) → Bool
distinct [] = true
distinct (option ∷ options) = list_all (λ other. not (bytes_eq other option)) options && distinct options

same_bytes : (word : List ℕ) → bytes_eq word word ≡ true
same_bytes word = (bytes_eq-Decides word word).1 refl

-- a word that says an option is one of them
among : (scope : Scope) (p : List ℕ → Bool) (options : List (List ℕ)) (given : Given options) (word : List ℕ) (words : Words) → list_all p options ≡ true → Spells scope (option_parts options given) (word ∷ words) → p word ≡ true
among scope p [] given word words all s = absurd s
among scope p (option ∷ options) (true, given) word words all s = ap p s.0 ∙ (and_true {a = p option} all).0
among scope p (option ∷ options) (false, given) word words all s = among scope p options given word words (and_true {a = p option} all).1 s

not_true : (b : Bool) → not b ≡ true → b ≡ false
not_true true e = sym e
not_true false e = refl

pub options_read : (scope : Scope) (options : List (List ℕ)) (given : Given options) → distinct options ≡ true → (words : Words) → Spells scope (option_parts options given) words → options_at options words ≡ (given, [])
options_read scope [] given apart [] s = refl
options_read scope [] given apart (word ∷ words) s = absurd s
options_read scope (option ∷ options) (true, given) apart [] s = absurd s
options_read scope (option ∷ options) (true, given) apart (word ∷ words) s =
    let rest = options_read scope options given (and_true {a = list_all (λ other. not (bytes_eq other option)) options} apart).1 words s.1 in
    let is : option_at option (word ∷ words) ≡ (true, words) = rw (s.0, same_bytes option) refl in
    rw is (rw rest refl)
options_read scope (option ∷ options) (false, given) apart [] s = rw (options_read scope options given (and_true {a = list_all (λ other. not (bytes_eq other option)) options} apart).1 [] s) refl
options_read scope (option ∷ options) (false, given) apart (word ∷ words) s =
    let both = and_true {a = list_all (λ other. not (bytes_eq other option)) options} apart in
    let other = not_true (bytes_eq word option) (among scope (λ other. not (bytes_eq other option)) options given word words both.0 s) in
    let is : option_at option (word ∷ words) ≡ (false, word ∷ words) = rw other refl in
    rw is (rw (options_read scope options given both.1 (word ∷ words) s) refl)

pub each_read : (scope : Scope) (place : Place) (values : List (ValueOf place)) (words : Words) → Spells scope (each_parts place values) words → each_at scope place words ≡ Ok values
unfolding each_at
each_read scope place [] [] s = refl
each_read scope place [] (word ∷ words) s = absurd s
each_read scope place (value ∷ values) [] s = absurd s
each_read scope place (value ∷ values) (word ∷ words) s = rw s.0 (rw (each_read scope place values words s.1) refl)

-- where a word is left, both are read
pub both_in : (scope : Scope) (first second : Place) (word : List ℕ) (words : Words)
    → both_at scope first second (word ∷ words) ≡ places_at scope (first ∷ second ∷ []) (λ values rest. end_at rest >>= λ ended. Ok (Some (values.0, values.1.0))) (word ∷ words)
both_in scope first second word words = rw (eqb-suc-zero (length words)) refl

pub both_read : (scope : Scope) (first second : Place) (both : Option (ValueOf first × ValueOf second)) (words : Words) → Spells scope (both_parts first second both) words → both_at scope first second words ≡ Ok both
both_read scope first second None [] s = refl
both_read scope first second None (word ∷ words) s = absurd s
both_read scope first second (Some both) [] s = absurd s
both_read scope first second (Some both) (one ∷ []) s = absurd s.1
both_read scope first second (Some both) (one ∷ two ∷ []) s = both_in scope first second one (two ∷ []) ∙ (rw (taken scope first both.0 one (two ∷ []) s.0) (rw (taken scope second both.1 two [] s.1.0) refl))
both_read scope first second (Some both) (one ∷ two ∷ three ∷ words) s = absurd s.1.1

-- what stands after the places can be told apart
abbrev pub is_apart : After → Bool
is_apart (Options options) = distinct options
is_apart (Each place) = true
is_apart (Both first second) = true

pub after_read : (scope : Scope) (after : After) (values : ValuesAfter after) → is_apart after ≡ true → (words : Words) → Spells scope (after_parts after values) words → after_at scope after words ≡ Ok values
after_read scope (Options options) values apart words s = rw (options_read scope options values apart words s) refl
after_read scope (Each place) values apart words s = each_read scope place values words s
after_read scope (Both first second) values apart words s = both_read scope first second values words s

-- ---- words that are read say the values

abbrev pub taken_as : {A : Type 0} → A → Result A ScriptFault
taken_as x = Ok x

pub ok_is : {A : Type 0} (x y : A) → taken_as x ≡ taken_as y → x ≡ y
ok_is x y e = cc

pub err_is : {A : Type 0} (x : A) (fault : ScriptFault) → Err fault ≡ taken_as x → ⊥
err_is x fault e = absurd (cc)

-- the values were read, and then the rest
pub record Said (scope : Scope) (A : Type 0) (places : List Place) (read : Values places → Words → Result A ScriptFault) (words : Words) (y : A) : Type 0 where
  pub values : Values places
  pub rest : Words
  pub spells : (parts : List Part) → Spells scope parts rest → Spells scope (value_parts places values ++ parts) words
  pub after : read values rest ≡ Ok y

-- a value was read, and then what is left
abbrev pub then_at : {A : Type 0} (scope : Scope) (place : Place) (places : List Place) → (Values (place ∷ places) → Words → Result A ScriptFault) → Result (ValueOf place × Words) ScriptFault → Result A ScriptFault
then_at scope place places read m = m >>= λ value. places_at scope places (λ values rest. read (value.0, values) rest) value.1

module _ {A : Type 0} (scope : Scope) (place : Place) (places : List Place) (read : Values (place ∷ places) → Words → Result A ScriptFault) (y : A)
    (others : (value : ValueOf place) (words : Words) → places_at scope places (λ values rest. read (value, values) rest) words ≡ Ok y → Said scope A places (λ values rest. read (value, values) rest) words y) where
  word_said : (word : List ℕ) (words : Words) (o : Option (ValueOf place)) → value_in scope place word ≡ o → then_at scope place places read (value_at (value_in scope place) place (word ∷ words)) ≡ Ok y
      → Said scope A (place ∷ places) read (word ∷ words) y
  word_said word words None is e = absurd (err_is y (blame place word) (rw is at e))
  word_said word words (Some value) is e =
      let more = others value words (rw is at e) in
      record { values = (value, more.values); rest = more.rest; spells = λ parts s. (is, more.spells parts s); after = more.after }

  place_said : (words : Words) → then_at scope place places read (value_at (value_in scope place) place words) ≡ Ok y → Said scope A (place ∷ places) read words y
  place_said [] e = absurd (err_is y _ e)
  place_said (word ∷ words) e = word_said word words (value_in scope place word) refl e

pub places_said : {A : Type 0} (scope : Scope) (places : List Place) (read : Values places → Words → Result A ScriptFault) (words : Words) (y : A) → places_at scope places read words ≡ Ok y → Said scope A places read words y
places_said scope [] read words y e = record { values = tt; rest = words; spells = λ parts s. s; after = e }
places_said scope (place ∷ places) read words y e =
    place_said scope place places read y (λ value words e. places_said scope places (λ values rest. read (value, values) rest) words y e) words (sym (ap (then_at scope place places read) (read_in scope place words)) ∙ e)

option_said : (scope : Scope) (text : List ℕ) (parts : List Part) (words : Words) → Spells scope parts (option_at text words).1 → Spells scope (word_if (option_at text words).0 text ++ parts) words
option_said scope text parts [] h = h
option_said scope text parts (word ∷ words) h = by (bytes_eq word text) refl
  where
    by : (b : Bool) → bytes_eq word text ≡ b → Spells scope (word_if (option_at text (word ∷ words)).0 text ++ parts) (word ∷ words)
    by true e =
        let rest : Spells scope parts words = rw e at h in
        rw e ((bytes_eq-Decides word text).0 e, rest)
    by false e =
        let rest : Spells scope parts (word ∷ words) = rw e at h in
        rw e rest

pub options_said : (scope : Scope) (options : List (List ℕ)) (words : Words) → Spells scope [] (options_at options words).1 → Spells scope (option_parts options (options_at options words).0) words
options_said scope [] words h = h
options_said scope (option ∷ options) words h =
    option_said scope option (option_parts options (options_at options (option_at option words).1).0) words (options_said scope options (option_at option words).1 h)

values_said : (scope : Scope) (place : Place) (word : List ℕ) (words : Words) (values : List (ValueOf place)) (m : Result (List (ValueOf place)) ScriptFault) (value : ValueOf place) → value_in scope place word ≡ Some value
    → ((others : List (ValueOf place)) → m ≡ Ok others → Spells scope (each_parts place others) words) → (m >>= λ others. Ok (value ∷ others)) ≡ Ok values → Spells scope (each_parts place values) (word ∷ words)
values_said scope place word words values (Err fault) value is more e = absurd (err_is values fault e)
values_said scope place word words values (Ok others) value is more e =
    subst (λ (values : List (ValueOf place)). Spells scope (each_parts place values) (word ∷ words)) (ok_is (value ∷ others) values e) (is, more others refl)

value_said : (scope : Scope) (place : Place) (word : List ℕ) (words : Words) (values : List (ValueOf place)) → ((others : List (ValueOf place)) → each_at scope place words ≡ Ok others → Spells scope (each_parts place others) words)
    → (o : Option (ValueOf place)) → value_in scope place word ≡ o → each_at scope place (word ∷ words) ≡ Ok values → Spells scope (each_parts place values) (word ∷ words)
unfolding each_at
value_said scope place word words values more None is e = absurd (err_is values (blame place word) (rw is at e))
value_said scope place word words values more (Some value) is e = values_said scope place word words values (each_at scope place words) value is more (rw is at e)

pub each_said : (scope : Scope) (place : Place) (words : Words) (values : List (ValueOf place)) → each_at scope place words ≡ Ok values → Spells scope (each_parts place values) words
unfolding each_at
each_said scope place [] values e = subst (λ (values : List (ValueOf place)). Spells scope (each_parts place values) []) (ok_is [] values e) tt
each_said scope place (word ∷ words) values e = value_said scope place word words values (λ others more. each_said scope place words others more) (value_in scope place word) refl e

ended : {A : Type 0} (scope : Scope) (words : Words) (x y : A) → (end_at words >>= λ ended. Ok x) ≡ Ok y → Spells scope [] words × (x ≡ y)
ended scope [] x y e = (tt, ok_is x y e)
ended scope (word ∷ words) x y e = absurd (err_is y _ e)

pub both_said : (scope : Scope) (first second : Place) (words : Words) (both : Option (ValueOf first × ValueOf second)) → both_at scope first second words ≡ Ok both → Spells scope (both_parts first second both) words
both_said scope first second [] both e = subst (λ (both : Option (ValueOf first × ValueOf second)). Spells scope (both_parts first second both) []) (ok_is None both e) tt
both_said scope first second (word ∷ words) both e =
    let read = places_said scope (first ∷ second ∷ []) (λ values rest. end_at rest >>= λ ended. Ok (Some (values.0, values.1.0))) (word ∷ words) both (sym (both_in scope first second word words) ∙ e) in
    let end = ended scope read.rest (Some (read.values.0, read.values.1.0)) both read.after in
    subst (λ (both : Option (ValueOf first × ValueOf second)). Spells scope (both_parts first second both) (word ∷ words)) end.1 (read.spells [] end.0)

pub after_said : (scope : Scope) (after : After) (words : Words) (values : ValuesAfter after) → after_at scope after words ≡ Ok values → Spells scope (after_parts after values) words
after_said scope (Options options) words values e =
    let end = ended scope (options_at options words).1 (options_at options words).0 values e in
    subst (λ (given : Given options). Spells scope (option_parts options given) words) end.1 (options_said scope options words end.0)
after_said scope (Each place) words values e = each_said scope place words values e
after_said scope (Both first second) words values e = both_said scope first second words values e
