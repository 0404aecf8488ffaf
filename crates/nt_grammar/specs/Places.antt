-- What one word of a script may say, and what must stand in a place of a line.
use Rattle.std.specs.Prelude.{ℕ, ℤ, pos, neg_ℤ, ◌-◌, ◌^◌, ◌&&◌, ◌==◌, nat_lt, nat_le, is_some, not, option_map, drop, Bool, true, false, List, [], ◌∷◌, Option, Some, None, if◌then◌else◌}
use Rattle.std.specs.Str.{bytes_eq}
use Rattle.nt_status.specs.declared.limits.TheConstants.{INFINITE, MAX_MOMENT}
use Rattle.nt_lines.specs.declared.words.TheConstants.{MAX_DIGITS}
use Rattle.nt_lines.specs.Words.{is_digit, are_digits, digits_number, caller_of, is_name, up_to}
use Rattle.nt_grammar.specs.Keywords.{AlertableWord, EndlessWord, PlainWord, other_text}
use Rattle.nt_grammar.specs.Scope.{Scope, bound_in}
use Rattle.nt_grammar.specs.declared.fault.ScriptFault.{ScriptFault}
use Rattle.nt_grammar.specs.declared.fault.ScriptFault.TheVariants.{UnknownWord, BadNumber, BadName, NameTaken, UnknownName}

-- ---- what one word may say

-- a value from this one on
abbrev pub at_least : ℕ → Option ℕ → Option ℕ
at_least least None = None
at_least least (Some n) = if nat_le least n then Some n else None

-- a number in one digit or more, and MAX_DIGITS of them at most, leading zeros allowed
abbrev pub number_in : ℕ → ℕ → List ℕ → Option ℕ
number_in least most word = at_least least (up_to most (digits_number MAX_DIGITS word))

-- a lawful name that stands for nothing yet
abbrev pub free_name_in : Scope → List ℕ → Option (List ℕ)
free_name_in scope word = if is_name word && not (is_some (bound_in scope.names word)) then Some word else None

-- the object of the thread with this number, if there is such a thread
abbrev pub thread_object : Scope → Option ℕ → Option ℕ
thread_object scope None = None
thread_object scope (Some t) = if nat_lt t scope.threads then Some t else None

-- a thread's object, or what a name stands for
abbrev pub named_object : Scope → List ℕ → Option ℕ
named_object scope word = if is_some (caller_of word) then thread_object scope (caller_of word) else bound_in scope.names word

-- the handle that a word means: digits alone are a handle's number
abbrev pub object_meant : Scope → List ℕ → Option ℕ
object_meant scope word = if are_digits word then number_in 0 (2 ^ 32 - 1) word else named_object scope word

-- whether a word is that one
abbrev pub is_word : List ℕ → List ℕ → Bool
is_word word text = bytes_eq word text

-- whether a word begins with `-`
abbrev pub is_negative : List ℕ → Bool
is_negative [] = false
is_negative (first ∷ others) = first == 45

-- a signed number: `-` may stand before its digits; `half` is how many negative ones there are
abbrev pub signed_in : ℕ → List ℕ → Option ℤ
signed_in half word =
    if is_negative word
    then option_map (λ n. neg_ℤ (pos n)) (number_in 0 half (drop 1 word))
    else option_map (λ n. pos n) (number_in 0 (half - 1) word)

-- milliseconds, or `inf`
abbrev pub time_in : List ℕ → Option ℕ
time_in word = if is_word word (other_text EndlessWord) then Some INFINITE else number_in 0 (2 ^ 32 - 1) word

-- whether the wait is alertable
abbrev pub mode_in : List ℕ → Option Bool
mode_in word = if is_word word (other_text PlainWord) then Some false else (if is_word word (other_text AlertableWord) then Some true else None)

-- ---- places

-- what must stand in a place
pub data Place : Type 0 where
  NamePlace : Place
  ObjectPlace : Place
  NumberPlace : ℕ → ℕ → Place
  SignedPlace : ℕ → Place
  TimePlace : Place
  ModePlace : Place

-- what a word can mean in a place
abbrev pub ValueOf : Place → Type 0
ValueOf NamePlace = List ℕ
ValueOf ObjectPlace = ℕ
ValueOf (NumberPlace least most) = ℕ
ValueOf (SignedPlace half) = ℤ
ValueOf TimePlace = ℕ
ValueOf ModePlace = Bool

-- what the word means there
abbrev pub value_in : Scope → (place : Place) → List ℕ → Option (ValueOf place)
value_in scope NamePlace word = free_name_in scope word
value_in scope ObjectPlace word = object_meant scope word
value_in scope (NumberPlace least most) word = number_in least most word
value_in scope (SignedPlace half) word = signed_in half word
value_in scope TimePlace word = time_in word
value_in scope ModePlace word = mode_in word

-- whether a word may stand in the place
abbrev pub fits_place : Scope → Place → List ℕ → Bool
fits_place scope place word = is_some (value_in scope place word)

-- whether the first byte is a digit
abbrev pub begins_with_digit : List ℕ → Bool
begins_with_digit [] = false
begins_with_digit (first ∷ others) = is_digit first

-- the fault of a word that does not fit
abbrev pub blame : Place → List ℕ → ScriptFault
blame NamePlace word = if is_name word then NameTaken else BadName
blame ObjectPlace word = if are_digits word then BadNumber else UnknownName
blame (NumberPlace least most) word = BadNumber
blame (SignedPlace half) word = BadNumber
blame TimePlace word = if begins_with_digit word then BadNumber else UnknownWord
blame ModePlace word = UnknownWord

-- 2 ^ 64 - 1 is the greatest routine and argument
abbrev pub ValuePlace : Place
ValuePlace = NumberPlace 0 (2 ^ 64 - 1)

-- rights have 32 bits
abbrev pub AccessPlace : Place
AccessPlace = NumberPlace 0 (2 ^ 32 - 1)

-- a moment
abbrev pub MomentPlace : Place
MomentPlace = NumberPlace 0 MAX_MOMENT
