-- The words of a line, and the numbers and names among them.
use Rattle.std.specs.Prelude.{◌≡◌, ℕ, ◌+◌, ◌-◌, ◌*◌, ◌^◌, ◌==◌, ◌&&◌, ◌||◌, not, nat_lt, nat_le, Bool, false, List, [], ◌∷◌, length, slice_index, filter, take, position, unwrap_or, Option, Some, None, if◌then◌else◌}
use Rattle.std.specs.List.{slice_split, list_all}
use Rattle.std.specs.Str.Lines.{strip_carriage_return}
use Rattle.nt_lines.specs.declared.words.TheConstants.{MAX_CALLER}
use denote.Ref.{Bor}

-- ---- what a line says: what stands before a comment

abbrev pub is_semicolon : ℕ → Bool
is_semicolon byte = byte == 59

-- a tab, or a visible byte or a space
abbrev pub is_plain : ℕ → Bool
is_plain byte = (byte == 9) || (nat_le 32 byte && nat_le byte 126)

-- where the first comment begins, or the length
abbrev pub comment_start : List ℕ → ℕ
comment_start line = unwrap_or (position is_semicolon line) (length line)

abbrev pub before_comment : List ℕ → List ℕ
before_comment line = take (comment_start line) line

abbrev pub text_of : List ℕ → List ℕ
text_of line = before_comment (strip_carriage_return line)

-- ---- words

-- a space or a tab
abbrev pub is_gap : ℕ → Bool
is_gap byte = (byte == 32) || (byte == 9)

abbrev pub is_no_gap : ℕ → Bool
is_no_gap byte = not (is_gap byte)

-- the parts between gaps that are not empty
abbrev pub words_of : List ℕ → List (List ℕ)
words_of text = filter (λ word. not (length word == 0)) (slice_split is_gap text)

-- the first word, and the words of what stands after it
abbrev pub IsFirstWord : List ℕ → Option (Bor (List ℕ) × Bor (List ℕ)) → Type 0
IsFirstWord text None = words_of text ≡ []
IsFirstWord text (Some parts) = words_of text ≡ parts.0.now ∷ words_of parts.1.now

-- ---- numbers

abbrev pub is_digit : ℕ → Bool
is_digit byte = nat_le 48 byte && nat_le byte 57

abbrev pub are_digits : List ℕ → Bool
are_digits word = list_all is_digit word

-- the number that digits write after those of n
abbrev pub value_after : ℕ → List ℕ → ℕ
value_after n [] = n
value_after n (digit ∷ digits) = value_after (n * 10 + (digit - 48)) digits

-- a number that 64 bits hold
abbrev pub fitting : ℕ → Option ℕ
fitting n = if nat_lt n (2 ^ 64) then Some n else None

-- one digit or more, and `most` of them at most
unfoldable pub digits_number : ℕ → List ℕ → Option ℕ
digits_number most word = if are_digits word && not (length word == 0) && nat_le (length word) most then fitting (value_after 0 word) else None

abbrev pub up_to : ℕ → Option ℕ → Option ℕ
up_to most None = None
up_to most (Some n) = if nat_le n most then Some n else None

-- ---- callers and names

-- `t` and one to nine digits
unfoldable pub caller_of : List ℕ → Option ℕ
caller_of [] = None
caller_of (first ∷ digits) = if first == 116 then up_to MAX_CALLER (digits_number 9 digits) else None

abbrev pub is_letter : ℕ → Bool
is_letter byte = (nat_le 65 byte && nat_le byte 90) || (nat_le 97 byte && nat_le byte 122) || (byte == 95)

abbrev pub is_name_byte : ℕ → Bool
is_name_byte byte = is_letter byte || is_digit byte

-- `t` and digits alone
abbrev pub is_thread_like : List ℕ → Bool
is_thread_like [] = false
is_thread_like (first ∷ digits) = (first == 116) && not (length digits == 0) && are_digits digits

-- letters, digits or `_`, of which the first is no digit
abbrev pub is_identifier : List ℕ → Bool
is_identifier word = not (length word == 0) && not (is_digit (slice_index word 0)) && list_all is_name_byte word

unfoldable pub is_name : List ℕ → Bool
is_name word = is_identifier word && nat_le (length word) 32 && not (is_thread_like word)
