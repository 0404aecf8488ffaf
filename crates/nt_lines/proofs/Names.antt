-- Names as text.
use Rattle.std.proofs.Common.{◌≡◌, ℕ, List, [], ◌∷◌, Some, refl, ap, true, false, Bool, not, nat_le, length, slice_index, ◌==◌, ◌&&◌, ◌<◌, arith, Result, Ok, Err, MatchResult}
use Rattle.std.proofs.lemmas.Bool.Decides.{nat_tests}
use Rattle.std.proofs.lemmas.Str.Ascii.{IsAscii-nil, IsAscii-cons}
use Rattle.std.specs.Str.{IsAscii, IsUtf8}
use Rattle.std.specs.List.{list_all}
use Rattle.std.specs.Option.{option_map}
use Rattle.std.specs.Result.{result_ok}
use denote.Ref.{Bor}
use Rattle.nt_lines.specs.Words.{is_name_byte, is_identifier, is_name, is_thread_like, is_digit}

and_true : {a b : Bool} → (a && b) ≡ true → (a ≡ true) × (b ≡ true)
and_true {a = true} {b} h = (refl, h)
and_true {a = false} {b} h = absurd cc

letter_ascii : (byte : ℕ) → is_name_byte byte ≡ true → byte < 128
letter_ascii byte h = grind (arith, nat_tests)

name_bytes_ascii : (bytes : List ℕ) → list_all is_name_byte bytes ≡ true → IsAscii bytes
name_bytes_ascii [] h = IsAscii-nil
name_bytes_ascii (byte ∷ bytes) h = let both = and_true h in IsAscii-cons byte bytes (letter_ascii byte both.0) (name_bytes_ascii bytes both.1)

pub name_ascii : (word : List ℕ) → is_name word ≡ true → IsAscii word
unfolding is_name
name_ascii word h =
    let identifier : is_identifier word ≡ true = (and_true {a = is_identifier word} {b = nat_le (length word) 32} (and_true {b = not (is_thread_like word)} h).0).0 in
    name_bytes_ascii word (and_true {a = not (length word == 0) && not (is_digit (slice_index word 0))} identifier).1

-- the bytes of a text, read as one
pub text_is : {E : Type 0} (word : List ℕ) (r : Result (Bor (List ℕ)) E) (Q : E → Type 0) → IsUtf8 word → MatchResult r (λ s. (s.now ≡ word) × IsUtf8 word) (λ e. (IsUtf8 word → ⊥) × Q e)
    → option_map (λ s. s.now) (result_ok r) ≡ Some word
text_is word (Ok s) Q utf8 h = ap Some h.0
text_is word (Err e) Q utf8 h = absurd (h.0 utf8)
