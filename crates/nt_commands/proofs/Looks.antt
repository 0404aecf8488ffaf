-- What a word looks like to clap: plain, `--`, a long option or short ones.
use Rattle.std.proofs.Common.{◌≡◌, ℕ, ◌==◌, ◌&&◌, Bool, cond, true, false, not, refl, sym, ap, subst, arith, List, [], ◌∷◌, length, Option, Some, None, codes, eqb-true}
use Rattle.std.specs.Prelude.{option_and_then, slice_get}
use Rattle.std.specs.Str.{IsUtf8, bytes_eq, chars}
use Rattle.std.specs.Char.{encode_utf8}
use Rattle.std.specs.Str.{encode_utf8_all}
use Rattle.std.proofs.lemmas.Str.{encodes-chars}
use Rattle.clap.specs.Lexer.{long_of, long_of_rest, short_of, short_of_rest, strip_byte}
use Rattle.nt_lines.specs.Options.{ends_options, is_operand}

pub data Look (w : List ℕ) : Type 0 where
  plain : long_of w ≡ None → short_of w ≡ None → is_operand w ≡ true → ends_options w ≡ false → Look w
  ends : w ≡ codes "--" → Look w
  long : (p : List ℕ × Option (List ℕ)) → long_of w ≡ Some p → is_operand w ≡ false → ends_options w ≡ false → Look w
  short : (b : ℕ) (bs : List ℕ) → w ≡ 45 ∷ b ∷ bs → long_of w ≡ None → short_of w ≡ Some (b ∷ bs) → is_operand w ≡ false → ends_options w ≡ false → Look w

look_dashes : (rest : List ℕ) → Look (45 ∷ 45 ∷ rest)
look_dashes [] = ends refl
look_dashes (b ∷ rest) = long _ refl refl refl

look_dash : (rest : List ℕ) → Look (45 ∷ rest)
look_dash [] = plain refl refl refl refl
look_dash (b ∷ rest) = go (b == 45) refl
  where
    go : (t : Bool) → (b == 45) ≡ t → Look (45 ∷ b ∷ rest)
    go false h = short b rest refl (ap (λ t. option_and_then long_of_rest (cond t (Some rest) None)) h) (ap (λ t. cond t None (Some (b ∷ rest))) h) refl
        (ap (λ t. t && bytes_eq rest []) h)
    go true h = subst (λ x. Look (45 ∷ x ∷ rest)) (sym (eqb-true b 45 h)) (look_dashes rest)

operand : (b : ℕ) (rest : List ℕ) → (b == 45) ≡ false → is_operand (b ∷ rest) ≡ true
operand b [] h = refl
operand b (c ∷ rest) h = ap (λ t. not t) h

pub look : (w : List ℕ) → Look w
look [] = plain refl refl refl refl
look (b ∷ rest) = go (b == 45) refl
  where
    go : (t : Bool) → (b == 45) ≡ t → Look (b ∷ rest)
    go false h = plain (ap (λ t. option_and_then long_of_rest (option_and_then (strip_byte 45) (cond t (Some rest) None))) h)
        (ap (λ t. option_and_then short_of_rest (cond t (Some rest) None)) h) (operand b rest h) (ap (λ t. t && bytes_eq rest (45 ∷ [])) h)
    go true h = subst (λ x. Look (x ∷ rest)) (sym (eqb-true b 45 h)) (look_dash rest)

-- a text that goes on after `-` has a character there
pub has_first : (b : ℕ) (bs : List ℕ) → IsUtf8 (45 ∷ b ∷ bs) → (x : ℕ) × (slice_get (chars (b ∷ bs)) 0 ≡ Some x)
unfolding chars encode_utf8
has_first b bs utf8 = go (chars (b ∷ bs)) (encodes-chars (45 ∷ b ∷ bs) utf8)
  where
    go : (cs : List ℕ) → encode_utf8_all (45 ∷ cs) ≡ 45 ∷ b ∷ bs → (x : ℕ) × (slice_get cs 0 ≡ Some x)
    go [] h = absurd (omega (arith, ap length h))
    go (x ∷ cs) h = (x, refl)
