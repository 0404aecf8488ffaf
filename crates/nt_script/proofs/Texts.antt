-- Digits one after another.
use Rattle.std.proofs.Common.{◌≡◌, ℕ, zero, suc, ◌-◌, ◌/◌, ◌%◌, ◌^◌, ◌<◌, ◌≤◌, List, [], ◌∷◌, ◌++◌, length, true, ap, ◌∙◌, append_assoc, append-nil, codes, arith}
use Rattle.std.specs.Fmt.{decimal, digit_glyph}
use Rattle.std.proofs.lemmas.Fmt.{length-decimal-le}
use Rattle.nt_script.specs.Transcript.{hex_digits, or_none}

pub hex_more : (old : List ℕ) (count n : ℕ) → 0 < count → (old ++ hex_digits (count - 1) (n / 16)) ++ digit_glyph true (n % 16) ∷ [] ≡ old ++ hex_digits count n
hex_more old zero n h = absurd (omega arith)
hex_more old (suc count) n h =
    let same : suc count - 1 ≡ count = omega arith in
    ap (λ (k : ℕ). (old ++ hex_digits k (n / 16)) ++ digit_glyph true (n % 16) ∷ []) same ∙ append_assoc old (hex_digits count (n / 16)) (digit_glyph true (n % 16) ∷ [])

-- ---- the line after the last

pub end_of_none : (start waiting said final : List ℕ) → length waiting ≡ 0 → said ≡ (start ++ waiting) ++ codes " none" → final ≡ said ++ 10 ∷ [] → final ≡ (start ++ or_none waiting) ++ 10 ∷ []
end_of_none start [] said final none e f = f ∙ ap (λ (l : List ℕ). l ++ 10 ∷ []) e ∙ ap (λ (l : List ℕ). (l ++ codes " none") ++ 10 ∷ []) (append-nil start)
end_of_none start (byte ∷ bytes) said final none e f = absurd (omega arith)

pub end_of_some : (start waiting said final : List ℕ) → 0 < length waiting → said ≡ start ++ waiting → final ≡ said ++ 10 ∷ [] → final ≡ (start ++ or_none waiting) ++ 10 ∷ []
end_of_some start [] said final some e f = absurd (omega arith)
end_of_some start (byte ∷ bytes) said final some e f = f ∙ ap (λ (l : List ℕ). l ++ 10 ∷ []) e
