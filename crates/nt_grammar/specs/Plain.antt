-- Words as they are written plainly: numbers without leading zeros.
use Rattle.std.specs.Prelude.{ℕ, ◌==◌, ◌&&◌, List, [], ◌∷◌, if◌then◌else◌, codes}
use Rattle.std.specs.Str.{bytes_eq}
use Rattle.nt_lines.specs.Words.{are_digits}

-- digits without leading zeros
abbrev pub without_zeros : List ℕ → List ℕ
without_zeros [] = []
without_zeros (digit ∷ []) = digit ∷ []
without_zeros (digit ∷ next ∷ digits) = if digit == 48 then without_zeros (next ∷ digits) else digit ∷ next ∷ digits

-- these digits as a negative number; there is no negative zero
abbrev pub negative_word : List ℕ → List ℕ
negative_word digits = if bytes_eq digits (codes "0") then digits else 45 ∷ digits

-- a number or caller without leading zeros; any other word is itself
abbrev pub plain_word : List ℕ → List ℕ
plain_word [] = []
plain_word (first ∷ others) =
    if are_digits (first ∷ others) then without_zeros (first ∷ others)
    else if (first == 116) && are_digits others then 116 ∷ without_zeros others
    else if (first == 45) && are_digits others then negative_word (without_zeros others)
    else first ∷ others
