-- The words of a command line that may be options.
use Rattle.std.specs.Prelude.{ℕ, ◌==◌, Bool, true, not, List, [], ◌∷◌, codes}
use Rattle.std.specs.Str.{bytes_eq}

-- a word that does not begin with `-`, or is `-` alone
abbrev pub is_operand : List ℕ → Bool
is_operand [] = true
is_operand (first ∷ []) = true
is_operand (first ∷ second ∷ others) = not (first == 45)

-- whether a word is `--`, after which nothing is an option
abbrev pub ends_options : List ℕ → Bool
ends_options word = bytes_eq word (codes "--")
