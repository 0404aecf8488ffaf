-- How many marks there are: a loop that takes one after another ends.
use Rattle.std.proofs.Common.{◌≡◌, ◌<◌, ℕ, zero, suc, ◌+◌, Bool, true, false, List, [], ◌∷◌, set, arith}
use Rattle.nt_marks.specs.Marks.{is_marked}

-- how many places are marked
abbrev pub marks_left : List Bool → ℕ
marks_left [] = 0
marks_left (false ∷ marks) = marks_left marks
marks_left (true ∷ marks) = marks_left marks + 1

pub marks_less : (marks : List Bool) (place : ℕ) → is_marked marks place ≡ true → marks_left (set marks place false) < marks_left marks
marks_less [] place is = let e : false ≡ true = is in (cc)
marks_less (false ∷ marks) zero is = let e : false ≡ true = is in (cc)
marks_less (true ∷ marks) zero is = omega arith
marks_less (false ∷ marks) (suc place) is = marks_less marks place is
marks_less (true ∷ marks) (suc place) is = let rest = marks_less marks place is in omega (arith, rest)
