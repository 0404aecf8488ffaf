-- How a moment or none stands in one number.
use Rattle.std.specs.Prelude.{ℕ, zero, suc, ◌+◌, Option, None, Some}

-- the number one below this one, and none below 0
abbrev pub one_below : ℕ → Option ℕ
one_below zero = None
one_below (suc n) = Some n

-- the number one above this one, and 0 above none
abbrev pub one_above : Option ℕ → ℕ
one_above None = 0
one_above (Some n) = n + 1
