-- How long numbers are in decimal.
use Rattle.std.proofs.Common.{ℕ, ◌^◌, ◌<◌, ◌≤◌, length, arith}
use Rattle.std.specs.Fmt.{decimal}
use Rattle.std.proofs.lemmas.Fmt.{length-decimal-le}
use Rattle.nt_lines.specs.declared.words.TheConstants.{MAX_DIGITS}

pub length_most : (n : ℕ) → n < 2 ^ 64 → length (decimal n) ≤ MAX_DIGITS
length_most n h = length-decimal-le MAX_DIGITS n (omega arith) (omega arith) h
