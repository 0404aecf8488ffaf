-- Bits in words of 64. No public clause cites this.
use Rattle.std.specs.Prelude.{◌≡◌, ◌≢◌, ℕ, ◌/◌, ◌%◌, ◌<◌, List, slice_index}
use Rattle.std.specs.Int.{bit_at}

-- bit n of these words, 1 or 0; all bits past the last word are 0
unfoldable pub bit_of : List ℕ → ℕ → ℕ
bit_of words n = bit_at (slice_index words (n / 64)) (n % 64)

-- this bit has this value now; the other bits are as they were, and so are the other words
pub record ChangesBit (old new : List ℕ) (bit value : ℕ) : Type 0 where
  pub here : bit_of new bit ≡ value
  pub others : (n : ℕ) → n ≢ bit → bit_of new n ≡ bit_of old n
  pub words : (w : ℕ) → w ≢ bit / 64 → slice_index new w ≡ slice_index old w

-- the lowest bit that is 1
pub record IsLowestBit (words : List ℕ) (bit : ℕ) : Type 0 where
  pub here : bit_of words bit ≡ 1
  pub none_below : (n : ℕ) → n < bit → bit_of words n ≡ 0
