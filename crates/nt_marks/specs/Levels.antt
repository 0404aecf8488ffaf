-- Three levels of bits. No public clause cites this.
use Rattle.std.specs.Prelude.{◌≡◌, ℕ, zero, suc, ◌+◌, ◌*◌, ◌<◌, ◌≤◌, ◌==◌, min, Bool, List, [], ◌∷◌, length, slice_index}
use Rattle.nt_marks.specs.Bits.{bit_of}

-- the marks of n places, the first of which is place k
unfoldable pub marks_from : List ℕ → ℕ → ℕ → List Bool
marks_from words k zero = []
marks_from words k (suc n) = (bit_of words k == 1) ∷ marks_from words (k + 1) n

-- the marks of the first n places
abbrev pub marks_of : List ℕ → ℕ → List Bool
marks_of words n = marks_from words 0 n

-- an upper bit is 1 exactly if the lower word of its number is not 0
pub record Summarizes (upper lower : List ℕ) : Type 0 where
  pub each : (w : ℕ) → bit_of upper w ≡ min 1 (slice_index lower w)

-- there is a word of this number now; words may have been added, and these are 0
pub record Reaches (old new : List ℕ) (word : ℕ) : Type 0 where
  pub reached : word < length new
  pub kept : length old ≤ length new
  pub same : (w : ℕ) → slice_index new w ≡ slice_index old w

-- four words, and one above them that tells of each
pub record AreTwoLevels (words top : List ℕ) : Type 0 where
  pub four_words : length words ≡ 4
  pub one_top : length top ≡ 1
  pub words_told : Summarizes top words

-- each upper bit tells of its lower word, and one word is at the top; each of this many places has a bit, and no bit past them is set
pub record AreLevels (words groups top : List ℕ) (places : ℕ) : Type 0 where
  pub few : places ≤ 262144
  pub one_top : length top ≡ 1
  pub enough_words : places ≤ 64 * length words
  pub enough_groups : places ≤ 4096 * length groups
  pub none_past : (n : ℕ) → places ≤ n → bit_of words n ≡ 0
  pub words_told : Summarizes groups words
  pub groups_told : Summarizes top groups
