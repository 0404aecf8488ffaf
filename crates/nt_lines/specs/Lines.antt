-- The lines of a text, and how they are read.
use Rattle.std.specs.Prelude.{◌≡◌, ℕ, ◌<◌, ◌≤◌, ◌+◌, ◌==◌, Bool, false, List, [], ◌∷◌, ◌++◌, length, All, Option, Result, Ok, Err}
use Rattle.std.specs.List.{slice_split}
use Rattle.std.specs.Io.KnownBytes.{Consumes, IsAtEnd, prepend_known}
use Rattle.nt_devices.specs.Device.{one_more}
use Rattle.nt_lines.specs.declared.input.TheConstants.{MAX_LINE}
use Rattle.nt_lines.specs.declared.input.Ending.{Ending}
use Rattle.nt_lines.specs.declared.input.Ending.TheVariants.{Feed, EndOfInput}
use Rattle.nt_lines.specs.declared.input.Piece.{Piece}
use Rattle.nt_lines.specs.declared.input.Piece.TheVariants.{Ended, Open, Full}
use Rattle.nt_lines.specs.declared.input.ReadFault.{ReadFault}
use Rattle.nt_lines.specs.declared.input.ReadFault.TheVariants.{Failed, TooLong}

abbrev pub is_feed : ℕ → Bool
is_feed byte = byte == 10

abbrev pub HasNoFeed : List ℕ → Type 0
HasNoFeed bytes = All (λ byte. is_feed byte ≡ false) bytes

-- the pieces between the LFs, where an empty last piece is no line
abbrev pub without_empty_last : List (List ℕ) → List (List ℕ)
without_empty_last [] = []
without_empty_last ([] ∷ []) = []
without_empty_last ((byte ∷ bytes) ∷ []) = (byte ∷ bytes) ∷ []
without_empty_last (piece ∷ next ∷ pieces) = piece ∷ without_empty_last (next ∷ pieces)

abbrev pub lines_of : List ℕ → List (List ℕ)
lines_of input = without_empty_last (slice_split is_feed input)

-- the bytes that are still to be taken: those that were read ahead, and those that the reader has left
abbrev pub to_come : List ℕ → Option (List ℕ) → Option (List ℕ)
to_come ahead left = prepend_known ahead left

-- One line was read: up to its LF, or to the end of the input.
abbrev pub ReadsLine : Option (List ℕ) → Option (List ℕ) → List ℕ → Ending → Type 0
ReadsLine old new line Feed = HasNoFeed line × (length line ≤ MAX_LINE) × Consumes old new (line ++ 10 ∷ [])
ReadsLine old new line EndOfInput = HasNoFeed line × (length line ≤ MAX_LINE) × Consumes old new line × IsAtEnd new

-- Reading stopped within a line: the device failed, or the line has a byte too many.
abbrev pub StopsInLine : Option (List ℕ) → Option (List ℕ) → List ℕ → ReadFault → Type 0
StopsInLine old new line TooLong = HasNoFeed line × (length line ≡ MAX_LINE + 1) × Consumes old new line
StopsInLine old new line Failed = HasNoFeed line × (length line ≤ MAX_LINE) × Consumes old new line

-- Failed is answered where a read failed, and nothing else counts as a failure.
abbrev pub CountsReadFault : {X : Type 0} → ℕ → ℕ → Result X ReadFault → Type 0
CountsReadFault old new (Err Failed) = new ≡ one_more old
CountsReadFault old new (Err TooLong) = new ≡ old
CountsReadFault old new (Ok x) = new ≡ old

-- bytes without an LF went from the front of these bytes to the end of the line
pub record MovesBytes (old new line line' : List ℕ) : Type 0 where
  pub bytes : List ℕ
  pub feedless : HasNoFeed bytes
  pub some : 0 < length bytes
  pub front : old ≡ bytes ++ new
  pub added : line' ≡ line ++ bytes

-- the line's last bytes, and the LF after them
pub record EndsLine (old new line line' : List ℕ) : Type 0 where
  pub bytes : List ℕ
  pub feedless : HasNoFeed bytes
  pub front : old ≡ bytes ++ 10 ∷ new
  pub added : line' ≡ line ++ bytes

abbrev pub TakesPiece : List ℕ → List ℕ → List ℕ → List ℕ → Piece → Type 0
TakesPiece old new line line' Ended = EndsLine old new line line' × (length line' ≤ MAX_LINE)
TakesPiece old new line line' Open = MovesBytes old new line line' × (length line' ≤ MAX_LINE)
TakesPiece old new line line' Full = MovesBytes old new line line' × (length line' ≡ MAX_LINE + 1)
