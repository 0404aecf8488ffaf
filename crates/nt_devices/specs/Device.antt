-- What a reader and a writer that count their failures do.
use Rattle.std.specs.Prelude.{◌≡◌, ℕ, ◌+◌, ◌-◌, ◌^◌, ◌<◌, ◌⊎◌, min, take, length, List, Option, Bool, true, false, Result, Ok, Err}
use Rattle.std.specs.Io.KnownBytes.{Appends}

-- what is known of a reader: the bytes that it has left, if they are known, and how many of its reads failed
pub record Reading : Type 0 where
  pub left : Option (List ℕ)
  pub failed : ℕ

-- what is known of a writer: the bytes that it was given, if they are known; how many of its writes and flushes failed; how many flushes were tried;
-- and whether all is handed on, which is so if a flush succeeded, and nothing was written since
pub record Writing : Type 0 where
  pub held : Option (List ℕ)
  pub failed : ℕ
  pub flushes : ℕ
  pub handed_on : Bool

-- one failure more, where the count has room
abbrev pub one_more : ℕ → ℕ
one_more count = min (count + 1) (2 ^ 64 - 1)

-- each error is counted, and nothing else
abbrev pub Counts : {X E : Type 0} → ℕ → ℕ → Result X E → Type 0
Counts old new (Ok x) = new ≡ old
Counts old new (Err e) = new ≡ one_more old

-- all that was written is handed on where the flush succeeded, and may be held back where it failed
abbrev pub HandsOn : {X E : Type 0} → Bool → Result X E → Type 0
HandsOn handed_on (Ok x) = handed_on ≡ true
HandsOn handed_on (Err e) = handed_on ≡ false

-- known bytes grow by a beginning of these bytes that is not the whole of them
abbrev pub AppendsPart : Option (List ℕ) → Option (List ℕ) → List ℕ → Type 0
AppendsPart old new bytes = (taken : ℕ) × (taken < length bytes) × Appends old new (take taken bytes)

-- all of these bytes were written; or a part of them, and one failure more is counted
abbrev pub WritesBytes : {X E : Type 0} → (writer writer' : Writing) → List ℕ → Result X E → Type 0
WritesBytes writer writer' bytes (Ok x) = Appends writer.held writer'.held bytes × (writer'.failed ≡ writer.failed)
WritesBytes writer writer' bytes (Err e) = AppendsPart writer.held writer'.held bytes × (writer'.failed ≡ one_more writer.failed)

-- All of these bytes were written and handed on; or a part of them was, or all of them with a flush that failed, and the writer failed once more.
abbrev pub Hands : {X E : Type 0} → (writer writer' : Writing) → List ℕ → Result X E → Type 0
Hands writer writer' bytes (Ok x) = Appends writer.held writer'.held bytes × (writer'.failed ≡ writer.failed) × (writer'.handed_on ≡ true)
Hands writer writer' bytes (Err e) = (AppendsPart writer.held writer'.held bytes ⊎ Appends writer.held writer'.held bytes) × (writer'.failed ≡ one_more writer.failed)

-- All of these bytes were said on standard error; or a part of them, and the writer failed once more.
abbrev pub Says : (errors errors' : Writing) → List ℕ → Type 0
Says errors errors' bytes = (Appends errors.held errors'.held bytes × (errors'.failed ≡ errors.failed)) ⊎ (AppendsPart errors.held errors'.held bytes × (errors'.failed ≡ one_more errors.failed))
