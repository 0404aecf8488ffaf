-- What reading a reader's bytes as a whole comes to. No public clause cites this.
use Rattle.std.specs.Prelude.{◌≡◌, ℕ, ◌++◌, Bool, true, false, List, Option, Result, Ok, Err}
use Rattle.std.specs.Io.KnownBytes.{Consumes, IsAtEnd}
use Rattle.nt_devices.specs.Device.{Reading, one_more}
use Rattle.nt_hangs.specs.declared.reading.InputFault.{InputFault}
use Rattle.nt_hangs.specs.declared.reading.InputFault.TheVariants.{Failed, Memory}

-- these bytes were taken from the reader, and put at the end
abbrev pub MovesPiece : (left left' : Option (List ℕ)) → List ℕ → List ℕ → Type 0
MovesPiece left left' old new = (piece : List ℕ) × Consumes left left' piece × (new ≡ old ++ piece)

-- bytes were taken; or there are none; or the read failed, or memory was refused
abbrev pub ReadsPiece : (reader reader' : Reading) → List ℕ → List ℕ → Result Bool InputFault → Type 0
ReadsPiece reader reader' old new (Ok true) = MovesPiece reader.left reader'.left old new × (reader'.failed ≡ reader.failed)
ReadsPiece reader reader' old new (Ok false) = MovesPiece reader.left reader'.left old new × IsAtEnd reader'.left × (reader'.failed ≡ reader.failed)
ReadsPiece reader reader' old new (Err Failed) = reader'.failed ≡ one_more reader.failed
ReadsPiece reader reader' old new (Err Memory) = reader'.failed ≡ reader.failed

-- the reader failed once where that is the fault, and not otherwise
abbrev pub CountsInput : {X : Type 0} → (reader reader' : Reading) → Result X InputFault → Type 0
CountsInput reader reader' (Ok x) = reader'.failed ≡ reader.failed
CountsInput reader reader' (Err Failed) = reader'.failed ≡ one_more reader.failed
CountsInput reader reader' (Err Memory) = reader'.failed ≡ reader.failed
