-- How far a search is told to be.
use Rattle.std.specs.Prelude.{◌≡◌, ◌<◌, ◌^◌, ◌%◌, ◌==◌, ℕ, zero, suc, Bool, true, false, List, if◌then◌else◌, codes}
use Rattle.std.specs.Fmt.{decimal}
use Rattle.nt_devices.specs.Device.{Says, Writing, one_more}
use Rattle.nt_orders.specs.declared.progress.Progress.{Progress}

-- a number was written, and what ends it
abbrev pub SaysCount : ℕ → List ℕ → (sink sink' : Writing) → Type 0
SaysCount count end sink sink' = (mid : Writing) × Says sink mid (decimal count) × Says mid sink' end

-- a line was written: how many states were looked at, how many were met, and how many steps deep the last one lies that was looked at
abbrev pub SaysLook : (looked states depth : ℕ) → (sink sink' : Writing) → Type 0
SaysLook looked states depth sink sink' =
    (one : Writing) × (two : Writing) × SaysCount looked (codes " ") sink one × SaysCount states (codes " ") one two × SaysCount depth (codes "\n") two sink'

-- it was, or nothing
abbrev pub SaysLookIf : Bool → (looked states depth : ℕ) → (sink sink' : Writing) → Type 0
SaysLookIf true looked states depth sink sink' = SaysLook looked states depth sink sink'
SaysLookIf false looked states depth sink sink' = sink' ≡ sink

-- it was after each 64 looks, and else nothing
abbrev pub TellsLook : (looked states depth : ℕ) → (sink sink' : Writing) → Type 0
TellsLook looked states depth sink sink' = SaysLookIf (looked % 64 == 0) looked states depth sink sink'

-- of each of so many looks it was told so: `met i` states were met after i looks, and the state with number i lies `depth i` steps deep
abbrev pub TellsCourse : (depth met : ℕ → ℕ) → (looked : ℕ) → (sink sink' : Writing) → Type 0
TellsCourse depth met zero sink sink' = sink' ≡ sink
TellsCourse depth met (suc n) sink sink' = (mid : Writing) × TellsCourse depth met n sink mid × TellsLook (suc n) (met (suc n)) (depth n) mid sink'

-- ---- where a level ends

-- the depth of the next state, after so many looks
abbrev pub depth_then : (looked deeper depth : ℕ) → ℕ
depth_then looked deeper depth = if looked == deeper then one_more depth else depth

-- the first state that lies deeper, where so many states are met
abbrev pub deeper_then : (looked deeper states : ℕ) → ℕ
deeper_then looked deeper states = if looked == deeper then states else deeper

-- a look was told, and where it was the last of its level the next state lies deeper
pub record IsTold {P : Type 0} (seen : P → Writing) (old : Progress P) (looked states : ℕ) (new : Progress P) : Type 0 where
  pub small : looked < 2 ^ 64
  pub tells : TellsLook looked states old.depth (seen old.sink) (seen new.sink)
  pub depth : new.depth ≡ depth_then looked old.deeper old.depth
  pub deeper : new.deeper ≡ deeper_then looked old.deeper states
