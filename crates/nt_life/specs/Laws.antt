-- That the numbers of objects that are gone are given again.
use Rattle.std.specs.Prelude.{◌≡◌, ◌<◌, ◌+◌, ℕ, true, Contains, length, Some}
use Rattle.nt_status.specs.declared.limits.TheConstants.{MAX_HANDLES}
use Rattle.nt_calls.specs.declared.call.Act.{Act}
use Rattle.nt_calls.specs.declared.call.Call.{Call}
use Rattle.nt_calls.specs.State.{State}
use Rattle.nt_core.specs.Renewals.{is_vacant}
use Rattle.nt_life.specs.Lasting.{Spares, is_creation, finds_object, MayTurn, MayKeepOrder}

-- a creation while a handle is closed, this object is gone, and not each handle number was handed out; the rest is what each call tells
pub record CreatesBefore (s : State) (old new : Spares) (act : Act) (object : ℕ) : Type 0 where
  pub creates : is_creation act ≡ true
  pub closed : 0 < length old.closed
  pub vacant : is_vacant s object ≡ true
  pub room : length s.handles < MAX_HANDLES
  pub turned : MayTurn s (Call.Act act) (Some old) (Some new)
  pub ordered : MayKeepOrder s (Call.Act act) (Some old) (Some new)

-- among as many creations in a row as there are numbers of objects that no handle names, of which one is gone, some finds such a number
abbrev pub NumbersComeBack : Type 0
NumbersComeBack =
    (s : ℕ → State) (spare : ℕ → Spares) (act : ℕ → Act) (object : ℕ) → Contains (spare 0).unnamed object
    → ((i : ℕ) → i < length (spare 0).unnamed → CreatesBefore (s i) (spare i) (spare (i + 1)) (act i) object)
    → (i : ℕ) × (i < length (spare 0).unnamed) × (finds_object (s i) (spare i) ≡ true)
