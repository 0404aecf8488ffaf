-- What follows of every run from a state in which threads hang.
use Rattle.std.specs.Prelude.{◌≡◌, ◌≤◌, ℕ, Bool, true, false, List, [], ◌∷◌, is_ok}
use Rattle.std.specs.FinMap.{get}
use Rattle.nt_status.specs.declared.limits.TheConstants.{MAX_MOMENT}
use Rattle.nt_calls.specs.State.{State}
use Rattle.nt_calls.specs.Moves.{granted_to}
use Rattle.nt_calls.specs.Runs.{Turn, Calls, Ticks, Turns}
use Rattle.nt_machine.specs.Dispatcher.{Dispatcher, state}
use Rattle.nt_machine.specs.Lawful.{IsLawful}
use Rattle.nt_look.specs.Hangs.{IsStuck, IsKnot}

-- the turns are calls of these threads, and ticks, none of which is to a moment beyond the greatest: a dispatcher takes no other
abbrev pub AreBy : (ℕ → Bool) → List Turn → Type 0
AreBy callers [] = Unit {0}
AreBy callers (Calls who call result grants ∷ turns) = (callers who ≡ true) × AreBy callers turns
AreBy callers (Ticks by moment result grants ∷ turns) = (moment ≤ MAX_MOMENT) × AreBy callers turns

-- nothing comes of the turns: each call is refused, and no wait ends
abbrev pub AreVain : List Turn → Type 0
AreVain [] = Unit {0}
AreVain (Calls who call result grants ∷ turns) = (is_ok result ≡ false) × (grants ≡ []) × AreVain turns
AreVain (Ticks by moment result grants ∷ turns) = (grants ≡ []) × AreVain turns

-- a stuck state stays so: whatever these threads call and however much time passes, each call is refused and no wait ends
abbrev pub StuckStays : Type 0
StuckStays =
    (callers : ℕ → Bool) (old new : State) (turns : List Turn)
    → IsStuck callers old
    → AreBy callers turns
    → Turns old turns new
    → AreVain turns × (new.waits ≡ old.waits) × IsStuck callers new

-- thread t does not go on in these turns: each call of it is refused, and none of the grants is its
abbrev pub IsIdleIn : List Turn → ℕ → Type 0
IsIdleIn [] t = Unit {0}
IsIdleIn (Calls who call result grants ∷ turns) t = (who ≡ t → is_ok result ≡ false) × (granted_to t grants ≡ 0) × IsIdleIn turns t
IsIdleIn (Ticks by moment result grants ∷ turns) t = (granted_to t grants ≡ 0) × IsIdleIn turns t

-- a knot holds: whatever the others do, none of its threads that may call goes on, and each waits as it did
abbrev pub KnotsHold : Type 0
KnotsHold =
    (d : Dispatcher) (callers knot : ℕ → Bool) (turns : List Turn) (new : State)
    → IsLawful d
    → IsKnot callers knot (state d)
    → AreBy callers turns
    → Turns (state d) turns new
    → IsKnot callers knot new
    × ((t : ℕ) → knot t ≡ true → callers t ≡ true → IsIdleIn turns t × (get new.waits t ≡ get (state d).waits t))
