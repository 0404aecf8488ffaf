-- Every order in which threads may make the calls that each of them has to make, one after another.
use Rattle.std.specs.Prelude.{◌≡◌, ◌≢◌, ◌≤◌, ◌<◌, ◌⊎◌, ◌+◌, ◌↔◌, Contains, ℕ, Bool, true, false, ◌||◌, nat_lt, List, [], ◌∷◌, length, slice_get, slice_index_or, slice_set, Option, None, Some, Result, Err, is_ok}
use Rattle.nt_status.specs.declared.limits.TheConstants.{MAX_MOMENT}
use Rattle.nt_status.specs.declared.refusal.Refusal.{Refusal}
use Rattle.nt_status.specs.declared.refusal.Refusal.TheVariants.{Memory}
use Rattle.nt_calls.specs.declared.call.Act.{Act}
use Rattle.nt_calls.specs.declared.call.Call.{Call}
use Rattle.nt_calls.specs.declared.call.Reply.{Reply}
use Rattle.nt_calls.specs.declared.call.Grant.{Grant}
use Rattle.nt_calls.specs.State.{State, pends}
use Rattle.nt_calls.specs.Steps.{Called, Ticked}
use Rattle.std.specs.FinMap.{get}
use Rattle.nt_machine.specs.Dispatcher.{Dispatcher, state}
use Rattle.nt_machine.specs.Lawful.{IsLawful}
use Rattle.nt_look.specs.Hangs.{IsStuck, IsKnot}

-- What a lane does next: its thread makes a call; or moments pass; or the thread tries acts, one after another, in one step. Where one is refused, those after
-- it are left out, up to the next gap.
pub data Ask : Type 0 where
  Calls : (call : Call) → Ask
  Passes : (moment : ℕ) → Ask
  Tries : (acts : List (Option Act)) → Ask

-- for each thread what it is to call, in order; and after the threads' lanes one for the ticks
abbrev pub Plan : Type 0
Plan = List (List Ask)

-- how far each lane is, and the machine
pub record Point : Type 0 where
  pub at : List ℕ
  pub state : State

abbrev pub place : Point → ℕ → ℕ
place p lane = slice_index_or p.at lane 0

abbrev pub asks : Plan → ℕ → List Ask
asks plan lane = slice_index_or plan lane []

-- the lane has something left to do
abbrev pub has_more : Plan → Point → ℕ → Bool
has_more plan p lane = nat_lt (place p lane) (length (asks plan lane))

-- thread t makes a call still, or waits
abbrev pub goes_on : Plan → Point → ℕ → Bool
goes_on plan p t = has_more plan p t || pends p.state t

-- Thread t tried these acts, one after another. After one that was refused none is made, up to the next gap; memory was refused to none.
abbrev pub AreTried : State → ℕ → List (Option Act) → (goes : Bool) → State → Type 0
AreTried old t [] goes new = new ≡ old
AreTried old t (None ∷ acts) goes new = AreTried old t acts true new
AreTried old t (Some act ∷ acts) false new = AreTried old t acts false new
AreTried old t (Some act ∷ acts) true new =
    (result : Result Reply Refusal) × (grants : List Grant) × (mid : State) × (result ≢ Err Memory) × Called old t (Call.Act act) result grants mid
    × AreTried mid t acts (is_ok result) new

-- what was asked was made; that memory is refused is no order of the plan, nor that a moment beyond the greatest passes
abbrev pub IsAskMade : State → ℕ → Ask → State → Type 0
IsAskMade old t (Calls call) new = (result : Result Reply Refusal) × (grants : List Grant) × (result ≢ Err Memory) × Called old t call result grants new
IsAskMade old t (Passes moment) new = (result : Result Reply Refusal) × (grants : List Grant) × Ticked old moment result grants new × (moment ≤ MAX_MOMENT)
IsAskMade old t (Tries acts) new = AreTried old t acts true new

-- the lane does what comes next in it; a thread that waits makes no call
pub record Goes (plan : Plan) (old : Point) (lane : ℕ) (new : Point) : Type 0 where
  pub free : pends old.state lane ≡ false
  pub ask : Ask
  pub next : slice_get (asks plan lane) (place old lane) ≡ Some ask
  pub made : IsAskMade old.state lane ask new.state
  pub at : new.at ≡ slice_set old.at lane (place old lane + 1)

-- these lanes go, one after another
abbrev pub Order : Plan → Point → List ℕ → Point → Type 0
Order plan old [] new = new ≡ old
Order plan old (lane ∷ lanes) new = (mid : Point) × Goes plan old lane mid × Order plan mid lanes new

-- a wait pends that nothing in any order of the plan can end: all is stuck, or the thread is of a knot
abbrev pub Hangs : Plan → Point → Type 0
Hangs plan p =
    (IsStuck (goes_on plan p) p.state × (t : ℕ) × (pends p.state t ≡ true))
    ⊎ ((knot : ℕ → Bool) × IsKnot (goes_on plan p) knot p.state × (t : ℕ) × (knot t ≡ true) × (pends p.state t ≡ true))

-- no order of so many steps, or fewer, comes to a wait that nothing can end
abbrev pub NoneHangsWithin : Plan → Point → ℕ → Type 0
NoneHangsWithin plan start most = (lanes : List ℕ) (p : Point) → length lanes ≤ most → Order plan start lanes p → Hangs plan p → ⊥

abbrev pub NoneHangs : Plan → Point → Type 0
NoneHangs plan start = (lanes : List ℕ) (p : Point) → Order plan start lanes p → Hangs plan p → ⊥

-- an order that comes to such a wait, and no shorter one does
pub record IsShortestHang (plan : Plan) (start : Point) (lanes : List ℕ) : Type 0 where
  pub point : Point
  pub order : Order plan start lanes point
  pub hangs : Hangs plan point
  pub least : (others : List ℕ) (p : Point) → length others < length lanes → Order plan start others p → Hangs plan p → ⊥

-- the wait of thread t is lost: it pends, and in every order of what the lanes have left it pends on
abbrev pub IsLost : Plan → Point → ℕ → Type 0
IsLost plan p t = (lanes : List ℕ) (q : Point) → Order plan p lanes q → pends q.state t ≡ true

-- an order after which a wait is lost, and no shorter one loses any
pub record IsShortestLoss (plan : Plan) (start : Point) (lanes : List ℕ) (t : ℕ) : Type 0 where
  pub point : Point
  pub order : Order plan start lanes point
  pub lost : IsLost plan point t
  pub least : (others : List ℕ) (p : Point) (u : ℕ) → length others < length lanes → Order plan start others p → IsLost plan p u → ⊥

-- ---- what makes a search exact

-- a hang is for good: the wait of some thread is lost, and it is the same wait in each order
abbrev pub HangsAreForGood : Type 0
HangsAreForGood =
    (d : Dispatcher) (plan : Plan) (p : Point)
    → IsLawful d
    → p.state ≡ state d
    → Hangs plan p
    → (t : ℕ) × IsLost plan p t × ((lanes : List ℕ) (q : Point) → Order plan p lanes q → get q.state.waits t ≡ get p.state.waits t)

-- these points have the start, and with each of them all to which one of its lanes leads
pub record IsClosed (plan : Plan) (start : Point) (met : List Point) : Type 0 where
  pub begins : Contains met start
  pub closed : (p q : Point) (lane : ℕ) → Contains met p → Goes plan p lane q → Contains met q

-- a closed search misses nothing: where none of its points hangs, no order hangs
abbrev pub SearchesMissNothing : Type 0
SearchesMissNothing =
    (plan : Plan) (start : Point) (met : List Point)
    → IsClosed plan start met
    → ((p : Point) → Contains met p → Hangs plan p → ⊥)
    → NoneHangs plan start

-- how many steps were made: the sum of the places
abbrev pub steps : List ℕ → ℕ
steps [] = 0
steps (n ∷ ns) = n + steps ns

-- equal points were come to by as many steps: a search level by level finds a shortest hang first
abbrev pub StepsAreCounted : Type 0
StepsAreCounted =
    (plan : Plan) (p q : Point) (lanes : List ℕ)
    → length p.at ≡ length plan
    → Order plan p lanes q
    → steps q.at ≡ steps p.at + length lanes

-- a wait is lost exactly where it pends and is lost wherever one lane leads: one pass over the points, the last first, tells of each
abbrev pub LossesComeBackwards : Type 0
LossesComeBackwards =
    (plan : Plan) (p : Point) (t : ℕ)
    → IsLost plan p t ↔ ((pends p.state t ≡ true) × ((lane : ℕ) (q : Point) → Goes plan p lane q → IsLost plan q t))
