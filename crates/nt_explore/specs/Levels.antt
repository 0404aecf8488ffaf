-- How far a search is. No public clause cites this module.
use Rattle.std.specs.Prelude.{Contains, [], ◌∷◌, ◌*◌, if◌then◌else◌, slice_set, nat_lt, ◌≡◌, ◌<◌, ◌≤◌, ◌+◌, ℕ, Bool, true, false, List, length, Option, None, Some}
use Rattle.nt_calls.specs.State.{State, pends}
use Rattle.nt_machine.specs.Dispatcher.{Dispatcher}
use Rattle.nt_look.specs.Hangs.{marked}
use Rattle.nt_look.specs.Orders.{Plan, Point, Goes, Hangs, IsLost, steps}
use Rattle.nt_apart.specs.Fewer.{IsLowestChosen}
use Rattle.nt_lanes.specs.Lanes.{TriedGoes, is_tried, beginning, start_of}
use Rattle.nt_explore.specs.declared.loss.Edge.{Edge}
use Rattle.nt_explore.specs.declared.loss.Edges.{Edges}
use Rattle.nt_explore.specs.declared.met.Visit.{Visit}
use Rattle.nt_explore.specs.declared.search.OrderVerdict.{OrderVerdict}
use Rattle.nt_explore.specs.declared.search.OrderVerdict.TheVariants as verdict
use Rattle.nt_explore.specs.declared.search.Counts.{Counts}
use Rattle.nt_explore.specs.Search.{AreMetInTurn, AreCounts}
use Rattle.nt_explore.specs.Walk.{IsWalk, HasPoint, Rises, Arrives}

-- the first that hangs, of those that were looked at
abbrev pub IsFirst : Plan → (ℕ → Point) → ℕ → Option ℕ → Type 0
IsFirst plan point looked None = (i : ℕ) → i < looked → Hangs plan (point i) → ⊥
IsFirst plan point looked (Some h) = (h < looked) × Hangs plan (point h) × ((i : ℕ) → i < h → Hangs plan (point i) → ⊥)

-- the points in the order of their depths: with each that was looked at all to which a lane that is tried leads, and the first that hangs
pub record AreLooked (plan : Plan) (kinds : List ℕ) (start : Point) (visits : List Visit) (looked : ℕ) (first : Option ℕ) (point : ℕ → Point) : Type 0 where
  pub walk : IsWalk plan start visits point
  pub within : looked ≤ length visits
  pub rising : (i j : ℕ) → i ≤ j → j < length visits → steps (point i).at ≤ steps (point j).at
  pub near : (j : ℕ) → looked < length visits → j < length visits → steps (point j).at ≤ steps (point looked).at + 1
  pub closed : (i lane : ℕ) (q : Point) → i < looked → TriedGoes plan kinds (point i) lane q → HasPoint visits point q
  pub lowest : (i : ℕ) → i < looked → IsLowestChosen plan (point i) (is_tried kinds (point i))
  pub told : IsFirst plan point looked first

-- a lane leads from the one, which was looked at, to the other
abbrev pub IsEdge : Plan → (ℕ → Point) → ℕ → ℕ → Edge → Type 0
IsEdge plan point looked states e = (e.from < looked) × (e.to < states) × (lane : ℕ) × Goes plan (point e.from) lane (point e.to)

-- of each point that was looked at, where the lanes lead that are tried, and who waits there
pub record AreEdges (plan : Plan) (kinds : List ℕ) (threads : ℕ) (pairs : List Edge) (waits : List Bool) (looked states : ℕ) (point : ℕ → Point) : Type 0 where
  pub goes : (e : Edge) → Contains pairs e → IsEdge plan point looked states e
  pub rises : Rises pairs
  pub all : (i lane : ℕ) (q : Point) → i < looked → TriedGoes plan kinds (point i) lane q → (e : Edge) × Contains pairs e × (e.from ≡ i) × (point e.to ≡ q)
  pub first : (point 0).state.threads ≡ threads
  pub count : length waits ≡ threads * looked
  pub told : (i t : ℕ) → i < looked → t < threads → marked waits (i * threads + t) ≡ pends (point i).state t
  pub known : (i t : ℕ) → i < looked → pends (point i).state t ≡ true → t < threads

-- at this point a wait is lost, if there is one
abbrev pub IsLostThere : Plan → (ℕ → Point) → Option ℕ → Type 0
IsLostThere plan point None = Unit {0}
IsLostThere plan point (Some h) = (t : ℕ) × IsLost plan (point h) t

-- so far the search is
abbrev pub IsSearch : Plan → List ℕ → Point → List Visit → Edges → ℕ → Option ℕ → Type 0
IsSearch plan kinds start visits edges looked first =
    (point : ℕ → Point)
    × AreLooked plan kinds start visits looked first point
    × AreEdges plan kinds edges.threads edges.pairs.items edges.waits.items looked (length visits) point
    × IsLostThere plan point first

-- which points each look met, and the counts of them
pub record AreMet (plan : Plan) (kinds : List ℕ) (start : Point) (looked states steps hangs : ℕ) (point : ℕ → Point) (met : ℕ → ℕ) : Type 0 where
  pub turns : AreMetInTurn plan kinds start point met looked
  pub counts : AreCounts plan kinds point looked (met looked) states steps hangs
  pub low : (i : ℕ) → i ≤ looked → met i ≤ states

-- so far the search is, with its counts
abbrev pub IsCounted : Plan → List ℕ → Point → List Visit → Edges → ℕ → Counts → (ℕ → ℕ) → Type 0
IsCounted plan kinds start visits edges looked counts met =
    (search : IsSearch plan kinds start visits edges looked counts.first)
    × AreMet plan kinds start looked (length visits) (length edges.pairs.items) counts.hangs search.0 met

-- the same up to the looks so far, and after one more this many states are met
abbrev pub then_met : (ℕ → ℕ) → ℕ → ℕ → ℕ → ℕ
then_met met looked states i = if nat_lt looked i then states else met i

-- one state more was looked at, of a search from this dispatcher
abbrev pub LooksOn : Plan → List ℕ → Dispatcher → (old new : List Visit) → (edges more : Edges) → ℕ → (counts counts' : Counts) → Type 0
LooksOn plan kinds core old new edges more looked counts counts' =
    (met : ℕ → ℕ) → IsCounted plan kinds (start_of plan core) old edges looked counts met
    → IsCounted plan kinds (start_of plan core) new more (looked + 1) counts' (then_met met looked (length new))

-- it is so of every search that came so far
abbrev pub OfSearch : List Visit → Edges → ℕ → Option ℕ → (Plan → Point → Type 0) → Type 0
OfSearch visits edges looked first so = (plan : Plan) (kinds : List ℕ) (s : State) → IsSearch plan kinds (beginning plan s) visits edges looked first → so plan (beginning plan s)

-- it is so of the points of every search that looked at all of so many states
abbrev pub OfLooked : ℕ → Edges → (Plan → (ℕ → Point) → Type 0) → Type 0
OfLooked states edges so =
    (plan : Plan) (kinds : List ℕ) (start : Point) (visits : List Visit) (first : Option ℕ) (point : ℕ → Point)
    → length visits ≡ states → AreLooked plan kinds start visits states first point
    → AreEdges plan kinds edges.threads edges.pairs.items edges.waits.items states states point → so plan point

-- the thread's wait is lost at this point, and at none before it
abbrev pub IsFirstLost : Plan → (ℕ → Point) → ℕ → ℕ → Option ℕ → Type 0
IsFirstLost plan point states t None = (j : ℕ) → j < states → IsLost plan (point j) t → ⊥
IsFirstLost plan point states t (Some h) = (h < states) × IsLost plan (point h) t × ((j : ℕ) → j < h → IsLost plan (point j) t → ⊥)

-- the wait of a thread, of so many, is lost at this point, and none at one before it
abbrev pub IsFirstLoss : Plan → (ℕ → Point) → ℕ → ℕ → Option (ℕ × ℕ) → Type 0
IsFirstLoss plan point states threads None = (j t : ℕ) → j < states → t < threads → IsLost plan (point j) t → ⊥
IsFirstLoss plan point states threads (Some (h, u)) =
    (h < states) × IsLost plan (point h) u × ((j t : ℕ) → j < h → t < threads → IsLost plan (point j) t → ⊥)

-- the marks without that of a state that leads to one with none
abbrev pub kept : Edge → List Bool → List Bool
kept e lost = if marked lost e.to then lost else slice_set lost e.from false

-- the same of each edge, the last first
abbrev pub passed : List Edge → List Bool → List Bool
passed [] lost = lost
passed (e ∷ es) lost = kept e (passed es lost)

-- a row more, of who waits
pub record IsRow (old new : List Bool) (threads : ℕ) (s : State) : Type 0 where
  pub count : length new ≡ length old + threads
  pub before : (i : ℕ) → i < length old → marked new i ≡ marked old i
  pub row : (t : ℕ) → t < threads → marked new (length old + t) ≡ pends s t

-- one thread's of the rows
pub record IsColumn (rows column : List Bool) (threads states t : ℕ) : Type 0 where
  pub count : length column ≡ states
  pub told : (i : ℕ) → i < states → marked column i ≡ marked rows (i * threads + t)

-- the first mark
abbrev pub IsFirstMark : List Bool → Option ℕ → Type 0
IsFirstMark marks None = (i : ℕ) → marked marks i ≡ false
IsFirstMark marks (Some h) = (h < length marks) × (marked marks h ≡ true) × ((i : ℕ) → i < h → marked marks i ≡ false)

-- the earlier of the two
abbrev pub earlier : Option (ℕ × ℕ) → Option ℕ → ℕ → Option (ℕ × ℕ)
earlier best None t = best
earlier None (Some h) t = Some (h, t)
earlier (Some (first, u)) (Some h) t = if nat_lt h first then Some (h, t) else Some (first, u)

-- one more where it is so
abbrev pub one_more_if : Bool → ℕ → ℕ
one_more_if true count = count + 1
one_more_if false count = count

-- where the bound is reported, none hangs and a state is left, which lies a step deeper than the level
abbrev pub LiesAt : List Visit → ℕ → Option ℕ → OrderVerdict → Type 0
LiesAt visits looked first (verdict.Met level) =
    (first ≡ None) × (looked < length visits)
    × (way : List ℕ) × (length way ≡ level + 1)
    × ((plan : Plan) (start : Point) (point : ℕ → Point) → IsWalk plan start visits point → Arrives plan start way (point looked))
LiesAt visits looked first verdict.None = Unit {0}
LiesAt visits looked first (verdict.Hangs lanes loss) = Unit {0}

-- the first that hangs, where the next one hangs or does not
abbrev pub first_then : Bool → ℕ → Option ℕ → Option ℕ
first_then true i None = Some i
first_then false i None = None
first_then hung i (Some h) = Some h
