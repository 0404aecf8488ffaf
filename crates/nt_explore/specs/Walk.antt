-- The states that a search met, in its table, and how they are found by their hashes. No public clause cites this module.
use Rattle.std.specs.Prelude.{Contains, ◌⊎◌, true, false, Option, None, Some, ◌≡◌, ◌≢◌, ◌<◌, ◌≤◌, ◌+◌, ◌-◌, ◌%◌, ℕ, zero, suc, Bool, List, [], ◌∷◌, length, slice_index, slice_index_or, slice_set, nat_lt, if◌then◌else◌}
use Rattle.nt_calls.specs.State.{State, pends}
use Rattle.nt_look.specs.Hangs.{marked}
use Rattle.nt_look.specs.Orders.{Plan, Point, Goes, steps}
use Rattle.nt_explore.specs.Search.{AreDistinct, CanGo, CountsTo, IsOneIf}
use Rattle.nt_lanes.specs.Lanes.{TriedGoes}
use Rattle.nt_explore.specs.Hash.{hash_of}
use Rattle.nt_explore.specs.declared.loss.Edge.{Edge}
use Rattle.nt_explore.specs.declared.met.Visit.{Visit}

-- these lanes went, the last first
abbrev pub Arrives : Plan → Point → List ℕ → Point → Type 0
Arrives plan start [] p = p ≡ start
Arrives plan start (lane ∷ lanes) p = (mid : Point) × Arrives plan start lanes mid × Goes plan mid lane p

-- what is read past the last visit
abbrev pub no_visit : Visit
no_visit = record { hash = 0; lane = 0; parent = 0 }

abbrev pub parent_of : List Visit → ℕ → ℕ
parent_of visits i = (slice_index_or visits i no_visit).parent

abbrev pub lane_of : List Visit → ℕ → ℕ
lane_of visits i = (slice_index_or visits i no_visit).lane

abbrev pub hash_at : List Visit → ℕ → ℕ
hash_at visits i = (slice_index_or visits i no_visit).hash

-- each state but the first came from one before it
abbrev pub AreBehind : List Visit → Type 0
AreBehind visits = (i : ℕ) → 0 < i → i < length visits → parent_of visits i < i

-- these are the points that were met, no two the same: the first is the start, and each other one came from its parent by its lane,
-- and has its hash
pub record IsWalk (plan : Plan) (start : Point) (visits : List Visit) (point : ℕ → Point) : Type 0 where
  pub some : 0 < length visits
  pub first : point 0 ≡ start
  pub behind : AreBehind visits
  pub wide : (i : ℕ) → i < length visits → length (point i).at ≡ length plan
  pub came : (i : ℕ) → 0 < i → i < length visits → Goes plan (point (parent_of visits i)) (lane_of visits i) (point i)
  pub hashed : (i : ℕ) → 0 < i → i < length visits → hash_at visits i ≡ hash_of (point i)
  pub differ : AreDistinct point (length visits)

-- the same points, and perhaps more
pub record Grows (plan : Plan) (start : Point) (old new : List Visit) (point points : ℕ → Point) : Type 0 where
  pub walk : IsWalk plan start new points
  pub longer : length old ≤ length new
  pub same : (i : ℕ) → i < length old → points i ≡ point i

-- one of the points is this one
abbrev pub HasPoint : List Visit → (ℕ → Point) → Point → Type 0
HasPoint visits point p = (j : ℕ) × (j < length visits) × (point j ≡ p)

-- whether the lane went, and where it led
abbrev pub Went : Plan → Point → ℕ → Bool → Point → Type 0
Went plan old lane true new = Goes plan old lane new
Went plan old lane false new = (new ≡ old) × ((q : Point) → Goes plan old lane q → ⊥)

-- one state is as long as there are lanes
abbrev pub IsWide : Plan → Point → Type 0
IsWide plan p = length p.at ≡ length plan

-- if the visit has this hash, it is not this point's
abbrev pub IsOther : Plan → Point → List Visit → ℕ → Point → ℕ → Type 0
IsOther plan start visits hash p i =
    i < length visits → hash_at visits i ≡ hash → (point : ℕ → Point) → IsWalk plan start visits point → point i ≢ p

-- what was found by this hash is this point; and where nothing was, none is, but perhaps the start
abbrev pub IsFound : Plan → Point → List Visit → ℕ → Point → Option ℕ → Type 0
IsFound plan start visits hash p None = (i : ℕ) → 0 < i → IsOther plan start visits hash p i
IsFound plan start visits hash p (Some j) = (j < length visits) × ((point : ℕ → Point) → IsWalk plan start visits point → point j ≡ p)

-- from a state to one to which a lane leads
abbrev pub edge : ℕ → ℕ → Edge
edge from to = record { from = from; to = to }

-- the edges stand in the order of the states that they lead from
abbrev pub Rises : List Edge → Type 0
Rises [] = Unit {0}
Rises (e ∷ es) = ((f : Edge) → Contains es f → e.from ≤ f.from) × Rises es

-- to the edges came those from this point, to where these lanes lead, but not those that are not tried
pub record Leads (plan : Plan) (kinds : List ℕ) (p : Point) (index states : ℕ) (points : ℕ → Point) (tried : ℕ → Type 0) (old new : List Edge) : Type 0 where
  pub kept : (e : Edge) → Contains old e → Contains new e
  pub goes : (e : Edge) → Contains new e → Contains old e ⊎ ((e.from ≡ index) × (e.to < states) × (lane : ℕ) × Goes plan p lane (points e.to))
  pub rises : Rises old → ((e : Edge) → Contains old e → e.from ≤ index) → Rises new
  pub all : (lane : ℕ) (q : Point) → tried lane → TriedGoes plan kinds p lane q → (e : Edge) × Contains new e × (e.from ≡ index) × (e.to < states) × (points e.to ≡ q)

-- the lane leads to this point, which is one of them now
pub record Meets (plan : Plan) (start : Point) (old new : List Visit) (p : Point) (j : ℕ) (point : ℕ → Point) : Type 0 where
  pub points : ℕ → Point
  pub grows : Grows plan start old new point points
  pub there : j < length new
  pub is : points j ≡ p
  pub deep : (i : ℕ) → length old ≤ i → i < length new → points i ≡ p

-- a lane that is tried leads from the one point to the other
abbrev pub CanGoTo : Plan → List ℕ → Point → Point → Type 0
CanGoTo plan kinds p q = (lane : ℕ) × TriedGoes plan kinds p lane q

-- each of the first lanes that is tried leads from this point to one of them
pub record Tries (plan : Plan) (kinds : List ℕ) (start : Point) (old new : List Visit) (pairs more : List Edge) (p : Point) (index lanes : ℕ) (point : ℕ → Point) : Type 0 where
  pub points : ℕ → Point
  pub grows : Grows plan start old new point points
  pub deep : (i : ℕ) → length old ≤ i → i < length new → steps (points i).at ≡ steps p.at + 1
  pub came : (i : ℕ) → length old ≤ i → i < length new → CanGoTo plan kinds p (points i)
  pub tried : (lane : ℕ) (q : Point) → lane < lanes → TriedGoes plan kinds p lane q → HasPoint new points q
  pub leads : Leads plan kinds p index (length new) points (λ lane. lane < lanes) pairs more
  pub count : (steps : ℕ) × CountsTo (CanGo plan kinds p) lanes steps × (length more ≡ length pairs + steps)

-- one more lane leads from this point to one of them, if it is tried
pub record TriesLane (plan : Plan) (kinds : List ℕ) (start : Point) (old new : List Visit) (pairs more : List Edge) (p : Point) (index lane : ℕ) (point : ℕ → Point) : Type 0 where
  pub points : ℕ → Point
  pub grows : Grows plan start old new point points
  pub deep : (i : ℕ) → length old ≤ i → i < length new → steps (points i).at ≡ steps p.at + 1
  pub came : (i : ℕ) → length old ≤ i → i < length new → CanGoTo plan kinds p (points i)
  pub tried : (q : Point) → TriedGoes plan kinds p lane q → HasPoint new points q
  pub leads : Leads plan kinds p index (length new) points (λ l. l ≡ lane) pairs more
  pub count : (steps : ℕ) × IsOneIf (CanGo plan kinds p lane) steps × (length more ≡ length pairs + steps)

-- one of these threads waits
abbrev pub WaitsAmong : State → List Bool → Type 0
WaitsAmong s among = (t : ℕ) × (marked among t ≡ true) × (pends s t ≡ true)

-- none of them does
abbrev pub NoneWaitsAmong : State → List Bool → Type 0
NoneWaitsAmong s among = (t : ℕ) → t < s.threads → marked among t ≡ true → pends s t ≡ true → ⊥

-- a lane that leads anywhere leads to this point
abbrev pub GoesOn : Plan → Point → ℕ → Point → Type 0
GoesOn plan old lane new = (q : Point) → Goes plan old lane q → Goes plan old lane new

-- whatever points were met, the one to which the lane leads from the parent is one of them now
abbrev pub MeetsFrom : Plan → Point → (old new : List Visit) → ℕ → ℕ → Point → ℕ → Type 0
MeetsFrom plan start old new parent lane p j =
    (point : ℕ → Point) → IsWalk plan start old point → Goes plan (point parent) lane p → Meets plan start old new p j point

-- whatever points were met, each of the first lanes is tried from the one with this number, which is this one, or stands alike with a lower one
abbrev pub TriesAt : Plan → List ℕ → Point → (old new : List Visit) → (pairs more : List Edge) → Point → ℕ → ℕ → Type 0
TriesAt plan kinds start old new pairs more p index lanes =
    (point : ℕ → Point) → IsWalk plan start old point → point index ≡ p → Tries plan kinds start old new pairs more p index lanes point

-- the same of one lane more
abbrev pub TriesLaneAt : Plan → List ℕ → Point → (old new : List Visit) → (pairs more : List Edge) → Point → ℕ → ℕ → Type 0
TriesLaneAt plan kinds start old new pairs more p index lane =
    (point : ℕ → Point) → IsWalk plan start old point → point index ≡ p → TriesLane plan kinds start old new pairs more p index lane point

-- the same of one that leads to this point
abbrev pub TriesLaneTo : Plan → Point → (old new : List Visit) → (pairs more : List Edge) → ℕ → ℕ → Point → Type 0
TriesLaneTo plan start old new pairs more index lane next =
    (kinds : List ℕ) (p : Point) → IsWide plan p → (point : ℕ → Point) → IsWalk plan start old point → point index ≡ p → TriedGoes plan kinds p lane next
    → TriesLane plan kinds start old new pairs more p index lane point

-- where the lane leads, if it is tried and goes
abbrev pub LeadsTo : Plan → List ℕ → Point → ℕ → Option Point → Type 0
LeadsTo plan kinds p lane None = (q : Point) → TriedGoes plan kinds p lane q → ⊥
LeadsTo plan kinds p lane (Some next) = TriedGoes plan kinds p lane next

-- ---- how they are found by their hashes

-- the slot so many steps after this one, of so many: the first comes after the last
abbrev pub slot_from : ℕ → ℕ → ℕ → ℕ
slot_from first step count = if nat_lt step (count - first) then first + step else step - (count - first)

-- the same after the hash's own
abbrev pub slot_after : ℕ → ℕ → ℕ → ℕ
slot_after hash step count = slot_from (hash % count) step count

-- what stands there
abbrev pub slot_at : List ℕ → ℕ → ℕ → ℕ → ℕ
slot_at slots count hash step = slice_index slots (slot_after hash step count)

-- no slot is free before this one
abbrev pub NoneFree : List ℕ → ℕ → ℕ → ℕ → Type 0
NoneFree slots count hash step = (k : ℕ) → k < step → slot_at slots count hash k ≢ 0

-- the number stands in a slot, and none from the hash's own on is free before it
abbrev pub StandsIn : List ℕ → ℕ → ℕ → ℕ → Type 0
StandsIn slots count hash number = (step : ℕ) × (step < count) × (slot_at slots count hash step ≡ number) × NoneFree slots count hash step

-- the number was put into the first free slot from the hash's own on
abbrev pub PutsIn : List ℕ → List ℕ → ℕ → ℕ → ℕ → Type 0
PutsIn old new count hash number =
    (step : ℕ) × (step < count) × (slot_at old count hash step ≡ 0) × NoneFree old count hash step
    × (new ≡ slice_set old (slot_after hash step count) number)

-- how many slots are not free
abbrev pub used : List ℕ → ℕ
used [] = 0
used (zero ∷ slots) = used slots
used (suc number ∷ slots) = used slots + 1

-- of the first n states, each but the start stands in the slots
abbrev pub AreInSlots : List Visit → ℕ → List ℕ → Type 0
AreInSlots visits n slots = (i : ℕ) → 0 < i → i < n → StandsIn slots (length slots) (hash_at visits i) (i + 1)

-- the states that were met, and the slots in which they stand
pub record IsTable (visits : List Visit) (slots : List ℕ) : Type 0 where
  pub behind : AreBehind visits
  pub stands : AreInSlots visits (length visits) slots
  pub few : used slots ≤ length visits
