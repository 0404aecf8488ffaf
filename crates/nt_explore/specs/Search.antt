-- What a search of all orders tells.
use Rattle.std.specs.Prelude.{◌≡◌, ◌≢◌, ◌<◌, ◌≤◌, ◌⊎◌, ◌+◌, ℕ, zero, suc, List, length, Option, Some, None, IsSome}
use Rattle.nt_look.specs.Orders.{Plan, Point, Hangs, Order, NoneHangs, NoneHangsWithin, IsShortestHang, IsShortestLoss}
use Rattle.nt_apart.specs.Fewer.{IsLowestChosen}
use Rattle.nt_lanes.specs.Lanes.{AreKinds, TriedGoes, is_tried}
use Rattle.nt_explore.specs.declared.search.Explored.{Explored}
use Rattle.nt_explore.specs.declared.search.Loss.{Loss}
use Rattle.nt_explore.specs.declared.search.OrderVerdict.{OrderVerdict}
use Rattle.nt_explore.specs.declared.search.OrderVerdict.TheVariants as verdict

-- since when a wait was lost, where that is told
abbrev pub TellsLoss : Plan → Point → Option Loss → Type 0
TellsLoss plan start (Some loss) = IsShortestLoss plan start loss.lanes.items loss.thread
TellsLoss plan start None = Unit {0}

-- where an order hangs, a loss is told
abbrev pub HasLoss : OrderVerdict → Type 0
HasLoss (verdict.Hangs lanes loss) = IsSome loss
HasLoss verdict.None = Unit {0}
HasLoss (verdict.Met level) = Unit {0}

-- what a verdict says of all orders from here
abbrev pub TellsVerdict : Plan → Point → OrderVerdict → Type 0
TellsVerdict plan start (verdict.Hangs lanes loss) = IsShortestHang plan start lanes.items × TellsLoss plan start loss
TellsVerdict plan start verdict.None = NoneHangs plan start
TellsVerdict plan start (verdict.Met level) = NoneHangsWithin plan start level

-- ---- how the search goes

-- no two of the first n are the same
abbrev pub AreDistinct : (ℕ → Point) → ℕ → Type 0
AreDistinct point n = (i j : ℕ) → i < j → j < n → point i ≢ point j

-- the points are looked at in turn, the start first, and a look meets each point to which a lane that is tried leads from there, and no other:
-- after i looks the first `met i` points are met, each once. A lane that is not tried stands alike with a lower one
pub record AreMetInTurn (plan : Plan) (kinds : List ℕ) (start : Point) (point : ℕ → Point) (met : ℕ → ℕ) (looked : ℕ) : Type 0 where
  pub first : point 0 ≡ start
  pub one : met 0 ≡ 1
  pub more : (i : ℕ) → i < looked → met i ≤ met (i + 1)
  pub leads : (i lane : ℕ) (q : Point) → i < looked → TriedGoes plan kinds (point i) lane q → (j : ℕ) × (j < met (i + 1)) × (point j ≡ q)
  pub lowest : (i : ℕ) → i < looked → IsLowestChosen plan (point i) (is_tried kinds (point i))
  pub came : (i j : ℕ) → i < looked → met i ≤ j → j < met (i + 1) → (lane : ℕ) × TriedGoes plan kinds (point i) lane (point j)
  pub once : AreDistinct point (met looked)

-- the search ends as soon as each point that was met was looked at, or more than `most` were met; it always looks at the start
pub record EndsAfter (most : ℕ) (met : ℕ → ℕ) (looked : ℕ) : Type 0 where
  pub some : 0 < looked
  pub left : (i : ℕ) → i < looked → i < met i
  pub few : (i : ℕ) → 0 < i → i < looked → met i ≤ most
  pub ends : (met looked ≡ looked) ⊎ (most < met looked)

-- a search on its way: it looked at this many points, each met before, and went on only while no more than `most` were met
pub record IsUnderWay (plan : Plan) (start : Point) (most : ℕ) (met : ℕ → ℕ) (looked : ℕ) : Type 0 where
  pub kinds : List ℕ
  pub alike : 0 < looked → AreKinds plan start.state.threads kinds
  pub point : ℕ → Point
  pub turns : AreMetInTurn plan kinds start point met looked
  pub left : (i : ℕ) → i < looked → i < met i
  pub few : (i : ℕ) → 0 < i → i < looked → met i ≤ most

-- ---- what is counted

-- 1 where it is so, and 0 where it is not
abbrev pub IsOneIf : Type 0 → ℕ → Type 0
IsOneIf so n = (so × (n ≡ 1)) ⊎ ((so → ⊥) × (n ≡ 0))

-- the sum of one number for each of the first n
abbrev pub SumsTo : (ℕ → ℕ → Type 0) → ℕ → ℕ → Type 0
SumsTo is zero sum = sum ≡ 0
SumsTo is (suc n) sum = (before : ℕ) × (last : ℕ) × SumsTo is n before × is n last × (sum ≡ before + last)

-- how many of the first n are so
abbrev pub CountsTo : (ℕ → Type 0) → ℕ → ℕ → Type 0
CountsTo so = SumsTo (λ i. IsOneIf (so i))

-- the lane is tried, and leads somewhere
abbrev pub CanGo : Plan → List ℕ → Point → ℕ → Type 0
CanGo plan kinds p lane = (q : Point) × TriedGoes plan kinds p lane q

-- how many points were met; and of those that were looked at, how many steps of lanes that are tried lead from them, and how many hang
pub record AreCounts (plan : Plan) (kinds : List ℕ) (point : ℕ → Point) (looked met states steps hangs : ℕ) : Type 0 where
  pub of_states : states ≡ met
  pub of_steps : SumsTo (λ i. CountsTo (CanGo plan kinds (point i)) (length plan)) looked steps
  pub of_hangs : CountsTo (λ i. Hangs plan (point i)) looked hangs

-- ---- what is reported

-- more than `most` states were met and not all were looked at, none of those hangs, and the next one lies a step deeper than the level
pub record IsBoundMet (plan : Plan) (start next : Point) (most looked level states hangs : ℕ) : Type 0 where
  pub many : most < states
  pub left : looked < states
  pub none : hangs ≡ 0
  pub deep : (lanes : List ℕ) × (length lanes ≡ level + 1) × Order plan start lanes next

-- that the bound was met is reported only where it was
abbrev pub TellsBound : Plan → (start next : Point) → (most looked states hangs : ℕ) → OrderVerdict → Type 0
TellsBound plan start next most looked states hangs (verdict.Met level) = IsBoundMet plan start next most looked level states hangs
TellsBound plan start next most looked states hangs verdict.None = Unit {0}
TellsBound plan start next most looked states hangs (verdict.Hangs lanes loss) = Unit {0}

-- the report of a search that looked at this many points
pub record TellsSearch (plan : Plan) (start : Point) (most : ℕ) (met : ℕ → ℕ) (looked : ℕ) (told : Explored) : Type 0 where
  pub kinds : List ℕ
  pub alike : AreKinds plan start.state.threads kinds
  pub point : ℕ → Point
  pub turns : AreMetInTurn plan kinds start point met looked
  pub ends : EndsAfter most met looked
  pub counts : AreCounts plan kinds point looked (met looked) told.states told.steps told.hangs
  pub bound : TellsBound plan start (point looked) most looked told.states told.hangs told.verdict

-- after each look the watcher learns how many points were looked at, and how many met
abbrev pub Learns : {W : Type 0} → (W → ℕ → ℕ → W → Type 0) → (ℕ → ℕ) → ℕ → W → W → Type 0
Learns learns met zero old new = new ≡ old
Learns {W} learns met (suc n) old new = (mid : W) × Learns learns met n old mid × learns mid (suc n) (met (suc n)) new
