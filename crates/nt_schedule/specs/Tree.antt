-- The tree of choices of a program's runs, and a search that asks for its paths one after another.
use Rattle.std.specs.Prelude.{◌≡◌, ◌⊎◌, ℕ, ◌+◌, ◌-◌, ◌<◌, ◌≤◌, nat_lt, nat_le, ◌||◌, List, [], ◌∷◌, ◌++◌, length, map, take, slice_index_or, Option, None, Some, if◌then◌else◌}
use Rattle.nt_schedule.specs.declared.tree.Node.{Node}
use Rattle.nt_schedule.specs.declared.tree.Branch.{Branch}

-- ---- a tree

-- what a run can choose among: so many choices, of which the first so many cost nothing, and each other one costs 1
pub record Fork : Type 0 where
  pub width : ℕ
  pub free : ℕ

abbrev pub cost : Fork → ℕ → ℕ
cost fork choice = if nat_lt choice fork.free then 0 else 1

-- A tree gives for the choices that were made what can be chosen next; a run ends where there is no choice. This is the tree below a choice.
abbrev pub below : (List ℕ → Fork) → ℕ → List ℕ → Fork
below tree choice = λ choices. tree (choice ∷ choices)

-- the usual choice costs nothing
abbrev pub UsualIsFree : (List ℕ → Fork) → Type 0
UsualIsFree tree = (choices : List ℕ) → 0 < (tree choices).free

-- these are the choices of a whole run
abbrev pub IsPath : (List ℕ → Fork) → List ℕ → Type 0
IsPath tree [] = (tree []).width ≡ 0
IsPath tree (choice ∷ choices) = (choice < (tree []).width) × IsPath (below tree choice) choices

-- what they cost
abbrev pub cost_of : (List ℕ → Fork) → List ℕ → ℕ
cost_of tree [] = 0
cost_of tree (choice ∷ choices) = cost (tree []) choice + cost_of (below tree choice) choices

-- a whole run whose cost is within the bound
pub record IsWithin (tree : List ℕ → Fork) (bound : ℕ) (path : List ℕ) : Type 0 where
  pub whole : IsPath tree path
  pub cheap : cost_of tree path ≤ bound

-- the first path comes before the second, in the order of dictionaries
abbrev pub IsBefore : List ℕ → List ℕ → Type 0
IsBefore p [] = ⊥
IsBefore [] (y ∷ ys) = Unit {0}
IsBefore (x ∷ xs) (y ∷ ys) = (x < y) ⊎ ((x ≡ y) × IsBefore xs ys)

-- ---- runs

-- each choice is the usual one
abbrev pub AreUsual : List ℕ → Type 0
AreUsual [] = Unit {0}
AreUsual (choice ∷ choices) = (choice ≡ 0) × AreUsual choices

-- the path of a run for which these choices were asked: they come first, and then the usual one each time
abbrev pub IsAsked : List ℕ → List ℕ → Type 0
IsAsked [] path = AreUsual path
IsAsked (choice ∷ choices) [] = ⊥
IsAsked (choice ∷ choices) (first ∷ path) = (first ≡ choice) × IsAsked choices path

-- what a run notes along its path: at each step what could be chosen, what was spent before, and what was chosen
abbrev pub nodes_of : (List ℕ → Fork) → ℕ → List ℕ → List Node
nodes_of tree spent [] = []
nodes_of tree spent (choice ∷ choices) =
    record { width = (tree []).width; free = (tree []).free; spent = spent; chosen = choice }
    ∷ nodes_of (below tree choice) (spent + cost (tree []) choice) choices

-- ---- what is asked for next

-- the next choice after the one that was made, if it costs nothing or the bound allows it
abbrev pub after : ℕ → Node → Option ℕ
after bound node =
    if nat_le node.width 1 || nat_le (node.width - 1) node.chosen then None
    else if nat_lt (node.chosen + 1) node.free || nat_lt node.spent bound then Some (node.chosen + 1)
    else None

-- what stands at a place past the path
abbrev pub no_node : Node
no_node = record { width = 0; free = 0; spent = 0; chosen = 0 }

abbrev pub node_at : List Node → ℕ → Node
node_at path at = slice_index_or path at no_node

abbrev pub chosen : Node → ℕ
chosen node = node.chosen

-- the choices before the branch, and the branch's
abbrev pub prefix_of : List Node → Branch → List ℕ
prefix_of path branch = map chosen (take branch.at path) ++ branch.choice ∷ []

-- a step's choice, and those of a branch behind it; or its own next choice, where there is no branch behind it
abbrev pub deeper : Node → Option (List ℕ) → Option ℕ → Option (List ℕ)
deeper node (Some choices) next = Some (node.chosen ∷ choices)
deeper node None (Some choice) = Some (choice ∷ [])
deeper node None None = None

-- what is asked for after the run of this path: the last choice that has a next one is that one
abbrev pub next_prefix : ℕ → List Node → Option (List ℕ)
next_prefix bound [] = None
next_prefix bound (node ∷ path) = deeper node (next_prefix bound path) (after bound node)

-- ---- a search

-- The paths of a search's runs: `last` is that of the last one, and before it came these, the newest first. The first run is asked for
-- nothing, and each other one for what comes next after the run before it.
abbrev pub AreRuns : (List ℕ → Fork) → ℕ → List ℕ → List (List ℕ) → Type 0
AreRuns tree bound last [] = IsPath tree last × IsAsked [] last
AreRuns tree bound last (path ∷ paths) =
    (asked : List ℕ)
    × (next_prefix bound (nodes_of tree 0 path) ≡ Some asked)
    × IsPath tree last
    × IsAsked asked last
    × AreRuns tree bound path paths

-- the path is one of these
abbrev pub IsOneOf : List (List ℕ) → List ℕ → Type 0
IsOneOf [] path = ⊥
IsOneOf (first ∷ paths) path = (path ≡ first) ⊎ IsOneOf paths path

-- What was run is exactly what is within the bound and does not come after the last run's path. It came in order, so no path came twice; and
-- where nothing is asked for next, nothing is left.
pub record EachOnce (tree : List ℕ → Fork) (bound : ℕ) (last : List ℕ) (paths : List (List ℕ)) : Type 0 where
  pub within : IsWithin tree bound last
  pub all_within : (path : List ℕ) → IsOneOf paths path → IsWithin tree bound path
  pub in_order : (path : List ℕ) → IsOneOf paths path → IsBefore path last
  pub once : IsOneOf paths last → ⊥
  pub none_left_out : (path : List ℕ) → IsWithin tree bound path → IsOneOf (last ∷ paths) path ⊎ IsBefore last path
  pub at_end : next_prefix bound (nodes_of tree 0 last) ≡ None → (path : List ℕ) → IsWithin tree bound path → IsOneOf (last ∷ paths) path

-- however far a search has come, if a run is a function of what it was asked for
abbrev pub EachPathOnce : Type 0
EachPathOnce =
    (tree : List ℕ → Fork) (bound : ℕ) (last : List ℕ) (paths : List (List ℕ))
    → UsualIsFree tree → AreRuns tree bound last paths → EachOnce tree bound last paths

-- ---- a run that is another one

-- as many steps of the run were as asked
abbrev pub IsAsAsked : List Node → List Node → ℕ → Type 0
IsAsAsked asked ran steps = (k : ℕ) → k < steps → (k < length ran) × (node_at ran k ≡ node_at asked k)
