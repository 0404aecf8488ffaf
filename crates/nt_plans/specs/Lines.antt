-- What the lines of a script are: what is made before all calls, and what goes when its lane does.
use Rattle.std.specs.Prelude.{◌≡◌, ℕ, ◌<◌, ◌||◌, Bool, true, false, not, nat_le, List, length, count_by, Option, None, Some}
use Rattle.nt_calls.specs.State.{State}
use Rattle.nt_calls.specs.declared.call.Act.{Act}
use Rattle.nt_look.specs.Orders.{Ask, Calls, Passes}
use Rattle.nt_script.specs.Progress.{Progress}
use Rattle.nt_grammar.specs.Lines.{IsLine}
use Rattle.nt_grammar.specs.declared.parser.Statement.{Statement}
use Rattle.nt_grammar.specs.declared.parser.Statement.TheVariants.{Blank, Create, Perform, Tick}
use Rattle.nt_plans.specs.Gates.{Gates, Item, MakesUnnamed, is_among, is_late}
use Rattle.nt_plans.specs.declared.items.Creation.{Creation}

-- ---- what is made before all calls

-- the handle that the act makes another one of
abbrev pub source_of : Act → Option ℕ
source_of (Act.Duplicate handle access) = Some handle
source_of act = None

-- what ended on the lines above: the handles that they close, and the threads that exit there
pub record Ended : Type 0 where
  pub closed : List ℕ
  pub exited : List ℕ

-- the creation is refused in each order: its thread has exited, or what it makes another handle of is closed
abbrev pub is_refused : Ended → (who : ℕ) → (source : Option ℕ) → Bool
is_refused ended who source = is_among ended.exited (Some who) || is_among ended.closed source

-- the statement creates something, and is not refused so; or it says nothing
abbrev pub is_of_start : Ended → Statement → Bool
is_of_start ended Blank = true
is_of_start ended (Create who name act) = not (is_refused ended who (source_of act))
is_of_start ended (Perform who call) = false
is_of_start ended (Tick moment) = false

-- the statement is a creation that is refused so, and makes nothing; or a call of a thread that has exited
abbrev pub is_left_out : Ended → Statement → Bool
is_left_out ended Blank = false
is_left_out ended (Create who name act) = is_refused ended who (source_of act)
is_left_out ended (Perform who call) = is_among ended.exited (Some who)
is_left_out ended (Tick moment) = false

-- the line is such a statement
abbrev pub IsLineThat : Option Progress → (Statement → Bool) → List ℕ → Type 0
IsLineThat None is bytes = ⊥
IsLineThat (Some now) is bytes = (statement : Statement) × IsLine now.scope statement bytes × (is statement ≡ true)

-- whose creation a statement is, and what it makes another handle of
abbrev pub creation_of : Statement → Option Creation
creation_of Blank = None
creation_of (Create who name act) = Some (record { who = who; source = source_of act })
creation_of (Perform who call) = None
creation_of (Tick moment) = None

-- The line is carried out before all calls, wherever it stands: one up to the `threads` line; or one that says nothing, or creates something.
abbrev pub IsOfStart : Option Progress → Ended → List ℕ → Option Creation → Type 0
IsOfStart None ended bytes creation = creation ≡ None
IsOfStart (Some now) ended bytes creation =
    (statement : Statement) × IsLine now.scope statement bytes × (is_of_start ended statement ≡ true) × (creation ≡ creation_of statement)

-- What a statement asks of a lane, where there are so many threads: a call is asked of its caller's, unless that has exited, and a tick of the lane after
-- theirs.
abbrev pub AsksOf : ℕ → Ended → Statement → ℕ → Ask → Type 0
AsksOf threads ended Blank lane ask = ⊥
AsksOf threads ended (Create who name act) lane ask = ⊥
AsksOf threads ended (Perform who call) lane ask = (who < threads) × (is_among ended.exited (Some who) ≡ false) × (lane ≡ who) × (ask ≡ Calls call)
AsksOf threads ended (Tick moment) lane ask = (lane ≡ threads) × (ask ≡ Passes moment)

-- The line asks this of this lane.
abbrev pub IsOfLane : Option Progress → Ended → List ℕ → ℕ → Ask → Type 0
IsOfLane None ended bytes lane ask = ⊥
IsOfLane (Some now) ended bytes lane ask =
    (statement : Statement) × IsLine now.scope statement bytes × AsksOf now.state.threads ended statement lane ask

-- ---- faults

-- it is a call of a thread that is none of so many
abbrev pub is_of_nobody : ℕ → Statement → Bool
is_of_nobody threads Blank = false
is_of_nobody threads (Create who name act) = false
is_of_nobody threads (Perform who call) = nat_le threads who
is_of_nobody threads (Tick moment) = false

-- the line is such a call
abbrev pub IsOfNobody : Option Progress → List ℕ → Type 0
IsOfNobody None bytes = ⊥
IsOfNobody (Some now) bytes = IsLineThat (Some now) (is_of_nobody now.state.threads) bytes

-- ---- gates and claims

-- In the state to which what a script creates leads, a gate is made for each late creation, and then a claim for each; and then the state is this one.
pub record AreGates (start : State) (items : List Item) (gates : Gates) (s : State) : Type 0 where
  pub mid : State
  pub gated : MakesUnnamed items start gates.gates mid
  pub claimed : MakesUnnamed items mid gates.claims s
  pub each : length gates.gates ≡ count_by is_late items
  pub both : length gates.claims ≡ count_by is_late items
