-- A script's lines as they are read: what is made before all calls, and which lines go when their lanes do; and then as a plan.
use Rattle.std.specs.Prelude.{◌≡◌, ◌⊎◌, ℕ, ◌+◌, ◌++◌, Bool, false, List, [], ◌∷◌, length, slice_get, slice_set, slice_index_or, replicate, Option, None, Some, is_some, if◌then◌else◌}
use Rattle.std.specs.List.{fold}
use Rattle.nt_calls.specs.State.{State}
use Rattle.nt_calls.specs.declared.call.Call.{Call}
use Rattle.nt_tables.specs.Handles.{opened_at}
use Rattle.nt_look.specs.Orders.{Ask, Calls, asks}
use Rattle.nt_lines.specs.Lines.{lines_of}
use Rattle.nt_script.specs.Progress.{Progress, scope_of}
use Rattle.nt_grammar.specs.Lines.{FaultIn}
use Rattle.nt_grammar.specs.Scope.{handle_in}
use Rattle.nt_grammar.specs.declared.fault.ScriptFault.TheVariants.{ThreadsExpected}
use Rattle.nt_script.specs.declared.fault.RunFault.TheVariants as run
use Rattle.nt_plans.specs.Gates.{close_lines, lost_by, tries_of, whole_line}
use Rattle.nt_plans.specs.Lines.{AreGates, Ended, IsLineThat, IsOfLane, IsOfNobody, IsOfStart, is_left_out}
use Rattle.nt_hangs.specs.Watching.{Seen, Sees, names_of, unseen}
use Rattle.nt_plans.specs.Gates.{Gates, Item, Lanes, Texts, closed_by, planned, race_of}
use Rattle.nt_plans.specs.Gates as gates
use Rattle.nt_orders.specs.declared.fault.OrdersFault.{OrdersFault}
use Rattle.nt_orders.specs.declared.fault.OrdersFault.TheVariants as orders
use Rattle.nt_plans.specs.declared.items.Creation.{Creation}

-- ---- all lines

-- how far a script was read: what was carried out before all calls, the text of these lines, those that go when their lanes do, and what these end
pub record Read : Type 0 where
  pub seen : Seen
  pub front : List ℕ
  pub items : List Item
  pub ended : Ended

-- nothing was read yet
abbrev pub unread : Read
unread = record { seen = unseen; front = []; items = []; ended = record { closed = []; exited = [] } }

-- the handle names something before all calls
abbrev pub is_open : Option Progress → ℕ → Bool
is_open None handle = false
is_open (Some now) handle = is_some (opened_at now.state.handles handle)

-- the closed handles, with this one if it was open
abbrev pub with_closed : Option Progress → List ℕ → Option ℕ → List ℕ
with_closed now closed None = closed
with_closed now closed (Some handle) = if is_open now handle then closed ++ handle ∷ [] else closed

-- the threads that exit, with the lane's if it is asked to
abbrev pub with_exited : List ℕ → ℕ → Ask → List ℕ
with_exited exited lane (Calls Call.Exit) = exited ++ lane ∷ []
with_exited exited lane ask = exited

-- what ended, with what ends where this is asked of the lane
abbrev pub with_ended : Option Progress → Ended → ℕ → Ask → Ended
with_ended now ended lane ask = record { closed = with_closed now ended.closed (closed_by ask); exited = with_exited ended.exited lane ask }

-- the handle that a creation between these gave a name, if it was not refused
abbrev pub given : (old new : Option Progress) → Option ℕ
given old new = handle_in (names_of new) (length (names_of old))

-- the creation on this line, with the handle that it gave
abbrev pub made_on : ℕ → List ℕ → Option Creation → Option ℕ → List Item
made_on number bytes None handle = []
made_on number bytes (Some creation) None = []
made_on number bytes (Some creation) (Some handle) =
    record { number = number; bytes = bytes; lane = creation.who; does = gates.Makes handle creation.source } ∷ []

-- these lines, and a creation after them: it goes when its lane does if a call or a tick stands above it
abbrev pub with_made : List Item → List Item → List Item
with_made [] made = []
with_made (item ∷ items) made = (item ∷ items) ++ made

-- A line is carried out before all calls; a creation may go when its lane does, too.
pub record IsInFront (number : ℕ) (bytes : List ℕ) (old new : Read) : Type 0 where
  pub creation : Option Creation
  pub line : IsOfStart old.seen.now old.ended bytes creation
  pub sees : Sees number bytes old.seen new.seen
  pub front : new.front ≡ old.front ++ whole_line bytes
  pub items : new.items ≡ with_made old.items (made_on number bytes creation (given old.seen.now new.seen.now))
  pub ended : new.ended ≡ old.ended

-- A line goes when its lane does.
pub record IsInLane (number : ℕ) (bytes : List ℕ) (old new : Read) : Type 0 where
  pub lane : ℕ
  pub ask : Ask
  pub line : IsOfLane old.seen.now old.ended bytes lane ask
  pub seen : new.seen ≡ old.seen
  pub front : new.front ≡ old.front
  pub items : new.items ≡ old.items ++ record { number = number; bytes = bytes; lane = lane; does = gates.Asks ask } ∷ []
  pub ended : new.ended ≡ with_ended old.seen.now old.ended lane ask

-- The line with this number is read: it is carried out before all calls, or goes when its lane does, or is left out.
abbrev pub Reads : ℕ → List ℕ → Read → Read → Type 0
Reads number bytes old new =
    IsInFront number bytes old new ⊎ (IsInLane number bytes old new ⊎ (IsLineThat old.seen.now (is_left_out old.ended) bytes × (new ≡ old)))

-- These lines, from this number on, are read, one after another.
abbrev pub ReadsAll : ℕ → Read → List (List ℕ) → Read → Type 0
ReadsAll number old [] new = new ≡ old
ReadsAll number old (bytes ∷ lines) new = (mid : Read) × Reads number bytes old mid × ReadsAll (number + 1) mid lines new

-- These are the lanes of the script's lines then, and no line names a number that a line below it gives.
pub record IsLaidOut (start : State) (items : List Item) (front : List ℕ) (lanes : Lanes) (s : State) : Type 0 where
  pub gates : Gates
  pub made : AreGates start items gates s
  pub apart : race_of items ≡ None
  pub planned : lanes ≡ planned start.threads gates front items

-- The script in these bytes is these lanes, from this state.
pub record IsPlanOf (input : List ℕ) (lanes : Lanes) (s : State) : Type 0 where
  pub read : Read
  pub now : Progress
  pub reads : ReadsAll 1 unread (lines_of input) read
  pub is : read.seen.now ≡ Some now
  pub laid : IsLaidOut now.state read.items read.front lanes s

-- This is the first line of the script in these bytes that gives a number which a line above it names.
pub record IsRaceIn (input : List ℕ) (line : ℕ) : Type 0 where
  pub read : Read
  pub reads : ReadsAll 1 unread (lines_of input) read
  pub first : race_of read.items ≡ Some line

-- ---- an order as a script

-- the text of the lines that went so far, how many of each lane those are, and what was closed where acts were tried
pub record Gone : Type 0 where
  pub text : List ℕ
  pub at : List ℕ
  pub closed : List ℕ

-- the line of the lane that goes next
abbrev pub next_line : Texts → List ℕ → ℕ → List ℕ
next_line texts at lane = slice_index_or (slice_index_or texts lane []) (slice_index_or at lane 0) []

-- what it asks
abbrev pub next_ask : Lanes → List ℕ → ℕ → Option Ask
next_ask lanes at lane = slice_get (asks lanes.plan lane) (slice_index_or at lane 0)

-- the lane goes: its next line follows, and then what it closes with a claim
abbrev pub gone_on : Lanes → Gone → ℕ → Gone
gone_on lanes gone lane = record {
  text = gone.text ++ whole_line (next_line lanes.texts gone.at lane) ++ close_lines lane (lost_by lanes.late gone.closed (next_ask lanes gone.at lane));
  at = slice_set gone.at lane (slice_index_or gone.at lane 0 + 1);
  closed = gone.closed ++ tries_of gone.closed (next_ask lanes gone.at lane);
}

-- no lane went yet, and the front stands before all
abbrev pub none_gone : Lanes → Gone
none_gone lanes = record { text = lanes.front; at = replicate (length lanes.texts) 0; closed = [] }

-- these lanes went, one after another
abbrev pub gone_all : Lanes → List ℕ → Gone
gone_all lanes order = fold (gone_on lanes) (none_gone lanes) order

-- after the front the lines of an order, each as it stands
abbrev pub order_text : Lanes → List ℕ → List ℕ
order_text lanes order = (gone_all lanes order).text

-- ---- faults

-- The line with this number can't be read: it has this first fault, or memory was refused to it; or there is no such thread.
abbrev pub IsUnreadable : Option Progress → ℕ → List ℕ → OrdersFault → Type 0
IsUnreadable now number bytes (orders.Run (run.Script line fault)) = (line ≡ number) × FaultIn (scope_of now) bytes fault
IsUnreadable now number bytes (orders.Run (run.Memory line)) = line ≡ number
IsUnreadable now number bytes (orders.Run (run.Read line)) = ⊥
IsUnreadable now number bytes (orders.Run (run.Write line)) = ⊥
IsUnreadable now number bytes (orders.NoThread line) = (line ≡ number) × IsOfNobody now bytes
IsUnreadable now number bytes (orders.Race line) = ⊥
IsUnreadable now number bytes orders.Memory = ⊥

-- Of these lines, from this number on, the first that can't be read has this fault; or all are read, and none was a `threads` line.
abbrev pub Stops : ℕ → Read → List (List ℕ) → OrdersFault → Type 0
Stops number old [] fault = (old.seen.now ≡ None) × (fault ≡ orders.Run (run.Script number ThreadsExpected))
Stops number old (bytes ∷ lines) fault =
    IsUnreadable old.seen.now number bytes fault ⊎ ((mid : Read) × Reads number bytes old mid × Stops (number + 1) mid lines fault)
