-- Gates: a late creation, one after a call, is a step of its lane too. It is made before all calls, so that each handle keeps its number, and an
-- event that no line names, its gate, is set when its line goes. What names its handle in another lane waits for the gate first. Its claim is a handle
-- that no line names either, and is closed once: as its line goes, or before that, in one step with a line that closes what it makes another handle of. Then
-- the creation is refused: what it made is closed in that step too, and so are what others make of that, and their claims.
use Rattle.std.specs.Prelude.{◌≡◌, ℕ, ◌+◌, ◌==◌, ◌&&◌, ◌||◌, ◌++◌, nat_lt, Bool, true, false, not, List, [], ◌∷◌, length, map, replicate, slice_get, slice_set, slice_index_or, Option, None, Some, is_some, Result, Ok, if◌then◌else◌, codes}
use Rattle.std.specs.List.{filter, find, fold, list_any}
use Rattle.std.specs.Fmt.{decimal}
use Rattle.nt_status.specs.declared.limits.TheConstants.{INFINITE}
use Rattle.nt_status.specs.declared.refusal.Refusal.{Refusal}
use Rattle.nt_calls.specs.State.{State}
use Rattle.nt_calls.specs.Steps.{Called}
use Rattle.nt_calls.specs.declared.call.Act.{Act}
use Rattle.nt_calls.specs.declared.call.Call.{Call}
use Rattle.nt_calls.specs.declared.call.WaitCall.{WaitCall}
use Rattle.nt_calls.specs.declared.call.Reply.{Reply}
use Rattle.nt_calls.specs.declared.call.Grant.{Grant}
use Rattle.nt_grammar.specs.Naming.{handle_of}
use Rattle.nt_look.specs.Orders.{Ask, Calls, Tries, Plan, asks}
use Rattle.nt_lanes.specs.Lanes.{names_handle}
use Rattle.nt_plans.specs.declared.laying.Made.{Made}
use Rattle.nt_plans.specs.declared.laying.Pass.{Pass}

-- ---- lines that go when their lanes do

-- what a line does when its lane goes: it asks something; or it is a late creation, which gave this handle, another one of that handle
pub data Does : Type 0 where
  Asks : (ask : Ask) → Does
  Makes : (handle : ℕ) → (source : Option ℕ) → Does

-- such a line: its number in the script, itself as it stands, and whose lane it is of
pub record Item : Type 0 where
  pub number : ℕ
  pub bytes : List ℕ
  pub lane : ℕ
  pub does : Does

-- it makes something
abbrev pub makes : Does → Bool
makes (Asks ask) = false
makes (Makes handle source) = true

-- the line is a late creation
abbrev pub is_late : Item → Bool
is_late item = makes item.does

-- ---- the lanes

-- by lane, its lines, each as it stands
abbrev pub Texts : Type 0
Texts = List (List (List ℕ))

-- what each lane is to do, the lines that tell it, the text of the lines that stand in front of them, and the late creations
pub record Lanes : Type 0 where
  pub plan : Plan
  pub texts : Texts
  pub front : List ℕ
  pub late : List Made

-- the plan, with this as the last in the lane
abbrev pub with_ask : Plan → ℕ → Ask → Plan
with_ask plan lane ask = slice_set plan lane (asks plan lane ++ ask ∷ [])

-- the texts, with this line as the last in the lane
abbrev pub with_text : Texts → ℕ → List ℕ → Texts
with_text texts lane bytes = slice_set texts lane (slice_index_or texts lane [] ++ bytes ∷ [])

-- what was laid out so far: what each lane is to do, the lines that tell it, and which lane has passed which gate
pub record Laid : Type 0 where
  pub plan : Plan
  pub texts : Texts
  pub passed : List Pass

-- this is the last that the lane is to do, as this line tells
abbrev pub with_line : Laid → ℕ → Ask → List ℕ → Laid
with_line laid lane ask bytes = record { plan = with_ask laid.plan lane ask; texts = with_text laid.texts lane bytes; passed = laid.passed }

-- the lane has passed the gate
abbrev pub with_passed : Laid → ℕ → ℕ → Laid
with_passed laid lane gate = record { plan = laid.plan; texts = laid.texts; passed = laid.passed ++ record { lane = lane; gate = gate } ∷ [] }

-- so many threads that do nothing yet
abbrev pub none_laid : ℕ → Laid
none_laid threads = record { plan = replicate (threads + 1) []; texts = replicate (threads + 1) []; passed = [] }

-- a line as it stands, with an LF
abbrev pub whole_line : List ℕ → List ℕ
whole_line bytes = bytes ++ 10 ∷ []

-- ---- waits for gates

-- a wait for the gate, without end
abbrev pub wait_for : ℕ → Ask
wait_for gate = Calls (Call.Wait (WaitCall.Objects false (record { ms = INFINITE; alertable = false }) (gate ∷ [])))

-- in a script a comment stands for it
abbrev pub wait_line : ℕ → ℕ → List ℕ
wait_line lane number = codes "; t" ++ (decimal lane ++ (codes " waits for line " ++ decimal number))

-- so it does for a late creation
abbrev pub made_line : ℕ → List ℕ
made_line number = codes "; line " ++ (decimal number ++ codes " goes here")

-- the lane has passed this gate
abbrev pub has_passed : List Pass → ℕ → ℕ → Bool
has_passed passed lane gate = list_any (λ pass. (pass.lane == lane) && (pass.gate == gate)) passed

-- the lane waits for the gate of this late creation, unless it has passed it
abbrev pub after : ℕ → Laid → Made → Laid
after lane laid made =
    if has_passed laid.passed lane made.gate then laid
    else with_passed (with_line laid lane (wait_for made.gate) (wait_line lane made.number)) lane made.gate

-- the handle is this one
abbrev pub is_handle : ℕ → Option ℕ → Bool
is_handle handle None = false
is_handle handle (Some it) = it == handle

-- the line names this handle
abbrev pub names : Does → ℕ → Bool
names (Asks ask) handle = names_handle handle ask
names (Makes made source) handle = is_handle handle source

-- where the line names what a late creation gave, its lane waits for that
abbrev pub after_if_named : ℕ → Does → Laid → Made → Laid
after_if_named lane does laid made = if names does made.handle then after lane laid made else laid

-- the handle that is closed so
abbrev pub closed_by : Ask → Option ℕ
closed_by (Calls (Call.Act (Act.Close handle))) = Some handle
closed_by ask = None

-- the line closes this handle, if it is one
abbrev pub closes : Does → Option ℕ → Bool
closes does None = false
closes (Asks ask) (Some handle) = is_handle handle (closed_by ask)
closes (Makes made source) (Some handle) = false

-- the line closes what this late creation makes another handle of, and its lane has not passed the gate: either of the two may go first
abbrev pub may_close_first : Laid → Item → Made → Bool
may_close_first laid item made = closes item.does made.source && not (has_passed laid.passed item.lane made.gate)

-- it is one of these
abbrev pub is_among : List ℕ → Option ℕ → Bool
is_among handles None = false
is_among handles (Some handle) = list_any (λ it. it == handle) handles

-- these are lost, and with them the handle that is made of one of them, and its claim
abbrev pub with_lost : List ℕ → Made → List ℕ
with_lost lost made = if is_among lost made.source then lost ++ made.handle ∷ made.claim ∷ [] else lost

-- what is lost of all late creations where this handle is not made
abbrev pub lost_with : List Made → ℕ → List ℕ
lost_with all handle = fold with_lost (handle ∷ []) all

-- the claim is closed, and if it stood, so are these; then stands a gap
abbrev pub taking : ℕ → List ℕ → List (Option Act)
taking claim lost = map (λ handle. Some (Act.Close handle)) (claim ∷ lost) ++ None ∷ []

-- the line closes the claim of that creation too, if it may close first what that makes another handle of
abbrev pub with_claim : List Made → Laid → Item → List (Option Act) → Made → List (Option Act)
with_claim all laid item claims made = if may_close_first laid item made then claims ++ taking made.claim (lost_with all made.handle) else claims

-- the claims that the line closes, of the late creations above it
abbrev pub claims_of : List Made → List Made → Laid → Item → List (Option Act)
claims_of all above laid item = fold (with_claim all laid item) [] above

-- what is asked, and in the same step these claims are closed, if there are any
abbrev pub with_claims : Ask → List (Option Act) → Ask
with_claims ask [] = ask
with_claims (Calls (Call.Act act)) (claim ∷ claims) = Tries (Some act ∷ None ∷ claim ∷ claims)
with_claims ask (claim ∷ claims) = ask

-- it is the lane of one of so many threads, and has nothing to do yet
abbrev pub is_new : ℕ → ℕ → Laid → Bool
is_new threads lane laid = nat_lt lane threads && not (is_some (slice_get (asks laid.plan lane) 0))

-- the first of these late creations that makes another handle of the thread begins it
abbrev pub beginning_of : ℕ → List Made → Option Made
beginning_of thread above = find (λ made. is_handle thread made.source) above

-- the lane waits for such a creation, if there is one
abbrev pub after_any : ℕ → Laid → Option Made → Laid
after_any lane laid None = laid
after_any lane laid (Some made) = after lane laid made

-- a thread's first line waits for what begins the thread
abbrev pub after_beginning : ℕ → List Made → ℕ → Laid → Laid
after_beginning threads above lane laid = if is_new threads lane laid then after_any lane laid (beginning_of lane above) else laid

-- what stands before a line, for all late creations above it
abbrev pub after_all : ℕ → List Made → Laid → Item → Laid
after_all threads above laid item = fold (after_if_named item.lane item.does) (after_beginning threads above item.lane laid) above

-- ---- claims that are closed

-- acts go on after this one: at a gap they do, and not where it closes what was closed before
abbrev pub goes_after : List ℕ → Option Act → Bool → Bool
goes_after closed None goes = true
goes_after closed (Some (Act.Close handle)) goes = goes && not (list_any (λ it. it == handle) closed)
goes_after closed (Some act) goes = goes

-- the handle that is closed so, if acts go on
abbrev pub closed_if : Bool → Option Act → List ℕ
closed_if true (Some (Act.Close handle)) = handle ∷ []
closed_if goes act = []

-- what acts close that are tried; what was closed before is refused, with those after it up to the next gap
abbrev pub closed_in : List ℕ → List (Option Act) → Bool → List ℕ
closed_in closed [] goes = []
closed_in closed (act ∷ acts) goes = closed_if (goes_after closed act goes) act ++ closed_in closed acts (goes_after closed act goes)

-- what is closed so where this is asked
abbrev pub tries_of : List ℕ → Option Ask → List ℕ
tries_of closed (Some (Tries acts)) = closed_in closed acts true
tries_of closed ask = []

-- the handle is a claim of one of these
abbrev pub is_claim : List Made → ℕ → Bool
is_claim late handle = list_any (λ made. made.claim == handle) late

-- the handle that the line itself closes, where it closes claims too
abbrev pub closed_first : Option Ask → Option ℕ
closed_first (Some (Tries (Some (Act.Close handle) ∷ acts))) = Some handle
closed_first ask = None

-- the script tells of it already that this handle is closed: it is a claim, or that which the line itself closes
abbrev pub is_told : List Made → Option ℕ → ℕ → Bool
is_told late first handle = is_claim late handle || is_handle handle first

-- the others that are closed so
abbrev pub lost_by : List Made → List ℕ → Option Ask → List ℕ
lost_by late closed ask = filter (λ handle. not (is_told late (closed_first ask) handle)) (tries_of closed ask)

-- the line with which thread t closes this handle
abbrev pub close_line : ℕ → ℕ → List ℕ
close_line t handle = whole_line (codes "t" ++ (decimal t ++ (codes " close " ++ decimal handle)))

-- so it closes these
abbrev pub close_lines : ℕ → List ℕ → List ℕ
close_lines t handles = fold (λ text handle. text ++ close_line t handle) [] handles

-- ---- all lines

-- what was planned so far, and the late creations above
pub record Planned : Type 0 where
  pub laid : Laid
  pub above : List Made

-- by late creation, the gates and the claims
pub record Gates : Type 0 where
  pub gates : List ℕ
  pub claims : List ℕ

-- the next one after these late creations
abbrev pub next_of : List ℕ → List Made → ℕ
next_of handles above = slice_index_or handles (length above) 0

-- the late creation on this line, after these
abbrev pub made_by : Gates → List Made → Item → (handle : ℕ) → (source : Option ℕ) → Made
made_by gates above item handle source = record {
  number = item.number;
  who = item.lane;
  handle = handle;
  source = source;
  gate = next_of gates.gates above;
  claim = next_of gates.claims above;
}

-- the late creations, with that on this line if it is one
abbrev pub with_made : Gates → List Made → Item → Does → List Made
with_made gates above item (Asks ask) = above
with_made gates above item (Makes handle source) = above ++ made_by gates above item handle source ∷ []

-- those on these lines
abbrev pub all_made : Gates → List Item → List Made
all_made gates items = fold (λ above item. with_made gates above item item.does) [] items

-- its gate is set, and its claim is closed, in one step
abbrev pub opening : (gate claim : ℕ) → Ask
opening gate claim = Tries (Some (Act.SetEvent gate) ∷ Some (Act.Close claim) ∷ [])

-- its line goes so
abbrev pub opened_by : Laid → Made → Laid
opened_by laid made = with_passed (with_line laid made.who (opening made.gate made.claim) (made_line made.number)) made.who made.gate

-- and is the last of the late creations so far
abbrev pub with_opened : Planned → Made → Planned
with_opened old made = record { laid = opened_by old.laid made; above = old.above ++ made ∷ [] }

-- the call or tick on this line goes, and in the same step the claims are closed that it closes
abbrev pub asks_last : List Made → Planned → Item → Ask → Planned
asks_last all old item ask = record {
  laid = with_line old.laid item.lane (with_claims ask (claims_of all old.above old.laid item)) item.bytes;
  above = old.above;
}

-- the line goes when all went for which it waits
abbrev pub goes_last : Gates → List Made → Planned → Item → Does → Planned
goes_last gates all old item (Asks ask) = asks_last all old item ask
goes_last gates all old item (Makes handle source) = with_opened old (made_by gates old.above item handle source)

-- a line more is planned
abbrev pub planned_on : ℕ → Gates → List Made → Planned → Item → Planned
planned_on threads gates all old item =
    goes_last gates all (record { laid = after_all threads old.above old.laid item; above = old.above }) item item.does

-- nothing is planned yet
abbrev pub none_planned : ℕ → Planned
none_planned threads = record { laid = none_laid threads; above = [] }

-- these lines are planned, with these gates
abbrev pub planned_all : ℕ → Gates → List Item → Planned
planned_all threads gates items = fold (planned_on threads gates (all_made gates items)) (none_planned threads) items

-- one of these lines names the handle
abbrev pub is_named : List Item → ℕ → Bool
is_named items handle = list_any (λ item. names item.does handle) items

-- a late creation gives a handle whose number one of these lines above names: in another order that line names what is made here
abbrev pub is_race : List Item → Does → Bool
is_race above (Asks ask) = false
is_race above (Makes handle source) = is_named above handle

-- the number of the first such line after those above
abbrev pub first_race : List Item → List Item → Option ℕ
first_race above [] = None
first_race above (item ∷ items) = if is_race above item.does then Some item.number else first_race (above ++ item ∷ []) items

-- the same of all lines
abbrev pub race_of : List Item → Option ℕ
race_of items = first_race [] items

-- the lanes that are planned so, after this text
abbrev pub lanes_with : Planned → List ℕ → Lanes
lanes_with all front = record { plan = all.laid.plan; texts = all.laid.texts; front = front; late = all.above }

-- the lanes of these lines
abbrev pub planned : ℕ → Gates → List ℕ → List Item → Lanes
planned threads gates front items = lanes_with (planned_all threads gates items) front

-- ---- the gates and claims

-- the act gives this handle
abbrev pub Gives : State → Act → ℕ → State → Type 0
Gives old act handle new =
    (result : Result Reply Refusal) × (grants : List Grant) × (handle_of result ≡ Some handle) × Called old 0 (Call.Act act) result grants new

-- an event that is closed at once where this says so
abbrev pub ClosesIf : Bool → State → ℕ → State → Type 0
ClosesIf false old event new = new ≡ old
ClosesIf true old event new = (reply : Reply) × (grants : List Grant) × Called old 0 (Call.Act (Act.Close event)) (Ok reply) grants new

-- a gate or a claim: a manual-reset event that is not set
abbrev pub MakesOne : State → ℕ → State → Type 0
MakesOne old event new = Gives old (Act.CreateEvent 1) event new

-- such events are made, one after another, and each that a line names is closed at once, so that the line is refused as in the script
abbrev pub MakesEvents : List Item → State → List ℕ → State → Type 0
MakesEvents items old [] new = new ≡ old
MakesEvents items old (event ∷ events) new =
    (mid left : State) × MakesOne old event mid × ClosesIf (is_named items event) mid event left × MakesEvents items left events new

-- those of them that no line names
abbrev pub unnamed_of : List Item → List ℕ → List ℕ
unnamed_of items events = filter (λ event. not (is_named items event)) events

-- so these events are made, and no line names them
pub record MakesUnnamed (items : List Item) (old : State) (unnamed : List ℕ) (new : State) : Type 0 where
  pub events : List ℕ
  pub made : MakesEvents items old events new
  pub are : unnamed ≡ unnamed_of items events
