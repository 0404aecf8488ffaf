-- A search that leaves lanes out, and finds a shortest hang all the same; and threads that stand alike, of which one is enough.
use Rattle.std.specs.Prelude.{Contains, ◌≡◌, ◌≢◌, ◌==◌, if◌then◌else◌, ◌⊎◌, ◌↔◌, ◌≤◌, ℕ, Bool, true, List, [], ◌∷◌, length, ◌<◌, false, map, drop, slice_index_or, option_map, ◌++◌}
use Rattle.nt_look.specs.Orders.{Plan, Point, Goes, Order, Hangs, IsLost, Ask, Calls, Passes, Tries, place, asks}
use Rattle.std.specs.FinMap.{get}
use Rattle.std.specs.declared.option.Option.{Option}
use Rattle.std.specs.declared.option.Option.TheVariants.{None, Some}
use Rattle.std.specs.declared.result.Result.{Result}
use Rattle.nt_status.specs.declared.limits.TheConstants.{MAX_HANDLES}
use Rattle.nt_status.specs.declared.refusal.Refusal.{Refusal}
use Rattle.nt_objects.specs.declared.object.Object.{Object}
use Rattle.nt_objects.specs.declared.object.Object.TheVariants.{Mutex, Timer, Thread, Gone}
use Rattle.nt_objects.specs.declared.object.Armed.{Armed}
use Rattle.nt_objects.specs.declared.object.Routine.{Routine}
use Rattle.nt_tables.specs.declared.handles.Opened.{Opened}
use Rattle.nt_tables.specs.Handles.{opened_at}
use Rattle.nt_apc.specs.Queues.{apc_queue_of}
use Rattle.nt_machine.specs.Dispatcher.{Dispatcher, state}
use Rattle.nt_machine.specs.Lawful.{IsLawful}
use Rattle.nt_apart.specs.Apart.{IsUnawaited}
use Rattle.nt_apart.specs.Footprint.{WaitsFor, belongs, has_apc_from}
use Rattle.nt_waits.specs.declared.wait.Wait.{Wait}
use Rattle.nt_apc.specs.declared.apc.Queued.{Queued}
use Rattle.nt_calls.specs.declared.call.Call.{Call}
use Rattle.nt_calls.specs.declared.call.Act.{Act}
use Rattle.nt_calls.specs.declared.call.WaitCall.{WaitCall}
use Rattle.nt_calls.specs.declared.call.Reply.{Reply}
use Rattle.nt_calls.specs.declared.call.Grant.{Grant}
use Rattle.nt_calls.specs.State.{State, object_at, pends}
use Rattle.nt_calls.specs.Steps.{Called, Ticked}

-- one of the chosen lanes goes, and then as many lanes come to a hang
pub record MayBegin (plan : Plan) (p : Point) (chosen : ℕ → Bool) (lanes : List ℕ) : Type 0 where
  pub lane : ℕ
  pub is : chosen lane ≡ true
  pub mid : Point
  pub goes : Goes plan p lane mid
  pub rest : List ℕ
  pub count : length rest ≡ length lanes
  pub last : Point
  pub order : Order plan mid rest last
  pub hangs : Hangs plan last

-- the chosen lanes are enough here: it hangs, or each order to a hang may as well begin with one of them
abbrev pub AreEnough : Plan → Point → (ℕ → Bool) → Type 0
AreEnough plan p chosen =
    (lane : ℕ) (lanes : List ℕ) (q : Point)
    → Order plan p (lane ∷ lanes) q → Hangs plan q → Hangs plan p ⊎ MayBegin plan p chosen lanes

-- these lanes go, one after another, each chosen where it goes
abbrev pub OrderOf : Plan → (Point → ℕ → Bool) → Point → List ℕ → Point → Type 0
OrderOf plan chosen old [] new = new ≡ old
OrderOf plan chosen old (lane ∷ lanes) new =
    (mid : Point) × (chosen old lane ≡ true) × Goes plan old lane mid × OrderOf plan chosen mid lanes new

-- what a search met has the start, and with each point all to which a chosen lane leads; and there the chosen lanes are enough
pub record IsEnoughSearch (plan : Plan) (chosen : Point → ℕ → Bool) (met : List Point) (start : Point) : Type 0 where
  pub begins : Contains met start
  pub closed : (p q : Point) (lane : ℕ) → Contains met p → chosen p lane ≡ true → Goes plan p lane q → Contains met q
  pub enough : (p : Point) → Contains met p → AreEnough plan p (chosen p)

-- a hang by chosen lanes alone, which the search met, after no more lanes
pub record IsMetAsSoon (plan : Plan) (chosen : Point → ℕ → Bool) (met : List Point) (start : Point) (lanes : List ℕ) : Type 0 where
  pub others : List ℕ
  pub point : Point
  pub few : length others ≤ length lanes
  pub order : OrderOf plan chosen start others point
  pub is : Contains met point
  pub hangs : Hangs plan point

-- such a search misses no hang, and meets one as soon as any order comes to one
abbrev pub FewerLanesAreEnough : Type 0
FewerLanesAreEnough =
    (plan : Plan) (chosen : Point → ℕ → Bool) (met : List Point) (start : Point)
    → IsEnoughSearch plan chosen met start
    → (lanes : List ℕ) (q : Point) → Order plan start lanes q → Hangs plan q
    → IsMetAsSoon plan chosen met start lanes

-- ---- names

-- it renames the first n numbers, those of the threads, among themselves, each other number stays, and to rename twice changes nothing
pub record IsRenaming (n : ℕ) (r : ℕ → ℕ) : Type 0 where
  pub back : (x : ℕ) → r (r x) ≡ x
  pub inside : (x : ℕ) → x < n → r x < n
  pub outside : (x : ℕ) → n ≤ x → r x ≡ x

-- ---- what is renamed in each part of the machine: threads, and the numbers of objects and handles, since a thread's own have its number

abbrev pub renamed_routine : (ℕ → ℕ) → Routine → Routine
renamed_routine r routine = record routine { thread = r routine.thread }

abbrev pub renamed_armed : (ℕ → ℕ) → Armed → Armed
renamed_armed r armed = record armed { routine = option_map (renamed_routine r) armed.routine }

-- a mutex has an owner, and a timer's routine a thread
abbrev pub renamed_object : (ℕ → ℕ) → Object → Object
renamed_object r (Mutex owner depth abandoned) = Mutex (option_map r owner) depth abandoned
renamed_object r (Timer manual set armed) = Timer manual set (option_map (renamed_armed r) armed)
renamed_object r o = o

abbrev pub renamed_opened : (ℕ → ℕ) → Opened → Opened
renamed_opened r opened = record opened { object = r opened.object }

abbrev pub renamed_wait : (ℕ → ℕ) → Wait → Wait
renamed_wait r w = record w { objects = map r w.objects }

abbrev pub renamed_apc : (ℕ → ℕ) → Queued → Queued
renamed_apc r q = record q { timer = option_map r q.timer }

abbrev pub renamed_act : (ℕ → ℕ) → Act → Act
renamed_act r (Act.SetEvent h) = Act.SetEvent (r h)
renamed_act r (Act.ResetEvent h) = Act.ResetEvent (r h)
renamed_act r (Act.PulseEvent h) = Act.PulseEvent (r h)
renamed_act r (Act.ReleaseSemaphore h n) = Act.ReleaseSemaphore (r h) n
renamed_act r (Act.ReleaseMutex h) = Act.ReleaseMutex (r h)
renamed_act r (Act.SetTimer h due period routine) = Act.SetTimer (r h) due period routine
renamed_act r (Act.CancelTimer h) = Act.CancelTimer (r h)
renamed_act r (Act.QueueApc h routine arg) = Act.QueueApc (r h) routine arg
renamed_act r (Act.Duplicate h access) = Act.Duplicate (r h) access
renamed_act r (Act.Close h) = Act.Close (r h)
renamed_act r act = act

abbrev pub renamed_waiting : (ℕ → ℕ) → WaitCall → WaitCall
renamed_waiting r (WaitCall.Objects all mode hs) = WaitCall.Objects all mode (map r hs)
renamed_waiting r (WaitCall.Sleep mode) = WaitCall.Sleep mode
renamed_waiting r (WaitCall.Swap h object mode) = WaitCall.Swap (r h) (r object) mode

abbrev pub renamed_call : (ℕ → ℕ) → Call → Call
renamed_call r (Call.Act act) = Call.Act (renamed_act r act)
renamed_call r (Call.Wait wait) = Call.Wait (renamed_waiting r wait)
renamed_call r Call.Exit = Call.Exit

abbrev pub renamed_grant : (ℕ → ℕ) → Grant → Grant
renamed_grant r g = record g { thread = r g.thread }

-- the same grants, renamed: perhaps in another order, since waits that end by an APC or a deadline at one moment end by rising thread
pub record AreGrantsRenamed (r : ℕ → ℕ) (grants renamed : List Grant) : Type 0 where
  pub there : (g : Grant) → Contains grants g → Contains renamed (renamed_grant r g)
  pub back : (g : Grant) → Contains renamed g → Contains grants (renamed_grant r g)

-- ---- states

-- a list by number has at least n entries, and the other list as many; the entry of each number stands there, renamed, at the renamed number
pub record AreMoved {A : Type 0} (n : ℕ) (r : ℕ → ℕ) (entry : A → A) (none : A) (xs ys : List A) : Type 0 where
  pub enough : n ≤ length xs
  pub count : length ys ≡ length xs
  pub each : (x : ℕ) → slice_index_or ys (r x) none ≡ entry (slice_index_or xs x none)

-- a thread's own object, or what is left of it
abbrev pub is_own : Object → Bool
is_own (Thread ended) = true
is_own Gone = true
is_own _ = false

-- the state u is s with its threads renamed
pub record IsRenamed (r : ℕ → ℕ) (s u : State) : Type 0 where
  pub renaming : IsRenaming s.threads r
  pub few : s.threads ≤ MAX_HANDLES
  -- the first objects are the threads' own
  pub own : (x : ℕ) → x < s.threads → is_own (object_at s.objects x) ≡ true
  pub threads : u.threads ≡ s.threads
  pub now : u.now ≡ s.now
  pub handles : AreMoved s.threads r (option_map (renamed_opened r)) None s.handles u.handles
  pub objects : AreMoved s.threads r (renamed_object r) (Thread false) s.objects u.objects
  pub waits : (t : ℕ) → get u.waits (r t) ≡ option_map (renamed_wait r) (get s.waits t)
  pub queues : (x : ℕ) → u.queues (r x) ≡ map r (s.queues x)
  pub apcs : AreMoved s.threads r (map (renamed_apc r)) [] s.apcs u.apcs
  pub handing : AreMoved s.threads r (λ may. may) false s.handing u.handing

-- ---- the law

-- what comes of a call or a tick in the renamed state: the same result, the same grants, renamed, and the renamed state
pub record ComesRenamed (r : ℕ → ℕ) (comes : List Grant → State → Type 0) (grants : List Grant) (new : State) : Type 0 where
  pub others : List Grant
  pub state : State
  pub made : comes others state
  pub same : AreGrantsRenamed r grants others
  pub is : IsRenamed r new state

-- threads may be renamed in any state before a call: then it comes to the renamed state
abbrev pub CallsOfRenamedThreads : Type 0
CallsOfRenamedThreads =
    (r : ℕ → ℕ) (s u new : State) (t : ℕ) (call : Call) (result : Result Reply Refusal) (grants : List Grant)
    → IsRenamed r s u
    → Called s t call result grants new
    → ComesRenamed r (Called u (r t) (renamed_call r call) result) grants new

-- or before a tick
abbrev pub TicksOfRenamedThreads : Type 0
TicksOfRenamedThreads =
    (r : ℕ → ℕ) (s u new : State) (moment : ℕ) (result : Result Reply Refusal) (grants : List Grant)
    → IsRenamed r s u
    → Ticked s moment result grants new
    → ComesRenamed r (Ticked u moment result) grants new

-- ---- points of a search

-- what a lane has left to do
abbrev pub left : Plan → Point → ℕ → List Ask
left plan p lane = drop (place p lane) (asks plan lane)

abbrev pub renamed_ask : (ℕ → ℕ) → Ask → Ask
renamed_ask r (Calls call) = Calls (renamed_call r call)
renamed_ask r (Passes moment) = Passes moment
renamed_ask r (Tries acts) = Tries (map (option_map (renamed_act r)) acts)

-- the point q is p with its threads renamed: each lane has left there what the renamed lane has left here, renamed
pub record IsPointRenamed (r : ℕ → ℕ) (plan : Plan) (p q : Point) : Type 0 where
  pub inside : (lane : ℕ) → lane < length p.at → r lane < length p.at
  pub count : length q.at ≡ length p.at
  pub lanes : (lane : ℕ) → left plan q (r lane) ≡ map (renamed_ask r) (left plan p lane)
  pub state : IsRenamed r p.state q.state

-- as many lanes, renamed, go from the renamed point to one that is renamed too; where a wait hangs in the one, one hangs in the other
pub record GoRenamed (r : ℕ → ℕ) (plan : Plan) (start : Point) (lanes : List ℕ) (end : Point) : Type 0 where
  pub point : Point
  pub order : Order plan start (map r lanes) point
  pub is : IsPointRenamed r plan end point
  pub hangs : Hangs plan end → Hangs plan point

-- from renamed points on each order has its image
abbrev pub OrdersOfRenamedThreads : Type 0
OrdersOfRenamedThreads =
    (r : ℕ → ℕ) (plan : Plan) (p q end : Point) (lanes : List ℕ)
    → IsPointRenamed r plan p q
    → Order plan p lanes end
    → GoRenamed r plan q lanes end

-- ---- two threads that stand alike

-- the renaming that exchanges a and b
abbrev pub exchanged : ℕ → ℕ → ℕ → ℕ
exchanged a b x = if x == a then b else if x == b then a else x

-- the handles that a call names
abbrev pub handles_of : Call → List ℕ
handles_of (Call.Act (Act.SetEvent h)) = h ∷ []
handles_of (Call.Act (Act.ResetEvent h)) = h ∷ []
handles_of (Call.Act (Act.PulseEvent h)) = h ∷ []
handles_of (Call.Act (Act.ReleaseSemaphore h n)) = h ∷ []
handles_of (Call.Act (Act.ReleaseMutex h)) = h ∷ []
handles_of (Call.Act (Act.SetTimer h due period routine)) = h ∷ []
handles_of (Call.Act (Act.CancelTimer h)) = h ∷ []
handles_of (Call.Act (Act.QueueApc h routine arg)) = h ∷ []
handles_of (Call.Act (Act.Duplicate h access)) = h ∷ []
handles_of (Call.Act (Act.Close h)) = h ∷ []
handles_of (Call.Wait (WaitCall.Objects all mode hs)) = hs
handles_of (Call.Wait (WaitCall.Swap h object mode)) = h ∷ object ∷ []
handles_of _ = []

-- the handles that one of the acts names that are tried; a gap names none
abbrev pub handles_in : Option Act → List ℕ
handles_in None = []
handles_in (Some act) = handles_of (Call.Act act)

-- the handles that all of them name
abbrev pub handles_tried : List (Option Act) → List ℕ
handles_tried [] = []
handles_tried (act ∷ acts) = handles_in act ++ handles_tried acts

-- the handles that are named where a lane is asked this
abbrev pub handles_asked : Ask → List ℕ
handles_asked (Calls call) = handles_of call
handles_asked (Passes moment) = []
handles_asked (Tries acts) = handles_tried acts

-- what lasts of a state between calls: each thread has its places and its own object, and stands in a queue only where it waits
pub record IsInOrder (s : State) : Type 0 where
  pub few : s.threads ≤ MAX_HANDLES
  pub handles : s.threads ≤ length s.handles
  pub objects : s.threads ≤ length s.objects
  pub apcs : s.threads ≤ length s.apcs
  pub handing : s.threads ≤ length s.handing
  pub own : (x : ℕ) → x < s.threads → is_own (object_at s.objects x) ≡ true
  pub queued : (x t : ℕ) → Contains (s.queues x) t → WaitsFor s t x

-- the thread waits for nothing and no wait names it; no mutex and no timer with a routine is its, no APC is queued to it, and no handle
-- names it but its own. (No APC is a thread's, as it is no timer.)
pub record IsBare (s : State) (t : ℕ) : Type 0 where
  pub known : t < s.threads
  pub idle : pends s t ≡ false
  pub unawaited : IsUnawaited s t
  pub free : (x : ℕ) → belongs t (object_at s.objects x) ≡ false
  pub empty : apc_queue_of s.apcs t ≡ []
  pub no_timer : (u : ℕ) → has_apc_from s u t ≡ false
  pub named : (h : ℕ) (opened : Opened) → opened_at s.handles h ≡ Some opened → opened.object ≡ t → h ≡ t

-- two such threads run, or both have ended; their own handles have the same rights, and so have they to take APCs; they have the same left to do,
-- and nothing that any thread has left to do names one of them
pub record StandAlike (plan : Plan) (p : Point) (a b : ℕ) : Type 0 where
  pub in_order : IsInOrder p.state
  pub first : IsBare p.state a
  pub second : IsBare p.state b
  pub object : object_at p.state.objects b ≡ object_at p.state.objects a
  pub handle : opened_at p.state.handles b ≡ option_map (renamed_opened (exchanged a b)) (opened_at p.state.handles a)
  pub handing : slice_index_or p.state.handing b false ≡ slice_index_or p.state.handing a false
  pub places : p.state.threads ≤ length p.at
  pub lines : left plan p b ≡ left plan p a
  pub unnamed : (lane : ℕ) (ask : Ask) (h : ℕ) → Contains (left plan p lane) ask → Contains (handles_asked ask) h → (h ≢ a) × (h ≢ b)

-- to exchange these changes nothing
abbrev pub ExchangeOfAlike : Type 0
ExchangeOfAlike = (plan : Plan) (p : Point) (a b : ℕ) → StandAlike plan p a b → IsPointRenamed (exchanged a b) plan p p

-- each lane is chosen, or stands alike with a lower one
abbrev pub IsLowestChosen : Plan → Point → (ℕ → Bool) → Type 0
IsLowestChosen plan p chosen = (lane : ℕ) → (chosen lane ≡ true) ⊎ ((lower : ℕ) × (lower < lane) × StandAlike plan p lower lane)

-- then the chosen lanes are enough
abbrev pub OneOfAlikeIsEnough : Type 0
OneOfAlikeIsEnough = (plan : Plan) (p : Point) (chosen : ℕ → Bool) → IsLowestChosen plan p chosen → AreEnough plan p chosen

-- the states of a dispatcher are in order
abbrev pub LawfulIsInOrder : Type 0
LawfulIsInOrder = (d : Dispatcher) → IsLawful d → IsInOrder (state d)

-- ---- losses, by the lanes that are chosen

-- a wait is lost exactly where it pends and is lost wherever a chosen lane leads
abbrev pub LossesComeBackwardsByChosen : Type 0
LossesComeBackwardsByChosen =
    (plan : Plan) (p : Point) (t : ℕ) (chosen : ℕ → Bool)
    → IsLowestChosen plan p chosen
    → IsLost plan p t
    ↔ ((pends p.state t ≡ true) × ((lane : ℕ) (q : Point) → chosen lane ≡ true → Goes plan p lane q → IsLost plan q t))

-- some wait is lost
abbrev pub LosesOne : Plan → Point → Type 0
LosesOne plan p = (t : ℕ) × IsLost plan p t

-- chosen lanes alone, no more than these, come to a point of which this is so
pub record ComesAsSoon (plan : Plan) (chosen : Point → ℕ → Bool) (start : Point) (lanes : List ℕ) (so : Point → Type 0) : Type 0 where
  pub others : List ℕ
  pub point : Point
  pub few : length others ≤ length lanes
  pub order : OrderOf plan chosen start others point
  pub is : so point

-- what a search met has the start, and with each point all to which a chosen lane leads; and each other lane there stands alike with a lower one
pub record IsLowestSearch (plan : Plan) (chosen : Point → ℕ → Bool) (met : List Point) (start : Point) : Type 0 where
  pub begins : Contains met start
  pub closed : (p q : Point) (lane : ℕ) → Contains met p → chosen p lane ≡ true → Goes plan p lane q → Contains met q
  pub lowest : (p : Point) → Contains met p → IsLowestChosen plan p (chosen p)

-- such a search meets a lost wait as soon as any order comes to one
abbrev pub LossesAreMetAsSoon : Type 0
LossesAreMetAsSoon =
    (plan : Plan) (chosen : Point → ℕ → Bool) (met : List Point) (start : Point)
    → IsLowestSearch plan chosen met start
    → (lanes : List ℕ) (q : Point) (u : ℕ) → Order plan start lanes q → IsLost plan q u
    → ComesAsSoon plan chosen start lanes (λ p. Contains met p × LosesOne plan p)

-- wherever fewer than so many chosen lanes come, each other lane stands alike with a lower one
abbrev pub AreLowestWithin : Plan → (Point → ℕ → Bool) → Point → ℕ → Type 0
AreLowestWithin plan chosen start most =
    (lanes : List ℕ) (p : Point) → length lanes < most → OrderOf plan chosen start lanes p → IsLowestChosen plan p (chosen p)

-- then chosen lanes come to a hang as soon as any order of at most so many, and to a lost wait too
abbrev pub LowestComeAsSoon : Type 0
LowestComeAsSoon =
    (plan : Plan) (chosen : Point → ℕ → Bool) (start : Point) (most : ℕ)
    → AreLowestWithin plan chosen start most
    → (lanes : List ℕ) (q : Point) → length lanes ≤ most → Order plan start lanes q
    → (Hangs plan q → ComesAsSoon plan chosen start lanes (Hangs plan))
    × (LosesOne plan q → ComesAsSoon plan chosen start lanes (LosesOne plan))
