-- A dispatcher that lasts: the numbers of closed handles and of objects that are gone are given again, the last that was freed first.
use Rattle.std.specs.Prelude.{◌≡◌, ◌≤◌, ◌<◌, ◌+◌, ◌-◌, ◌%◌, ◌⊎◌, ℕ, Bool, true, false, not, ◌&&◌, ◌||◌, ◌==◌, nat_le, nat_lt, is_none, IfSome, List, [], ◌∷◌, ◌++◌, length, slice_index_or, if◌then◌else◌, MatchBool, OnOk, OnErr}
use Rattle.std.specs.FinMap as map
use Rattle.std.specs.declared.option.Option.{Option}
use Rattle.std.specs.declared.option.Option.TheVariants.{None, Some}
use Rattle.std.specs.declared.result.Result.{Result}
use Rattle.std.specs.declared.result.Result.TheVariants.{Ok, Err}
use Rattle.nt_status.specs.declared.limits.TheConstants.{MAX_HANDLES}
use Rattle.nt_status.specs.declared.refusal.Refusal.{Refusal}
use Rattle.nt_status.specs.declared.refusal.Refusal.TheVariants.{HandleLimit, InvalidHandle, Memory}
use Rattle.nt_calls.specs.declared.call.Act.{Act}
use Rattle.nt_calls.specs.declared.call.Call.{Call}
use Rattle.nt_calls.specs.declared.call.Reply.{Reply}
use Rattle.nt_calls.specs.declared.call.Grant.{Grant}
use Rattle.nt_calls.specs.State.{State}
use Rattle.nt_calls.specs.Moves.{Moves, pended, is_wait}
use Rattle.nt_calls.specs.Living.{is_opened}
use Rattle.nt_calls.specs.Refusals.{refusal}
use Rattle.nt_calls.specs.Steps.{Called}
use Rattle.nt_machine.specs.Dispatcher.{Dispatcher, state}
use Rattle.nt_machine.specs.Accepts.{IsLocal}
use Rattle.nt_machine.specs.Lawful.{IsLawful}
use Rattle.nt_calls.specs.Naming.{call_named}
use Rattle.nt_core.specs.Renewals.{is_closed, is_vacant, is_left, AddsVacant, CreatesAgain, DuplicatesAgain, BeginsAgain, creation}
use Rattle.nt_core.specs.SetAside.{is_movable, SetsAside}
use Rattle.nt_life.specs.declared.begun.Begun.{Begun}

-- ---- the numbers that are spare

-- the numbers of closed handles, and those of objects that no handle names; of each the one that was freed last stands last; and whose turn
-- it is if the last object is still awaited
pub record Spares : Type 0 where
  pub closed : List ℕ
  pub unnamed : List ℕ
  pub turn : ℕ

-- no number is spare
abbrev pub no_spares : Spares
no_spares = record { closed = []; unnamed = []; turn = 0 }

-- a dispatcher, and the numbers that are spare in it; none if it gives no number again
pub record WithSpare : Type 0 where
  pub core : Dispatcher
  pub spare : Option Spares

-- the object is no thread's, and no open handle names it
abbrev pub is_unnamed : State → ℕ → Bool
is_unnamed s o = nat_le s.threads o && (nat_lt o (length s.objects) && not (is_opened s o))

-- how often the number stands in the list
abbrev pub times : ℕ → List ℕ → ℕ
times n [] = 0
times n (k ∷ ns) = (if k == n then 1 else 0) + times n ns

-- each closed handle's number stands there once, and so does that of each object that no handle names, and no other number does
pub record IsSpare (s : State) (spare : Spares) : Type 0 where
  pub handles : (h : ℕ) → times h spare.closed ≡ (if is_closed s h then 1 else 0)
  pub objects : (o : ℕ) → times o spare.unnamed ≡ (if is_unnamed s o then 1 else 0)

-- the number of the handle that was closed last
abbrev pub last_closed : Spares → ℕ
last_closed spare = slice_index_or spare.closed (length spare.closed - 1) 0

-- the number of the object of which the last handle was closed last
abbrev pub last_unnamed : Spares → ℕ
last_unnamed spare = slice_index_or spare.unnamed (length spare.unnamed - 1) 0

-- the place of the object whose turn it is: the turn goes round
abbrev pub turn_place : Spares → ℕ
turn_place spare = spare.turn % length spare.unnamed

-- the number of the object whose turn it is
abbrev pub turn_unnamed : Spares → ℕ
turn_unnamed spare = slice_index_or spare.unnamed (turn_place spare) 0

-- no handle names some object, and the one that was freed last is gone
abbrev pub is_last_vacant : State → Spares → Bool
is_last_vacant s spare = nat_lt 0 (length spare.unnamed) && is_vacant s (last_unnamed spare)

-- no handle names some object, and the one whose turn it is is gone
abbrev pub is_turn_vacant : State → Spares → Bool
is_turn_vacant s spare = nat_lt 0 (length spare.unnamed) && is_vacant s (turn_unnamed spare)

-- the place that a creation finds: that of the object freed last, if it is gone; else that of the one whose turn it is, if that is gone
abbrev pub IsFound : State → Spares → Option ℕ → Type 0
IsFound s spare found =
    MatchBool (is_last_vacant s spare) (found ≡ Some (length spare.unnamed - 1)) (MatchBool (is_turn_vacant s spare) (found ≡ Some (turn_place spare)) (found ≡ None))

-- whose turn it is after a look: the next one's, unless the object freed last was gone, or there is none
abbrev pub next_turn : State → Spares → ℕ
next_turn s spare = if nat_lt 0 (length spare.unnamed) && not (is_vacant s (last_unnamed spare)) then turn_place spare + 1 else spare.turn

-- a lawful dispatcher, and its spare numbers
pub record HasSpare (core : Dispatcher) (numbers : Spares) : Type 0 where
  pub lawful : IsLawful core
  pub spare : IsSpare (state core) numbers

-- a handle is closed, and this one was closed last
pub record IsClosedLast (spare : Spares) (h : ℕ) : Type 0 where
  pub closed : 0 < length spare.closed
  pub handle : h ≡ last_closed spare

-- the spare numbers, if there are any, are just those that may be given again
abbrev pub MaySpare : State → Option Spares → Type 0
MaySpare s None = Unit {0}
MaySpare s (Some spare) = IsSpare s spare

-- ---- creations and duplicates

-- it is a creation
abbrev pub is_creation : Act → Bool
is_creation (Act.CreateEvent flags) = true
is_creation (Act.CreateSemaphore initial maximum) = true
is_creation (Act.CreateMutex flags) = true
is_creation (Act.SetEvent h) = false
is_creation (Act.ResetEvent h) = false
is_creation (Act.PulseEvent h) = false
is_creation (Act.ReleaseSemaphore h n) = false
is_creation (Act.ReleaseMutex h) = false
is_creation (Act.CreateTimer flags) = true
is_creation (Act.SetTimer h due period routine) = false
is_creation (Act.CancelTimer h) = false
is_creation (Act.QueueApc h routine arg) = false
is_creation Act.NextApc = false
is_creation (Act.Duplicate source access) = false
is_creation (Act.Close h) = false

-- a handle is closed, and the object whose number was freed last is gone
abbrev pub can_give_last : State → Spares → Bool
can_give_last s spare = nat_lt 0 (length spare.closed) && is_last_vacant s spare

-- a handle is closed, and the object whose turn it is is gone
abbrev pub can_give_turn : State → Spares → Bool
can_give_turn s spare = nat_lt 0 (length spare.closed) && is_turn_vacant s spare

-- the object gets the number of one that is gone, and its handle that of the handle that was closed last
abbrev pub CreatesSpare : State → Spares → ℕ → Act → Result Reply Refusal → List Grant → State → Type 0
CreatesSpare old spare who act result grants new =
    (0 < length spare.closed) × ((o : ℕ) × (is_vacant old o ≡ true) × CreatesAgain old who act o (last_closed spare) result grants new)

-- the creation, once an object number was added for it: nothing refuses it then; where memory was refused to that, it is refused
abbrev pub CreatesBeside : Result ℕ Refusal → State → State → ℕ → ℕ → Act → Result Reply Refusal → List Grant → State → Type 0
CreatesBeside (Ok o) old mid h who act result grants new = (result ≡ Ok (Reply.Handle h)) × CreatesAgain mid who act o h result grants new
CreatesBeside (Err cause) old mid h who act result grants new = (result ≡ Err cause) × (grants ≡ []) × (new ≡ old)

-- each handle number was handed out: an object number is added, and the handle gets the number of the one that was closed last
abbrev pub CreatesMore : State → Spares → ℕ → Act → Result Reply Refusal → List Grant → State → Type 0
CreatesMore old spare who act result grants new =
    (0 < length spare.closed) × (MAX_HANDLES ≤ length old.handles)
    × ((added : Result ℕ Refusal) × (mid : State) × AddsVacant old added [] mid × CreatesBeside added old mid (last_closed spare) who act result grants new)

-- a creation at the limit: with the number of an object that is gone, or with one that is added
abbrev pub CreatesAtLimit : State → Spares → ℕ → Act → Result Reply Refusal → List Grant → State → Type 0
CreatesAtLimit old spare who act result grants new = CreatesSpare old spare who act result grants new ⊎ CreatesMore old spare who act result grants new

-- each handle number was handed out, and nothing else refuses this creation
pub record LacksOnlyNumbers (s : State) (who : ℕ) (act : Act) : Type 0 where
  pub full : MAX_HANDLES ≤ length s.handles
  pub caller : refusal s who false Call.Exit ≡ None
  pub lawful_act : is_none (creation who act) ≡ false

-- the numbers that were freed last can't both be given: the machine's own creation, with the next new numbers, or one at the limit
abbrev pub CreatesElse : State → Spares → ℕ → Act → Result Reply Refusal → List Grant → State → Type 0
CreatesElse old spare who act result grants new =
    Called old who (Call.Act act) result grants new
    ⊎ CreatesAtLimit old spare who act result grants new

-- the object freed last is not gone: the creation takes the number of the object whose turn it is, if that is gone
abbrev pub CreatesByTurn : State → Spares → ℕ → Act → Result Reply Refusal → List Grant → State → Type 0
CreatesByTurn old spare who act result grants new =
    MatchBool (can_give_turn old spare)
    (CreatesAgain old who act (turn_unnamed spare) (last_closed spare) result grants new)
    (CreatesElse old spare who act result grants new)

-- a creation takes the numbers that were freed last, if both can be given
abbrev pub LastsCreation : State → Spares → ℕ → Act → Result Reply Refusal → List Grant → State → Type 0
LastsCreation old spare who act result grants new =
    MatchBool (can_give_last old spare)
    (CreatesAgain old who act (last_unnamed spare) (last_closed spare) result grants new)
    (CreatesByTurn old spare who act result grants new)

-- a duplicate takes the number of the handle that was closed last; where none is closed, it is the machine's own
abbrev pub LastsDuplicate : State → Spares → ℕ → ℕ → ℕ → Result Reply Refusal → List Grant → State → Type 0
LastsDuplicate old spare who source access result grants new =
    MatchBool (nat_lt 0 (length spare.closed))
    (DuplicatesAgain old who source access (last_closed spare) result grants new)
    (Called old who (Call.Act (Act.Duplicate source access)) result grants new)

-- ---- a call

-- it takes a number, or gives one back: a creation, a duplicate or a close
abbrev pub is_numbered : Call → Bool
is_numbered (Call.Act (Act.Duplicate source access)) = true
is_numbered (Call.Act (Act.Close handle)) = true
is_numbered (Call.Act act) = is_creation act
is_numbered call = false

-- the same of a dispatcher that gives numbers again
abbrev pub gives : Option Spares → Call → Bool
gives None call = false
gives (Some spare) call = is_numbered call

abbrev pub LastsAct : State → Spares → ℕ → Act → Result Reply Refusal → List Grant → State → Type 0
LastsAct old spare who (Act.Duplicate source access) result grants new = LastsDuplicate old spare who source access result grants new
LastsAct old spare who act result grants new =
    MatchBool (is_creation act) (LastsCreation old spare who act result grants new) (Called old who (Call.Act act) result grants new)

-- a call of a dispatcher that lasts: creations and duplicates as above, and all others the machine's own
abbrev pub LastsCall : State → Spares → ℕ → Call → Result Reply Refusal → List Grant → State → Type 0
LastsCall old spare who (Call.Act act) result grants new = LastsAct old spare who act result grants new
LastsCall old spare who call result grants new = Called old who call result grants new

-- the same; if the dispatcher gives no number again, every call is the machine's own
abbrev pub MakesCall : State → Option Spares → ℕ → Call → Result Reply Refusal → List Grant → State → Type 0
MakesCall old None who call result grants new = Called old who call result grants new
MakesCall old (Some spare) who call result grants new = LastsCall old spare who call result grants new

-- a refused call changes nothing and ends no wait
abbrev pub IsUnchanged : State → Result Reply Refusal → List Grant → State → Type 0
IsUnchanged old (Ok reply) grants new = Unit {0}
IsUnchanged old (Err cause) grants new = (grants ≡ []) × (new ≡ old)

-- ---- the limit

-- all 65,536 handles are open
abbrev pub NoHandle : State → Type 0
NoHandle s = (MAX_HANDLES ≤ length s.handles) × ((h : ℕ) → is_closed s h ≡ false)

-- none of 65,536 object numbers can be given: each is a thread's, or its object lives, or an APC of it is queued
abbrev pub NoObject : State → Type 0
NoObject s = (MAX_HANDLES ≤ length s.objects) × ((o : ℕ) → is_vacant s o ≡ false)

-- there is no number for the call: no handle for a duplicate, and no handle or no object for a creation
abbrev pub FindsNone : State → Call → Type 0
FindsNone s (Call.Act (Act.Duplicate source access)) = NoHandle s
FindsNone s (Call.Act act) = (is_creation act ≡ true) × (NoHandle s ⊎ NoObject s)
FindsNone s call = ⊥

-- the same; if the dispatcher gives no number again, the machine's own words say when there is none
abbrev pub FindsNoneFor : State → Option Spares → Call → Type 0
FindsNoneFor s None call = Unit {0}
FindsNoneFor s (Some spare) call = FindsNone s call

-- ---- threads

-- a thread begins in this place, of one that has ended, and its handle gets the number of the handle that was closed last; or nothing
-- changes, since the place is not free so, or no handle was closed
abbrev pub BeginsThis : State → Spares → ℕ → Option ℕ → List Grant → State → Type 0
BeginsThis old spare t (Some handle) grants new = (0 < length spare.closed) × (handle ≡ last_closed spare) × BeginsAgain old t handle (Ok (Reply.Handle handle)) grants new
BeginsThis old spare t None grants new = ((length spare.closed ≡ 0) ⊎ (is_left old t ≡ false)) × (new ≡ old)

-- the same; none begins if no number is given again
abbrev pub MayBeginThis : State → Option Spares → ℕ → Option ℕ → List Grant → State → Type 0
MayBeginThis old None t begun grants new = (begun ≡ None) × (new ≡ old)
MayBeginThis old (Some spare) t begun grants new = BeginsThis old spare t begun grants new

-- a thread begins with this handle in the first place of one that has ended; or nothing changes, since there is no such place
abbrev pub BeginsSomewhere : State → ℕ → Option ℕ → List Grant → State → Type 0
BeginsSomewhere old h (Some t) grants new = ((u : ℕ) → u < t → is_left old u ≡ false) × BeginsAgain old t h (Ok (Reply.Handle h)) grants new
BeginsSomewhere old h None grants new = ((t : ℕ) → is_left old t ≡ false) × (new ≡ old)

-- a thread begins so in the first place that is free; or nothing changes, since there is no such place, or no handle was closed
abbrev pub BeginsSpare : State → Spares → Option Begun → List Grant → State → Type 0
BeginsSpare old spare (Some begun) grants new = ((t : ℕ) → t < begun.thread → is_left old t ≡ false) × BeginsThis old spare begun.thread (Some begun.handle) grants new
BeginsSpare old spare None grants new = ((length spare.closed ≡ 0) ⊎ ((t : ℕ) → is_left old t ≡ false)) × (new ≡ old)

-- the same; none begins if no number is given again
abbrev pub MayBegin : State → Option Spares → Option Begun → List Grant → State → Type 0
MayBegin old None begun grants new = (begun ≡ None) × (new ≡ old)
MayBegin old (Some spare) begun grants new = BeginsSpare old spare begun grants new

-- ---- the object of an ended thread is set aside

-- the thread's object gets the number o, which is returned
abbrev pub MovesAside : State → ℕ → ℕ → Result ℕ Refusal → List Grant → State → Type 0
MovesAside old t o result grants new = (result ≡ Ok o) × SetsAside old t o true grants new

-- the same, once an object number was added for it; if none could be added, it is refused with that cause
abbrev pub AsideBeside : Result ℕ Refusal → State → State → ℕ → Result ℕ Refusal → List Grant → State → Type 0
AsideBeside (Ok o) old mid t result grants new = MovesAside mid t o result grants new
AsideBeside (Err cause) old mid t result grants new = (result ≡ Err cause) × (new ≡ old)

-- it gets the number of an object that is gone, or, if there is none, one that is added
abbrev pub FindsNumber : State → ℕ → Result ℕ Refusal → List Grant → State → Type 0
FindsNumber old t result grants new =
    ((o : ℕ) × (is_vacant old o ≡ true) × MovesAside old t o result grants new)
    ⊎ (((o : ℕ) → is_vacant old o ≡ false) × ((added : Result ℕ Refusal) × (mid : State) × AddsVacant old added [] mid × AsideBeside added old mid t result grants new))

-- the same; if the thread's object can't be moved, it is refused with 6, and nothing changes
abbrev pub SetsAsideSpare : State → ℕ → Result ℕ Refusal → List Grant → State → Type 0
SetsAsideSpare old t result grants new = MatchBool (is_movable old t) (FindsNumber old t result grants new) ((result ≡ Err InvalidHandle) × (new ≡ old))

-- the same; none is set aside if no number is given again
abbrev pub MaySetAside : State → Option Spares → ℕ → Result ℕ Refusal → List Grant → State → Type 0
MaySetAside old None t result grants new = (result ≡ Err InvalidHandle) × (new ≡ old)
MaySetAside old (Some spare) t result grants new = SetsAsideSpare old t result grants new

-- ---- numbers are given again from now on

-- each number that may be given again is spare once, and they are given again from now on, or were before; refused with 8, each is given
-- once as before
abbrev pub GivesFromNow : State → Option Spares → Result (Unit {0}) Refusal → Option Spares → Type 0
GivesFromNow s (Some spare) result new = (result ≡ Ok tt) × (new ≡ Some spare)
GivesFromNow s None (Ok done) new = (spare : Spares) × (new ≡ Some spare) × IsSpare s spare
GivesFromNow s None (Err cause) new = (cause ≡ Memory) × (new ≡ None)

-- ---- what every call keeps

-- no more waits end than pended, one begins at most and only in a wait, each pending wait pends on or is granted, and no time passes
pub record KeepsPace (old : State) (who : ℕ) (call : Call) (result : Result Reply Refusal) (grants : List Grant) (new : State) : Type 0 where
  pub most : length grants ≤ map.len old.waits
  pub few : length grants + map.len new.waits ≤ map.len old.waits + 1
  pub moves : Moves old who (pended result) grants new
  pub waits : pended result ≡ true → is_wait call ≡ true
  pub moment : new.now ≡ old.now

-- a call looks at no waits but those that it must, and a refused one at none
pub record LooksAt (old : Dispatcher) (who : ℕ) (call : Call) (result : Result Reply Refusal) (new : Dispatcher) : Type 0 where
  pub local : OnOk result (IsLocal (state old) who (call_named old.handles call) new.table.looked new.grants)
  pub untested : OnErr result (new.table.looked ≡ 0)

-- ---- which number comes next

-- the last number is taken, or none
abbrev pub Pops : List ℕ → List ℕ → Type 0
Pops old new = (new ≡ old) ⊎ ((n : ℕ) × (old ≡ new ++ n ∷ []))

-- what a call does to the numbers of closed handles: that of a handle that it closes comes last; else it takes the last, or none
abbrev pub IsStacked : Call → Result Reply Refusal → List ℕ → List ℕ → Type 0
IsStacked (Call.Act (Act.Close h)) (Ok reply) old new = new ≡ old ++ h ∷ []
IsStacked call result old new = Pops old new

-- the same; if no number is given again, there is none before or after
abbrev pub MayStack : Call → Result Reply Refusal → Option Spares → Option Spares → Type 0
MayStack call result (Some old) (Some new) = IsStacked call result old.closed new.closed
MayStack call result old new = (old ≡ None) × (new ≡ None)

-- whose turn it is after a call: a creation moves it on where a handle is closed, but the object freed last is not gone
abbrev pub turn_after : State → Spares → Call → ℕ
turn_after s spare (Call.Act act) = if is_creation act && nat_lt 0 (length spare.closed) then next_turn s spare else spare.turn
turn_after s spare call = spare.turn

-- the same; if no number is given again, it is nobody's turn
abbrev pub MayTurn : State → Call → Option Spares → Option Spares → Type 0
MayTurn s call (Some old) (Some new) = new.turn ≡ turn_after s old call
MayTurn s call old new = (old ≡ None) × (new ≡ None)

-- a creation finds a handle that was closed, and the number of an object that is gone: the one freed last, or the one whose turn it is
abbrev pub finds_object : State → Spares → Bool
finds_object s spare = can_give_last s spare || can_give_turn s spare

-- a creation that finds none leaves the numbers of objects in their order, unless each handle number was handed out
abbrev pub KeepsOrder : State → Call → Spares → Spares → Type 0
KeepsOrder s (Call.Act act) old new = is_creation act ≡ true → finds_object s old ≡ false → length s.handles < MAX_HANDLES → new.unnamed ≡ old.unnamed
KeepsOrder s call old new = Unit {0}

-- the same; if no number is given again, there is none to keep
abbrev pub MayKeepOrder : State → Call → Option Spares → Option Spares → Type 0
MayKeepOrder s call (Some old) (Some new) = KeepsOrder s call old new
MayKeepOrder s call old new = Unit {0}

-- the last number is taken, or none; if no number is given again, there is none before or after
abbrev pub MayPop : Option Spares → Option Spares → Type 0
MayPop (Some old) (Some new) = Pops old.closed new.closed
MayPop old new = (old ≡ None) × (new ≡ None)

-- the numbers of closed handles are the same
abbrev pub KeepsClosed : Option Spares → Option Spares → Type 0
KeepsClosed (Some old) (Some new) = new.closed ≡ old.closed
KeepsClosed old new = (old ≡ None) × (new ≡ None)

-- ---- a call as a whole

-- a lawful dispatcher with its spare numbers, of which the last of a closed handle was taken, or none
pub record LeavesSpare (old : Spares) (core : Dispatcher) (numbers : Spares) : Type 0 where
  pub lawful : IsLawful core
  pub spare : IsSpare (state core) numbers
  pub stacked : Pops old.closed numbers.closed

-- a call that takes numbers keeps the pace, looks at no waits but those that it must, and leaves the spare numbers so
pub record TakesNumbers (old : Dispatcher) (spare : Spares) (who : ℕ) (call : Call) (result : Result Reply Refusal) (new : Dispatcher) (after : Spares) : Type 0 where
  pub pace : KeepsPace (state old) who call result new.grants (state new)
  pub looks : LooksAt old who call result new
  pub leaves : LeavesSpare spare new after

-- a call is refused with HandleLimit only if there is no number for it, and is never accepted then; it looks at no waits but those that it
-- must
pub record KeepsLimits (old : Dispatcher) (spare : Option Spares) (who : ℕ) (call : Call) (result : Result Reply Refusal) (new : Dispatcher) : Type 0 where
  pub limit : result ≡ Err HandleLimit → FindsNoneFor (state old) spare call
  pub taken : IfSome spare (λ numbers. FindsNone (state old) call → OnOk result ⊥)
  pub looks : LooksAt old who call result new

-- a call is made as above, within these limits; it takes or gives the numbers of closed handles in order, and the turn goes round; it keeps
-- the pace, changes nothing if it is refused, and all stays lawful
pub record Lasts (old : Dispatcher) (spare : Option Spares) (who : ℕ) (call : Call) (result : Result Reply Refusal) (new : Dispatcher) (after : Option Spares) : Type 0 where
  pub makes : MakesCall (state old) spare who call result new.grants (state new)
  pub limits : KeepsLimits old spare who call result new
  pub stacked : MayStack call result spare after
  pub turned : MayTurn (state old) call spare after
  pub ordered : MayKeepOrder (state old) call spare after
  pub pace : KeepsPace (state old) who call result new.grants (state new)
  pub unchanged : IsUnchanged (state old) result new.grants (state new)
  pub lawful : IsLawful new
