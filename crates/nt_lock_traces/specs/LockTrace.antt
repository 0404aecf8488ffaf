-- What a trace of the lock stands for: the same words as in nt_protocols' specs/Lock.antt, of a fixed number of threads.
use Rattle.std.specs.Prelude.{◌≡◌, ◌≢◌, IsTrue, IsFalse, ℕ, ◌<◌, Bool, true, false, List, [], ◌∷◌, length, get_or, Option, Some, None}
use Rattle.nt_protocols.specs.Lock as Lock
use Rattle.nt_protocols.specs.Threads.{put, Step}
use Rattle.nt_lock_traces.specs.declared.lock.LockWord.{LockWord}
use Rattle.nt_lock_traces.specs.declared.lock.Buffer.{Buffer}
use Rattle.nt_lock_traces.specs.declared.lock.LockPlace.{LockPlace}
use Rattle.nt_lock_traces.specs.declared.lock.Frame.{Frame}
use Rattle.nt_lock_traces.specs.declared.lock.Seat.{Seat}
use Rattle.nt_lock_traces.specs.declared.lock_kinds.LockKind.{LockKind}
use Rattle.nt_lock_traces.specs.declared.lock_kinds.FavouredStep.{FavouredStep}
use Rattle.nt_lock_traces.specs.declared.lock_kinds.TakingStep.{TakingStep}
use Rattle.nt_lock_traces.specs.declared.lock_kinds.SleepingStep.{SleepingStep}
use Rattle.nt_lock_traces.specs.declared.lock_kinds.RevokingStep.{RevokingStep}
use Rattle.nt_lock_traces.specs.declared.lock_kinds.OwningStep.{OwningStep}
use Rattle.nt_lock_traces.specs.declared.lock_kinds.ArrivingStep.{ArrivingStep}
use Rattle.nt_lock_traces.specs.declared.lock_kinds.HandlingStep.{HandlingStep}
use Rattle.nt_lock_traces.specs.declared.lock.LockEvent.{LockEvent}
use Rattle.nt_lock_traces.specs.declared.lock_run.LockRun.{LockRun}
use Rattle.nt_lock_traces.specs.declared.lock_test.LockTest.{LockTest}

-- the lock's word, a store that waits, and a place, as the protocol has them
abbrev pub lock_of : LockWord → Lock.Lock
lock_of LockWord.Free = Lock.Lock.Free
lock_of LockWord.Taken = Lock.Lock.Taken
lock_of LockWord.Wanted = Lock.Lock.Wanted
lock_of (LockWord.Favours n) = Lock.Lock.Favours n

abbrev pub buffer_of : Buffer → Lock.Buffer
buffer_of Buffer.Empty = Lock.Buffer.Empty
buffer_of (Buffer.Holds inside) = Lock.Buffer.Holds inside

abbrev pub place_of : LockPlace → Lock.Place
place_of LockPlace.Out = Lock.Place.Out
place_of LockPlace.ToStore = Lock.Place.ToStore
place_of LockPlace.ToCheck = Lock.Place.ToCheck
place_of LockPlace.Inside = Lock.Place.Inside
place_of LockPlace.ToStepBack = Lock.Place.ToStepBack
place_of LockPlace.ToReload = Lock.Place.ToReload
place_of LockPlace.ToWakeRevoker = Lock.Place.ToWakeRevoker
place_of LockPlace.ToTake = Lock.Place.ToTake
place_of LockPlace.ToMark = Lock.Place.ToMark
place_of LockPlace.ToPay = Lock.Place.ToPay
place_of LockPlace.ToSleep = Lock.Place.ToSleep
place_of LockPlace.Asleep = Lock.Place.Asleep
place_of (LockPlace.ToBar n once) = Lock.Place.ToBar n once
place_of (LockPlace.ToLook n once) = Lock.Place.ToLook n once
place_of (LockPlace.ToSleepOn n) = Lock.Place.ToSleepOn n
place_of (LockPlace.AsleepOn n) = Lock.Place.AsleepOn n
place_of (LockPlace.ToPutBack n) = Lock.Place.ToPutBack n
place_of LockPlace.Owner = Lock.Place.Owner
place_of LockPlace.ToFavour = Lock.Place.ToFavour
place_of LockPlace.ToUnset = Lock.Place.ToUnset
place_of LockPlace.ToWake = Lock.Place.ToWake

-- where a handler has interrupted its thread, and what handlers have
abbrev pub frame_of : Frame → Lock.Frame
frame_of Frame.AtStore = Lock.Frame.AtStore
frame_of Frame.AtReload = Lock.Frame.AtReload
frame_of Frame.AtWakeRevoker = Lock.Frame.AtWakeRevoker
frame_of Frame.AtMark = Lock.Frame.AtMark
frame_of Frame.AtPay = Lock.Frame.AtPay
frame_of Frame.AtSleep = Lock.Frame.AtSleep
frame_of Frame.AtWake = Lock.Frame.AtWake

abbrev pub under_of : Option Frame → List Lock.Frame
under_of None = []
under_of (Some frame) = frame_of frame ∷ []

-- a thread, and one that has not asked
abbrev pub seat_of : Seat → Lock.Seat
seat_of a = record { place = place_of a.place; inside = a.inside; buffer = buffer_of a.buffer; under = under_of a.under }

abbrev pub outside : Seat
outside = record { place = LockPlace.Out; inside = false; buffer = Buffer.Empty; under = None }

-- the protocol's state to which the trace has led: threads beyond the list have not asked
abbrev pub state_of : LockRun → Lock.State
state_of r = record { lock = lock_of r.lock; seats = λ t. seat_of (get_or r.seats.items t outside) }

-- the step of the protocol that an event names, of t, and of u where it names another
abbrev pub favoured_event : FavouredStep → ℕ → ℕ → Lock.Event
favoured_event FavouredStep.SeesFavour t u = Lock.Event.SeesFavour t
favoured_event FavouredStep.StoresInside t u = Lock.Event.StoresInside t
favoured_event FavouredStep.Enters t u = Lock.Event.Enters t
favoured_event FavouredStep.MissesFavour t u = Lock.Event.MissesFavour t
favoured_event FavouredStep.StepsBack t u = Lock.Event.StepsBack t
favoured_event FavouredStep.StepsOut t u = Lock.Event.StepsOut t
favoured_event FavouredStep.KeepsFavour t u = Lock.Event.KeepsFavour t
favoured_event FavouredStep.FindsRevoked t u = Lock.Event.FindsRevoked t
favoured_event FavouredStep.WakesRevoker t u = Lock.Event.WakesRevoker t u
favoured_event FavouredStep.WakesNoRevoker t u = Lock.Event.WakesNoRevoker t

abbrev pub taking_event : TakingStep → ℕ → ℕ → Lock.Event
taking_event TakingStep.Asks t u = Lock.Event.Asks t
taking_event TakingStep.TakesFree t u = Lock.Event.TakesFree t
taking_event TakingStep.TriesFree t u = Lock.Event.TriesFree t
taking_event TakingStep.Revokes t u = Lock.Event.Revokes t u
taking_event TakingStep.TriesFavoured t u = Lock.Event.TriesFavoured t u
taking_event TakingStep.StopsLooking t u = Lock.Event.StopsLooking t
taking_event TakingStep.MarksFree t u = Lock.Event.MarksFree t
taking_event TakingStep.MarksFavoured t u = Lock.Event.MarksFavoured t u
taking_event TakingStep.MarksHeld t u = Lock.Event.MarksHeld t

abbrev pub sleeping_event : SleepingStep → ℕ → ℕ → Lock.Event
sleeping_event SleepingStep.PaysOne t u = Lock.Event.PaysOne t u
sleeping_event SleepingStep.PaysNobody t u = Lock.Event.PaysNobody t
sleeping_event SleepingStep.FallsAsleep t u = Lock.Event.FallsAsleep t
sleeping_event SleepingStep.FindsUnwanted t u = Lock.Event.FindsUnwanted t
sleeping_event SleepingStep.Stirs t u = Lock.Event.Stirs t
sleeping_event SleepingStep.Restarts t u = Lock.Event.Restarts t

abbrev pub revoking_event : RevokingStep → ℕ → ℕ → Lock.Event
revoking_event RevokingStep.PassesBarrier t u = Lock.Event.PassesBarrier t u false
revoking_event RevokingStep.PassesBarrierOnce t u = Lock.Event.PassesBarrier t u true
revoking_event RevokingStep.FindsOutside t u = Lock.Event.FindsOutside t u false
revoking_event RevokingStep.FindsOutsideOnce t u = Lock.Event.FindsOutside t u true
revoking_event RevokingStep.FindsInside t u = Lock.Event.FindsInside t u
revoking_event RevokingStep.Declines t u = Lock.Event.Declines t u
revoking_event RevokingStep.FallsAsleepOn t u = Lock.Event.FallsAsleepOn t u
revoking_event RevokingStep.FindsLeft t u = Lock.Event.FindsLeft t u
revoking_event RevokingStep.StirsOn t u = Lock.Event.StirsOn t u
revoking_event RevokingStep.RestartsOn t u = Lock.Event.RestartsOn t u
revoking_event RevokingStep.PutsBack t u = Lock.Event.PutsBack t u

abbrev pub owning_event : OwningStep → ℕ → ℕ → Lock.Event
owning_event OwningStep.StoresFirst t u = Lock.Event.StoresFirst t
owning_event OwningStep.GainsFavour t u = Lock.Event.GainsFavour t
owning_event OwningStep.MissesTaken t u = Lock.Event.MissesTaken t
owning_event OwningStep.UnstoresInside t u = Lock.Event.UnstoresInside t
owning_event OwningStep.GivesBack t u = Lock.Event.GivesBack t
owning_event OwningStep.WakesOne t u = Lock.Event.WakesOne t u
owning_event OwningStep.WakesNobody t u = Lock.Event.WakesNobody t

abbrev pub arriving_event : ArrivingStep → ℕ → ℕ → Lock.Event
arriving_event ArrivingStep.SetArrives t u = Lock.Event.StoreArrives t true
arriving_event ArrivingStep.ClearArrives t u = Lock.Event.StoreArrives t false

abbrev pub handling_event : HandlingStep → ℕ → ℕ → Lock.Event
handling_event (HandlingStep.Interrupts frame) t u = Lock.Event.Interrupts t (frame_of frame)
handling_event (HandlingStep.Resumes frame) t u = Lock.Event.Resumes t (frame_of frame) []

abbrev pub event_of : LockKind → ℕ → ℕ → Lock.Event
event_of (LockKind.Favoured step) t u = favoured_event step t u
event_of (LockKind.Taking step) t u = taking_event step t u
event_of (LockKind.Sleeping step) t u = sleeping_event step t u
event_of (LockKind.Revoking step) t u = revoking_event step t u
event_of (LockKind.Owning step) t u = owning_event step t u
event_of (LockKind.Arriving step) t u = arriving_event step t u
event_of (LockKind.Handling step) t u = handling_event step t u

-- an event's step: the protocol's
abbrev pub step : Lock.State → LockEvent → Step Lock.State
step s e = Lock.step s (event_of e.kind e.thread e.other)

-- an event of so many threads
abbrev pub IsWithin : ℕ → LockEvent → Type 0
IsWithin threads e = (e.thread < threads) × (e.other < threads)

-- a run has room for it: no handler interrupts another
abbrev pub RoomFor : List Lock.Frame → LockKind → Type 0
RoomFor under (LockKind.Handling (HandlingStep.Interrupts frame)) = under ≡ []
RoomFor under kind = Unit {0}

abbrev pub HasRoom : Lock.State → LockEvent → Type 0
HasRoom s e = RoomFor (s.seats e.thread).under e.kind

-- the run has come to this state, with as many threads
abbrev pub Becomes : LockRun → Lock.State → LockRun → Type 0
Becomes old s new = (state_of new ≡ s) × (length new.seats.items ≡ length old.seats.items)

-- whether such a step comes next: if so it has, and if not it can't, and nothing changes
abbrev pub Reads : LockRun → Step Lock.State → LockRun → Bool → Type 0
Reads old e new comes =
    (IsTrue comes → e.may × (state_of new ≡ e.after))
    × (IsFalse comes → (e.may → ⊥) × (new ≡ old))
    × (length new.seats.items ≡ length old.seats.items)

-- a test of the lock, and what it asks
abbrev pub Holds : Lock.State → LockTest → Type 0
Holds s (LockTest.Is l) = s.lock ≡ lock_of l
Holds s (LockTest.IsNot l) = s.lock ≢ lock_of l
Holds s LockTest.IsHeld = Lock.is_held s.lock ≡ true

-- the plain store of thread t arrives
abbrev pub arrives : Lock.State → ℕ → Bool → Lock.State
arrives s t inside = record s { seats = put s.seats t (record (s.seats t) { inside = inside; buffer = Lock.Buffer.Empty }) }
