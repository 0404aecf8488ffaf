-- What a trace of parking stands for: the same words as in nt_protocols' specs/Parking.antt, of a fixed number of threads. How often a thread was
-- unparked, and has answered that, no step asks: so neither is counted here (`AsIfCounted` says that nothing is lost by it).
use Rattle.std.specs.Prelude.{◌≡◌, ◌↔◌, IsTrue, IsFalse, ℕ, ◌<◌, Bool, false, List, [], length, get_or}
use Rattle.nt_protocols.specs.Parking as Protocol
use Rattle.nt_protocols.specs.Threads.{Step, when, Can}
use Rattle.nt_park_traces.specs.declared.park.TheConstants.{MOST_PARKED}
use Rattle.nt_park_traces.specs.declared.park.ParkStanding.{ParkStanding}
use Rattle.nt_park_traces.specs.declared.park.ParkPlace.{ParkPlace}
use Rattle.nt_park_traces.specs.declared.park.ParkSeat.{ParkSeat}
use Rattle.nt_park_traces.specs.declared.park.ParkKind.{ParkKind}
use Rattle.nt_park_traces.specs.declared.park.ParkEvent.{ParkEvent}
use Rattle.nt_park_traces.specs.declared.park_run.ParkRun.{ParkRun}

-- where a thread stands, and a place, as the protocol has them
abbrev pub standing_of : ParkStanding → Protocol.Standing
standing_of ParkStanding.Absent = Protocol.Standing.Absent
standing_of ParkStanding.Listed = Protocol.Standing.Listed
standing_of (ParkStanding.Taken t) = Protocol.Standing.Taken t

abbrev pub place_of : ParkPlace → Protocol.Place
place_of ParkPlace.Out = Protocol.Place.Out
place_of ParkPlace.TakesToLook = Protocol.Place.ToTake Protocol.Place.ToLook
place_of ParkPlace.TakesToLeave = Protocol.Place.ToTake Protocol.Place.ToLeave
place_of (ParkPlace.TakesToUnpark all) = Protocol.Place.ToTake (Protocol.Place.Unparking all)
place_of ParkPlace.GivesToGo = Protocol.Place.ToGive Protocol.Place.Out
place_of ParkPlace.GivesToSleep = Protocol.Place.ToGive Protocol.Place.ToSleep
place_of ParkPlace.GivesToWake = Protocol.Place.ToGive Protocol.Place.Waking
place_of ParkPlace.ToLook = Protocol.Place.ToLook
place_of ParkPlace.ToPark = Protocol.Place.ToPark
place_of ParkPlace.ToSleep = Protocol.Place.ToSleep
place_of ParkPlace.Asleep = Protocol.Place.Asleep
place_of ParkPlace.ToLoad = Protocol.Place.ToLoad
place_of ParkPlace.ToLeave = Protocol.Place.ToLeave
place_of (ParkPlace.ToCheck all) = Protocol.Place.ToCheck all
place_of (ParkPlace.Unparking all) = Protocol.Place.Unparking all
place_of ParkPlace.Waking = Protocol.Place.Waking

-- a thread, and one that has not called
abbrev pub seat_of : ParkSeat → Protocol.Seat
seat_of a = record {
  place = place_of a.place;
  parked = a.parked;
  standing = standing_of a.standing;
  expected = a.expected;
  unparks = 0;
  answers = 0;
}

abbrev pub outside : ParkSeat
outside = record { place = ParkPlace.Out; parked = false; standing = ParkStanding.Absent; expected = 0; owes = [] }

-- the threads of this list, and to whom each owes a wake-up
abbrev pub seats_of : List ParkSeat → ℕ → Protocol.Seat
seats_of seats t = seat_of (get_or seats t outside)

abbrev pub owes_of : List ParkSeat → ℕ → ℕ → Bool
owes_of seats t u = get_or (get_or seats t outside).owes u false

-- the protocol's state to which the trace has led: threads beyond the list have not called
abbrev pub state_of : ParkRun → Protocol.State
state_of r = record { value = r.value; latch = r.latch; seats = seats_of r.seats.items; owes = owes_of r.seats.items }

-- how many threads a run has
abbrev pub threads_of : ParkRun → ℕ
threads_of r = length r.seats.items

-- the same thread, and all of them, with nothing counted
abbrev pub uncounted_seat : Protocol.Seat → Protocol.Seat
uncounted_seat a = record a { unparks = 0; answers = 0 }

abbrev pub uncounted : Protocol.State → Protocol.State
uncounted s = record s { seats = λ t. uncounted_seat (s.seats t) }

-- a step, and the protocol's step, after which nothing is counted
abbrev pub bare : Step Protocol.State → Step Protocol.State
bare e = when e.may (uncounted e.after)

abbrev pub step : Protocol.State → Protocol.Event → Step Protocol.State
step s e = bare (Protocol.step s e)

-- a law: what comes where nothing is counted comes as it is, and the other way round
abbrev pub AsIfCounted : Type 0
AsIfCounted = (es : List Protocol.Event) → Can step Protocol.opening es ↔ Can Protocol.step Protocol.opening es

-- the step of the protocol that an event of this kind names, of t, and of u where it names another thread, or a value
abbrev pub event_of : ParkKind → ℕ → ℕ → Protocol.Event
event_of ParkKind.Counts t u = Protocol.Event.Counts t u
event_of ParkKind.TakesToLook t u = Protocol.Event.TakesLatch t Protocol.Place.ToLook
event_of ParkKind.TakesToLeave t u = Protocol.Event.TakesLatch t Protocol.Place.ToLeave
event_of (ParkKind.TakesToUnpark all) t u = Protocol.Event.TakesLatch t (Protocol.Place.Unparking all)
event_of ParkKind.GivesToGo t u = Protocol.Event.GivesLatch t Protocol.Place.Out
event_of ParkKind.GivesToSleep t u = Protocol.Event.GivesLatch t Protocol.Place.ToSleep
event_of ParkKind.GivesToWake t u = Protocol.Event.GivesLatch t Protocol.Place.Waking
event_of ParkKind.LooksSame t u = Protocol.Event.LooksSame t
event_of ParkKind.LooksOther t u = Protocol.Event.LooksOther t
event_of ParkKind.Parks t u = Protocol.Event.Parks t
event_of ParkKind.FallsAsleep t u = Protocol.Event.FallsAsleep t
event_of ParkKind.Stirs t u = Protocol.Event.Stirs t
event_of ParkKind.Restarts t u = Protocol.Event.Restarts t
event_of ParkKind.Reads t u = Protocol.Event.Reads t
event_of ParkKind.TimesOut t u = Protocol.Event.TimesOut t
event_of ParkKind.Leaves t u = Protocol.Event.Leaves t
event_of ParkKind.Changes t u = Protocol.Event.Changes t u
event_of ParkKind.Calls t u = Protocol.Event.Calls t
event_of (ParkKind.SeesNobody all) t u = Protocol.Event.SeesNobody t all
event_of (ParkKind.SeesSome all) t u = Protocol.Event.SeesSome t all
event_of (ParkKind.TakesOff all) t u = Protocol.Event.TakesOff t u all
event_of ParkKind.Unparks t u = Protocol.Event.Unparks t u
event_of (ParkKind.Finishes all) t u = Protocol.Event.Finishes t all
event_of ParkKind.Wakes t u = Protocol.Event.Wakes t u
event_of ParkKind.Returns t u = Protocol.Event.Returns t

-- an event of so many threads (a value is below their number, too)
abbrev pub IsWithin : ℕ → ParkEvent → Type 0
IsWithin threads e = (e.thread < threads) × (e.other < threads) × (e.other < MOST_PARKED)

-- the run has come to this state, with as many threads
abbrev pub Becomes : ParkRun → Protocol.State → ParkRun → Type 0
Becomes old s new = (state_of new ≡ s) × (length new.seats.items ≡ length old.seats.items)

-- the run has made the protocol's step, with nothing counted
abbrev pub Makes : ParkRun → Protocol.Event → ParkRun → Type 0
Makes old event new = Becomes old (uncounted (Protocol.step (state_of old) event).after) new

-- whether such a step comes next: if so it has, and if not it can't, and nothing changes
abbrev pub Reads : ParkRun → Step Protocol.State → ParkRun → Bool → Type 0
Reads old e new comes =
    (IsTrue comes → e.may × (state_of new ≡ e.after))
    × (IsFalse comes → (e.may → ⊥) × (new ≡ old))
    × (threads_of new ≡ threads_of old)
