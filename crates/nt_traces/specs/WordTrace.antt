-- What a trace of the words on which threads sleep stands for: the same words as in nt_protocols' specs/Word.antt, of a fixed number of threads. How
-- many grants a thread had, and how many it has answered, no step asks: so neither is counted here (`AsIfCounted` says that nothing is lost by it).
use Rattle.std.specs.Prelude.{◌≡◌, ◌↔◌, IsTrue, IsFalse, ℕ, ◌<◌, Bool, false, List, [], length, get_or}
use Rattle.nt_protocols.specs.Word as Protocol
use Rattle.nt_protocols.specs.Threads.{put, Step, when, Can}
use Rattle.nt_traces.specs.declared.word.TheConstants.{MOST_SEATS}
use Rattle.nt_traces.specs.declared.word.WordValue.{WordValue}
use Rattle.nt_traces.specs.declared.word.WordPlace.{WordPlace}
use Rattle.nt_traces.specs.declared.word.WordSeat.{WordSeat}
use Rattle.nt_traces.specs.declared.word.WordKind.{WordKind}
use Rattle.nt_traces.specs.declared.word.WordEvent.{WordEvent}
use Rattle.nt_traces.specs.declared.word_run.WordRun.{WordRun}

-- what a word says, and a place, as the protocol has them
abbrev pub word_of : WordValue → Protocol.Word
word_of WordValue.Awake = Protocol.Word.Awake
word_of WordValue.Asleep = Protocol.Word.Asleep
word_of WordValue.Called = Protocol.Word.Called
word_of WordValue.Granted = Protocol.Word.Granted

abbrev pub place_of : WordPlace → Protocol.Place
place_of WordPlace.Outside = Protocol.Place.Outside
place_of WordPlace.InCall = Protocol.Place.InCall
place_of WordPlace.InWait = Protocol.Place.InWait
place_of WordPlace.ToCompare = Protocol.Place.ToCompare
place_of WordPlace.ToSleep = Protocol.Place.ToSleep
place_of WordPlace.Sleeping = Protocol.Place.Sleeping
place_of WordPlace.ToLoad = Protocol.Place.ToLoad
place_of WordPlace.ToLookAtTime = Protocol.Place.ToLookAtTime
place_of WordPlace.Passing = Protocol.Place.Passing

-- a thread, and one that has not called
abbrev pub seat_of : WordSeat → Protocol.Seat
seat_of a = record { word = word_of a.word; place = place_of a.place; pends = a.pends; due = a.due; grants = 0; answers = 0 }

abbrev pub outside : WordSeat
outside = record { word = WordValue.Awake; place = WordPlace.Outside; pends = false; due = false; owes = [] }

-- the threads of this list, and to whom each owes a wake-up
abbrev pub seats_of : List WordSeat → ℕ → Protocol.Seat
seats_of seats t = seat_of (get_or seats t outside)

abbrev pub owes_of : List WordSeat → ℕ → ℕ → Bool
owes_of seats t u = get_or (get_or seats t outside).owes u false

-- the protocol's state to which the trace has led: threads beyond the list have not called
abbrev pub state_of : WordRun → Protocol.State
state_of r = record { seats = seats_of r.seats.items; owes = owes_of r.seats.items }

-- the same thread, and all of them, with nothing counted
abbrev pub uncounted_seat : Protocol.Seat → Protocol.Seat
uncounted_seat a = record a { grants = 0; answers = 0 }

abbrev pub uncounted : Protocol.State → Protocol.State
uncounted s = record s { seats = λ t. uncounted_seat (s.seats t) }

-- the protocol's step, after which nothing is counted
abbrev pub step : Protocol.State → Protocol.Event → Step Protocol.State
step s e = when (Protocol.step s e).may (uncounted (Protocol.step s e).after)

-- a law: what comes where nothing is counted comes as it is, and the other way round
abbrev pub AsIfCounted : Type 0
AsIfCounted = (es : List Protocol.Event) → Can step Protocol.opening es ↔ Can Protocol.step Protocol.opening es

-- thread t owes u a wake-up, or does not, from now on
abbrev pub owing : Protocol.State → ℕ → ℕ → Bool → Protocol.State
owing s t u owed = record s { owes = put s.owes t (put (s.owes t) u owed) }

-- the step of the protocol that an event of this kind names, of t, and of u where it names another
abbrev pub event_of : WordKind → ℕ → ℕ → Protocol.Event
event_of WordKind.Enters t u = Protocol.Event.Enters t
event_of WordKind.Returns t u = Protocol.Event.Returns t
event_of WordKind.Begins t u = Protocol.Event.Begins t
event_of WordKind.TurnsToSleep t u = Protocol.Event.TurnsToSleep t
event_of WordKind.Marks t u = Protocol.Event.Marks t
event_of WordKind.FallsAsleep t u = Protocol.Event.FallsAsleep t
event_of WordKind.Stirs t u = Protocol.Event.Stirs t
event_of WordKind.Restarts t u = Protocol.Event.Restarts t
event_of WordKind.FindsItLate t u = Protocol.Event.FindsItLate t
event_of WordKind.Reads t u = Protocol.Event.Reads t
event_of WordKind.LooksAtTime t u = Protocol.Event.LooksAtTime t
event_of WordKind.Rearms t u = Protocol.Event.Rearms t
event_of WordKind.Grants t u = Protocol.Event.Grants t u
event_of WordKind.Calls t u = Protocol.Event.Calls t u
event_of WordKind.Wakes t u = Protocol.Event.Wakes t u

-- an event of so many threads
abbrev pub IsWithin : ℕ → WordEvent → Type 0
IsWithin threads e = (e.thread < threads) × (e.other < threads) × (e.other < MOST_SEATS)

-- the run has come to this state, with as many threads
abbrev pub Becomes : WordRun → Protocol.State → WordRun → Type 0
Becomes old s new = (state_of new ≡ s) × (length new.seats.items ≡ length old.seats.items)

-- the run has made the protocol's step, with nothing counted
abbrev pub Makes : WordRun → Protocol.Event → WordRun → Type 0
Makes old event new = Becomes old (uncounted (Protocol.step (state_of old) event).after) new

-- whether such a step comes next: if so it has, and if not it can't, and nothing changes
abbrev pub Reads : WordRun → Step Protocol.State → WordRun → Bool → Type 0
Reads old e new comes =
    (IsTrue comes → e.may × (state_of new ≡ e.after))
    × (IsFalse comes → (e.may → ⊥) × (new ≡ old))
    × (length new.seats.items ≡ length old.seats.items)
