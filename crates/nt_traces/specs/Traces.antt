-- What a trace says, line by line, and what is found of it.
use Rattle.std.specs.Prelude.{◌≡◌, ◌⊎◌, ℕ, ◌+◌, nat_lt, if◌then◌else◌, List, [], ◌∷◌, codes, length, option_map, Option, Some, None, Result, Ok, Err}
use Rattle.std.specs.Bool.{MatchBool}
use Rattle.std.specs.Str.{bytes_eq}
use Rattle.nt_lines.specs.Words.{digits_number, words_of}
use Rattle.nt_park_traces.specs.declared.park.ParkEvent.{ParkEvent}
use Rattle.nt_park_traces.specs.declared.park.TheConstants.{MOST_PARKED}
use Rattle.nt_park_traces.specs.ParkNames as ParkNames
use Rattle.nt_park_traces.specs.ParkTrace as ParkTrace
use Rattle.nt_protocols.specs.Lock as Lock
use Rattle.nt_protocols.specs.Parking as Parking
use Rattle.nt_protocols.specs.Word as Protocol
use Rattle.nt_protocols.specs.Threads.{Step, when}
use Rattle.nt_traces.specs.declared.entry.TheConstants.{MAX_THREADS}
use Rattle.nt_traces.specs.declared.entry.TraceEntry.{TraceEntry}
use Rattle.nt_lock_traces.specs.declared.lock.LockEvent.{LockEvent}
use Rattle.nt_traces.specs.declared.reading.Runs.{Runs}
use Rattle.nt_traces.specs.declared.reading.Taken.{Taken}
use Rattle.nt_traces.specs.declared.reading.TraceFault.{TraceFault}
use Rattle.nt_traces.specs.declared.reading.TraceVerdict.{TraceVerdict}
use Rattle.nt_traces.specs.declared.word.TheConstants.{MOST_SEATS}
use Rattle.nt_traces.specs.declared.word.WordEvent.{WordEvent}
use Rattle.nt_lock_traces.specs.LockNames as LockNames
use Rattle.nt_lock_traces.specs.LockTrace as LockTrace
use Rattle.nt_traces.specs.WordNames as WordNames
use Rattle.nt_traces.specs.WordTrace as WordTrace

-- ---- what a line says

abbrev pub below : ℕ → Option ℕ → Option ℕ
below limit None = None
below limit (Some n) = if nat_lt n limit then Some n else None

-- a number below this one, in nine digits at the most
abbrev pub number_below : ℕ → List ℕ → Option ℕ
number_below limit word = below limit (digits_number 9 word)

-- how many threads a run has, in the only word
abbrev pub opened_of : ℕ → List (List ℕ) → Option ℕ
opened_of limit [] = None
opened_of limit (word ∷ []) = number_below limit word
opened_of limit (word ∷ next ∷ words) = None

-- the other thread of an event, or 0 where no word is there
abbrev pub other_of : List (List ℕ) → Option ℕ
other_of [] = Some 0
other_of (word ∷ []) = number_below MAX_THREADS word
other_of (word ∷ next ∷ words) = None

abbrev pub both : Option ℕ → Option ℕ → Option (ℕ × ℕ)
both None other = None
both (Some thread) None = None
both (Some thread) (Some other) = Some (thread, other)

-- an event's thread and the other one
abbrev pub threads_of : List (List ℕ) → Option (ℕ × ℕ)
threads_of [] = None
threads_of (word ∷ words) = both (number_below MAX_THREADS word) (other_of words)

-- a run begins: `opening`, the protocol's name, and how many threads there are
abbrev pub opening_of : List (List ℕ) → Option TraceEntry
opening_of [] = None
opening_of (protocol ∷ words) =
    if bytes_eq protocol (codes "lock") then option_map (λ n. TraceEntry.LockOpens n) (opened_of (MAX_THREADS + 1) words)
    else (if bytes_eq protocol (codes "word") then option_map (λ n. TraceEntry.WordOpens n) (opened_of (MOST_SEATS + 1) words)
    else (if bytes_eq protocol (codes "park") then option_map (λ n. TraceEntry.ParkOpens n) (opened_of (MOST_PARKED + 1) words) else None))

-- an event with this name, of these threads; or why there is none
abbrev pub IsLockEvent : List ℕ → Option (ℕ × ℕ) → Option LockEvent → Type 0
IsLockEvent name threads None = LockNames.IsNoName name ⊎ (threads ≡ None)
IsLockEvent name threads (Some e) = (LockNames.kind_text e.kind ≡ name) × (threads ≡ Some (e.thread, e.other))

abbrev pub SaysLockEvent : List (List ℕ) → Option LockEvent → Type 0
SaysLockEvent [] said = said ≡ None
SaysLockEvent (name ∷ words) said = IsLockEvent name (threads_of words) said

abbrev pub IsWordEvent : List ℕ → Option (ℕ × ℕ) → Option WordEvent → Type 0
IsWordEvent name threads None = WordNames.IsNoName name ⊎ (threads ≡ None)
IsWordEvent name threads (Some e) = (WordNames.kind_text e.kind ≡ name) × (threads ≡ Some (e.thread, e.other))

abbrev pub SaysWordEvent : List (List ℕ) → Option WordEvent → Type 0
SaysWordEvent [] said = said ≡ None
SaysWordEvent (name ∷ words) said = IsWordEvent name (threads_of words) said

abbrev pub IsParkEvent : List ℕ → Option (ℕ × ℕ) → Option ParkEvent → Type 0
IsParkEvent name threads None = ParkNames.IsNoName name ⊎ (threads ≡ None)
IsParkEvent name threads (Some e) = (ParkNames.kind_text e.kind ≡ name) × (threads ≡ Some (e.thread, e.other))

abbrev pub SaysParkEvent : List (List ℕ) → Option ParkEvent → Type 0
SaysParkEvent [] said = said ≡ None
SaysParkEvent (name ∷ words) said = IsParkEvent name (threads_of words) said

-- a line of these words says this, or nothing: a run begins; or its protocol's name, the event's, and its threads
abbrev pub Says : List (List ℕ) → Option TraceEntry → Type 0
Says [] said = said ≡ None
Says (first ∷ words) said =
    MatchBool (bytes_eq first (codes "opening")) (said ≡ opening_of words)
    (MatchBool (bytes_eq first (codes "lock")) ((e : Option LockEvent) × SaysLockEvent words e × (said ≡ option_map (λ x. TraceEntry.LockStep x) e))
    (MatchBool (bytes_eq first (codes "word")) ((e : Option WordEvent) × SaysWordEvent words e × (said ≡ option_map (λ x. TraceEntry.WordStep x) e))
    (MatchBool (bytes_eq first (codes "park")) ((e : Option ParkEvent) × SaysParkEvent words e × (said ≡ option_map (λ x. TraceEntry.ParkStep x) e))
    (said ≡ None))))

-- ---- where a trace stands

-- a run of each protocol: how many threads it has, and its state
pub record At : Type 0 where
  pub locks : ℕ
  pub lock : Lock.State
  pub words : ℕ
  pub word : Protocol.State
  pub parks : ℕ
  pub park : Parking.State

-- nothing was read
abbrev pub start : At
start = record { locks = 0; lock = Lock.opening; words = 0; word = Protocol.opening; parks = 0; park = Parking.opening }

abbrev pub at_of : Runs → At
at_of r = record {
  locks = length r.lock.seats.items;
  lock = LockTrace.state_of r.lock;
  words = length r.word.seats.items;
  word = WordTrace.state_of r.word;
  parks = ParkTrace.threads_of r.park;
  park = ParkTrace.state_of r.park;
}

-- an event names threads that its run has, which has room for it
abbrev pub Fits : At → TraceEntry → Type 0
Fits at (TraceEntry.LockOpens n) = Unit {0}
Fits at (TraceEntry.LockStep e) = LockTrace.IsWithin at.locks e × LockTrace.HasRoom at.lock e
Fits at (TraceEntry.WordOpens n) = Unit {0}
Fits at (TraceEntry.WordStep e) = WordTrace.IsWithin at.words e
Fits at (TraceEntry.ParkOpens n) = Unit {0}
Fits at (TraceEntry.ParkStep e) = ParkTrace.IsWithin at.parks e

-- what a line says comes next: a run begins, or an event of the protocol
abbrev pub step_of : At → TraceEntry → Step At
step_of at (TraceEntry.LockOpens n) = when (Unit {0}) (record at { locks = n; lock = Lock.opening })
step_of at (TraceEntry.LockStep e) = when (LockTrace.step at.lock e).may (record at { lock = (LockTrace.step at.lock e).after })
step_of at (TraceEntry.WordOpens n) = when (Unit {0}) (record at { words = n; word = Protocol.opening })
step_of at (TraceEntry.WordStep e) =
    when (WordTrace.step at.word (WordTrace.event_of e.kind e.thread e.other)).may
    (record at { word = (WordTrace.step at.word (WordTrace.event_of e.kind e.thread e.other)).after })
step_of at (TraceEntry.ParkOpens n) = when (Unit {0}) (record at { parks = n; park = Parking.opening })
step_of at (TraceEntry.ParkStep e) =
    when (ParkTrace.step at.park (ParkTrace.event_of e.kind e.thread e.other)).may
    (record at { park = (ParkTrace.step at.park (ParkTrace.event_of e.kind e.thread e.other)).after })

-- an entry was taken; or it can't come next, or names threads that its run has not
abbrev pub Takes : At → TraceEntry → At → Taken → Type 0
Takes at entry new Taken.Step = Fits at entry × (step_of at entry).may × (new ≡ (step_of at entry).after)
Takes at entry new Taken.NoStep = Fits at entry × ((step_of at entry).may → ⊥)
Takes at entry new Taken.NoEvent = Fits at entry → ⊥

abbrev pub TakesSaid : At → Option TraceEntry → At → Taken → Type 0
TakesSaid at None new taken = taken ≡ Taken.NoEvent
TakesSaid at (Some entry) new taken = Takes at entry new taken

-- the same of a line
abbrev pub TakesLine : At → At → List ℕ → Taken → Type 0
TakesLine at new line taken = (said : Option TraceEntry) × Says (words_of line) said × TakesSaid at said new taken

-- ---- what is found

-- The line of this number says nothing, or names threads that its run has not; or its event can't come next; or it comes, and it goes on from there.
abbrev pub TellsSaid : At → ℕ → Option TraceEntry → Result TraceVerdict TraceFault → (At → Type 0) → Type 0
TellsSaid at number None found GoesOn = found ≡ Err (TraceFault.Line number)
TellsSaid at number (Some entry) found GoesOn =
    ((Fits at entry → ⊥) × (found ≡ Err (TraceFault.Line number)))
    ⊎ ((Fits at entry × ((step_of at entry).may → ⊥) × (found ≡ Ok (TraceVerdict.IsNoStep number)))
    ⊎ (Fits at entry × (step_of at entry).may × GoesOn (step_of at entry).after))

-- what is found of these lines, after so many that have led there: they are runs, or of the first that is none why
abbrev pub Tells : At → ℕ → List (List ℕ) → Result TraceVerdict TraceFault → Type 0
Tells at number [] found = found ≡ Ok (TraceVerdict.IsRun number)
Tells at number (line ∷ lines) found =
    (said : Option TraceEntry) × Says (words_of line) said
    × TellsSaid at (number + 1) said found (λ (after : At). Tells after (number + 1) lines found)

-- the same, where memory may have been refused: then nothing is found
abbrev pub IsTold : At → List (List ℕ) → Result TraceVerdict TraceFault → Type 0
IsTold at lines (Ok verdict) = Tells at 0 lines (Ok verdict)
IsTold at lines (Err (TraceFault.Line number)) = Tells at 0 lines (Err (TraceFault.Line number))
IsTold at lines (Err TraceFault.Memory) = Unit {0}
