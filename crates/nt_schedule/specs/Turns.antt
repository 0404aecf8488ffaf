-- The threads of a run, who of them goes on, and the time.
use Rattle.std.specs.Prelude.{ℕ, zero, suc, ◌+◌, ◌-◌, ◌^◌, min, max, nat_lt, nat_le, ◌==◌, ◌&&◌, Bool, true, false, List, [], ◌∷◌, ◌++◌, length, slice_index_or, slice_set, is_some, Option, None, Some, if◌then◌else◌}
use Rattle.std.specs.Option.{option_map}
use Rattle.nt_schedule.specs.declared.standing.ThreadState.{ThreadState}
use Rattle.nt_schedule.specs.declared.standing.Point.{Point}
use Rattle.nt_schedule.specs.declared.standing.Choice.{Choice}
use Rattle.nt_schedule.specs.declared.standing.TurnRequest.{TurnRequest}
use Rattle.nt_schedule.specs.declared.standing.Turn.{Turn}
use Rattle.nt_schedule.specs.declared.turns.Turns.{Turns}
use Rattle.nt_schedule.specs.declared.told.StepReport.{StepReport}
use Rattle.nt_schedule.specs.declared.told.Turned.{Turned}
use Rattle.nt_schedule.specs.declared.told.Differs.{Differs}
use Rattle.nt_schedule.specs.declared.following.Run.{Run}

-- ---- one thread

-- how the thread of this number stands; one that there is not has ended
abbrev pub standing : List ThreadState → ℕ → ThreadState
standing threads thread = slice_index_or threads thread ThreadState.Ended

abbrev pub can_go_on : ThreadState → Bool
can_go_on (ThreadState.Ready since) = true
can_go_on (ThreadState.Asleep sleep) = false
can_go_on ThreadState.Ended = false

-- the moment to which it sleeps
abbrev pub until_of : ThreadState → Option ℕ
until_of (ThreadState.Ready since) = None
until_of (ThreadState.Asleep sleep) = sleep.until
until_of ThreadState.Ended = None

abbrev pub has_come : ℕ → Option ℕ → Bool
has_come time None = false
has_come time (Some moment) = nat_le moment time

-- that moment has come
abbrev pub is_due : ℕ → ThreadState → Bool
is_due time it = has_come time (until_of it)

-- ---- of several threads

-- the earlier of two moments
abbrev pub earlier : Option ℕ → Option ℕ → Option ℕ
earlier None b = b
earlier (Some m) None = Some m
earlier (Some m) (Some n) = if nat_lt n m then Some n else Some m

-- the earliest moment to which one of the first so many threads sleeps
abbrev pub deadline : ℕ → List ThreadState → Option ℕ
deadline zero threads = None
deadline (suc n) threads = earlier (deadline n threads) (until_of (standing threads n))

-- of two turns the earlier one; of equal ones the first
abbrev pub longest : Option Turn → Option Turn → Option Turn
longest None b = b
longest (Some a) None = Some a
longest (Some a) (Some b) = if nat_lt b.since a.since then Some b else Some a

-- the turn of a thread that can go on
abbrev pub turn_of : ℕ → ThreadState → Option Turn
turn_of thread (ThreadState.Ready since) = Some (record { since = since; thread = thread })
turn_of thread (ThreadState.Asleep sleep) = None
turn_of thread ThreadState.Ended = None

-- the same of another than the caller
abbrev pub turn_but : ℕ → ℕ → ThreadState → Option Turn
turn_but caller thread it = if thread == caller then None else turn_of thread it

-- of the first so many threads, without the caller, the one that has waited the longest for its turn
abbrev pub waiting : ℕ → ℕ → List ThreadState → Option Turn
waiting zero caller threads = None
waiting (suc n) caller threads = longest (waiting n caller threads) (turn_but caller n (standing threads n))

-- the sleep of a thread that sleeps on this word
abbrev pub sleep_on : ℕ → ℕ → ThreadState → Option Turn
sleep_on word thread (ThreadState.Ready since) = None
sleep_on word thread (ThreadState.Asleep sleep) = if sleep.word == word then Some (record { since = sleep.number; thread = thread }) else None
sleep_on word thread ThreadState.Ended = None

-- of the first so many threads the one that fell asleep first on this word
abbrev pub sleeper : ℕ → ℕ → List ThreadState → Option Turn
sleeper zero word threads = None
sleeper (suc n) word threads = longest (sleeper n word threads) (sleep_on word n (standing threads n))

-- ---- who goes on

-- where no other thread can: the caller if it can, else the clock, if there is a deadline
abbrev pub alone : ℕ → List ThreadState → Choice
alone caller threads =
    if can_go_on (standing threads caller) then Choice.Thread caller
    else if is_some (deadline (length threads) threads) then Choice.Clock
    else Choice.Nobody

abbrev pub turn_or : Option Turn → Choice → Choice
turn_or None other = other
turn_or (Some turn) other = Choice.Thread turn.thread

-- the other thread that has waited the longest, if one can go on
abbrev pub in_turn : ℕ → List ThreadState → Choice
in_turn caller threads = turn_or (waiting (length threads) caller threads) (alone caller threads)

-- who goes on where nothing is decided: the caller, where it calls; else the next in turn
abbrev pub usual : Point → ℕ → List ThreadState → Choice
usual Point.Call caller threads = if can_go_on (standing threads caller) then Choice.Thread caller else in_turn caller threads
usual Point.Yield caller threads = in_turn caller threads
usual Point.Sleep caller threads = in_turn caller threads
usual Point.End caller threads = in_turn caller threads

abbrev pub is_thread : Choice → Bool
is_thread (Choice.Thread thread) = true
is_thread Choice.Clock = false
is_thread Choice.Nobody = false

-- a deadline may come early: the time is free, there is one, and usually a thread goes on
abbrev pub may_jump : TurnRequest → List ThreadState → Bool
may_jump asked threads = asked.is_free && is_some (deadline (length threads) threads) && is_thread (usual asked.point asked.caller threads)

-- that may be chosen there
abbrev pub is_possible : TurnRequest → List ThreadState → Choice → Bool
is_possible asked threads (Choice.Thread thread) = can_go_on (standing threads thread)
is_possible asked threads Choice.Clock = may_jump asked threads
is_possible asked threads Choice.Nobody = false

abbrev pub wanted_or : TurnRequest → List ThreadState → Option Choice → Choice
wanted_or asked threads None = usual asked.point asked.caller threads
wanted_or asked threads (Some choice) = if is_possible asked threads choice then choice else usual asked.point asked.caller threads

-- who goes on: what is wanted if that may be chosen, else who does usually
abbrev pub choice_of : TurnRequest → List ThreadState → Choice
choice_of asked threads = wanted_or asked threads asked.wanted

-- ---- a moment of a run

pub record Moment : Type 0 where
  pub threads : List ThreadState
  pub time : ℕ
  -- how often a thread could go on from then on, and how often one fell asleep
  pub turns : ℕ
  pub sleeps : ℕ

abbrev pub moment_of : Turns → Moment
moment_of it = record { threads = it.threads.items; time = it.time; turns = it.turns; sleeps = it.sleeps }

abbrev pub opening : Moment
opening = record { threads = []; time = 0; turns = 0; sleeps = 0 }

-- the next number of 64 bits, or the greatest
abbrev pub next_number : ℕ → ℕ
next_number n = min (n + 1) (2 ^ 64 - 1)

abbrev pub put : Moment → ℕ → ThreadState → Moment
put m thread it = record m { threads = slice_set m.threads thread it }

-- it can go on from now on
abbrev pub let_go_on : Moment → ℕ → Moment
let_go_on m thread = put (record m { turns = next_number m.turns }) thread (ThreadState.Ready (next_number m.turns))

abbrev pub due_goes_on : Moment → ℕ → Moment
due_goes_on m thread = if is_due m.time (standing m.threads thread) then let_go_on m thread else m

-- of the first so many threads those whose moment has come can go on, the lowest number first
abbrev pub looked_round : ℕ → Moment → Moment
looked_round zero m = m
looked_round (suc n) m = due_goes_on (looked_round n m) n

abbrev pub looked : Moment → Moment
looked m = looked_round (length m.threads) m

-- the time is no less than this moment
abbrev pub jumped : Option ℕ → Moment → Moment
jumped None m = m
jumped (Some moment) m = record m { time = max m.time moment }

-- a thread that can go on, and does not, waits for its next turn from now on
abbrev pub waits_anew : ℕ → Moment → Moment
waits_anew thread m = if can_go_on (standing m.threads thread) then let_go_on m thread else m

-- What is chosen goes on. Where that is another thread, the caller waits for its next turn; where it is the clock, the next deadline comes.
abbrev pub goes_by : ℕ → Choice → Moment → Moment
goes_by caller (Choice.Thread thread) m = if thread == caller then m else waits_anew caller m
goes_by caller Choice.Clock m = jumped (deadline (length m.threads) m.threads) m
goes_by caller Choice.Nobody m = m

-- one thread more, which can go on
abbrev pub come : Moment → Moment
come m = record m { threads = m.threads ++ ThreadState.Ready (next_number m.turns) ∷ []; turns = next_number m.turns }

abbrev pub fallen_asleep : Moment → ℕ → ℕ → Option ℕ → Moment
fallen_asleep m thread word until =
    put (record m { sleeps = next_number m.sleeps }) thread (ThreadState.Asleep (record { word = word; until = until; number = next_number m.sleeps }))

abbrev pub thread_of : Turn → ℕ
thread_of turn = turn.thread

abbrev pub goes_on_if : Option Turn → Moment → Moment
goes_on_if None m = m
goes_on_if (Some turn) m = let_go_on m turn.thread

-- who fell asleep first on the word can go on
abbrev pub woken : ℕ → Moment → Moment
woken word m = goes_on_if (sleeper (length m.threads) word m.threads) m

abbrev pub sleeps : ThreadState → Bool
sleeps (ThreadState.Ready since) = false
sleeps (ThreadState.Asleep sleep) = true
sleeps ThreadState.Ended = false

-- what it sleeps for has come by another way than a call: it can go on
abbrev pub roused : Moment → ℕ → Moment
roused m thread = if sleeps (standing m.threads thread) then let_go_on m thread else m

abbrev pub ended : Moment → ℕ → Moment
ended m thread = put m thread ThreadState.Ended

abbrev pub passed : ℕ → Moment → Moment
passed units m = record m { time = min (m.time + units) (2 ^ 64 - 1) }

-- ---- a run that is told

-- the threads and the time, and whose turn it is, if it is anybody's
pub record Course : Type 0 where
  pub moment : Moment
  pub turn : Option ℕ

abbrev pub course_of : Run → Course
course_of it = record { moment = moment_of it.turns; turn = it.turn }

abbrev pub beginning : Course
beginning = record { moment = opening; turn = Some 0 }

abbrev pub is_turn_of : ℕ → Option ℕ → Bool
is_turn_of thread None = false
is_turn_of thread (Some who) = who == thread

-- whose turn it is once that is chosen: where the clock goes on, the caller asks again
abbrev pub turn_after : ℕ → Choice → Option ℕ
turn_after caller (Choice.Thread thread) = Some thread
turn_after caller Choice.Clock = Some caller
turn_after caller Choice.Nobody = None

abbrev pub chosen_in : Turned → Moment → Choice
chosen_in it m = choice_of it.asked (looked m).threads

abbrev pub moment_after : Turned → Moment → Moment
moment_after it m = goes_by it.asked.caller (chosen_in it m) (looked m)

-- how the run stands after what is told
abbrev pub followed : StepReport → Course → Course
followed StepReport.Comes c = record c { moment = come c.moment }
followed (StepReport.Sleeps it) c = record c { moment = fallen_asleep c.moment it.thread it.word it.until }
followed (StepReport.Wakes it) c = record c { moment = woken it.word c.moment }
followed (StepReport.Rouses thread) c = record c { moment = roused c.moment thread }
followed (StepReport.Ends thread) c = record c { moment = ended c.moment thread }
followed (StepReport.Passes units) c = record c { moment = passed units c.moment }
followed (StepReport.Turns it) c = record { moment = moment_after it c.moment; turn = turn_after it.asked.caller (chosen_in it c.moment) }
followed StepReport.Hangs c = c

abbrev pub is_same : Choice → Choice → Bool
is_same (Choice.Thread a) (Choice.Thread b) = a == b
is_same (Choice.Thread a) Choice.Clock = false
is_same (Choice.Thread a) Choice.Nobody = false
is_same Choice.Clock (Choice.Thread b) = false
is_same Choice.Clock Choice.Clock = true
is_same Choice.Clock Choice.Nobody = false
is_same Choice.Nobody (Choice.Thread b) = false
is_same Choice.Nobody Choice.Clock = false
is_same Choice.Nobody Choice.Nobody = true

abbrev pub is_same_thread : Option ℕ → Option ℕ → Bool
is_same_thread None None = true
is_same_thread None (Some b) = false
is_same_thread (Some a) None = false
is_same_thread (Some a) (Some b) = a == b

-- how the machine goes otherwise where that was told: none, where it goes so
abbrev pub turn_differs : ℕ → Course → Option Differs
turn_differs thread c = if is_turn_of thread c.turn then None else Some (Differs.HasTurn c.turn)

abbrev pub choice_differs : Turned → Moment → Option Differs
choice_differs it m =
    if is_same (chosen_in it m) it.choice then (if (moment_after it m).time == it.time then None else Some (Differs.IsAt (moment_after it m).time))
    else Some (Differs.Chooses (chosen_in it m))

abbrev pub sleeper_of : ℕ → Moment → Option ℕ
sleeper_of word m = option_map thread_of (sleeper (length m.threads) word m.threads)

abbrev pub differs : StepReport → Course → Option Differs
differs StepReport.Comes c = None
differs (StepReport.Sleeps it) c = turn_differs it.thread c
differs (StepReport.Wakes it) c = if is_same_thread (sleeper_of it.word c.moment) it.thread then None else Some (Differs.Wakes (sleeper_of it.word c.moment))
differs (StepReport.Rouses thread) c = None
differs (StepReport.Ends thread) c = None
differs (StepReport.Passes units) c = None
differs (StepReport.Turns it) c = if is_turn_of it.asked.caller c.turn then choice_differs it c.moment else turn_differs it.asked.caller c
differs StepReport.Hangs c = if is_same_thread c.turn None then None else Some (Differs.HasTurn c.turn)
