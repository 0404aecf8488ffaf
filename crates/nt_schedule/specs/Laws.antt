-- What follows for who goes on, and for the time.
use Rattle.std.specs.Prelude.{◌≡◌, ◌≢◌, ◌↔◌, ℕ, ◌<◌, ◌≤◌, true, false, List, None, Some}
use Rattle.nt_schedule.specs.declared.standing.ThreadState.{ThreadState}
use Rattle.nt_schedule.specs.declared.standing.Choice.{Choice}
use Rattle.nt_schedule.specs.declared.standing.TurnRequest.{TurnRequest}
use Rattle.nt_schedule.specs.Turns.{standing, can_go_on, until_of, choice_of, Moment, looked, goes_by}

-- a thread that is chosen can go on
abbrev pub WhoIsChosenCanGoOn : Type 0
WhoIsChosenCanGoOn =
    (asked : TurnRequest) (threads : List ThreadState) (thread : ℕ)
    → choice_of asked threads ≡ Choice.Thread thread → can_go_on (standing threads thread) ≡ true

-- no thread can go on; none has a deadline
abbrev pub NobodyCan : List ThreadState → Type 0
NobodyCan threads = (thread : ℕ) → can_go_on (standing threads thread) ≡ false

abbrev pub NothingIsDue : List ThreadState → Type 0
NothingIsDue threads = (thread : ℕ) → until_of (standing threads thread) ≡ None

-- nobody is chosen exactly where no thread can go on and none has a deadline
abbrev pub HangsExactly : Type 0
HangsExactly =
    (asked : TurnRequest) (threads : List ThreadState)
    → (choice_of asked threads ≡ Choice.Nobody) ↔ (NobodyCan threads × NothingIsDue threads)

-- the moment is still to come, one thread sleeps to it, and none to an earlier one
pub record IsNextDeadline (m : Moment) (moment : ℕ) : Type 0 where
  pub later : m.time < moment
  pub thread : ℕ
  pub is : until_of (standing m.threads thread) ≡ Some moment
  pub least : (other until : ℕ) → until_of (standing m.threads other) ≡ Some until → moment ≤ until

-- The time stays where it is; where the clock goes on it comes to the next deadline, and no thread could go on unless the time is free.
pub record TellsTime (old : Moment) (asked : TurnRequest) (choice : Choice) (new : Moment) : Type 0 where
  pub onward : old.time ≤ new.time
  pub stays : choice ≢ Choice.Clock → new.time ≡ old.time
  pub comes : choice ≡ Choice.Clock → IsNextDeadline (looked old) new.time
  pub alone : choice ≡ Choice.Clock → asked.is_free ≡ false → NobodyCan (looked old).threads

-- that is so at each turn
abbrev pub TimeComesToDeadlines : Type 0
TimeComesToDeadlines =
    (m : Moment) (asked : TurnRequest)
    → TellsTime m asked (choice_of asked (looked m).threads) (goes_by asked.caller (choice_of asked (looked m).threads) (looked m))
