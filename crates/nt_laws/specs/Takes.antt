-- What the waits of a run took, as its replies and grants tell.
use Rattle.std.specs.Prelude.{ℕ, zero, suc, ◌-◌, ◌||◌, nat_le, List, [], ◌∷◌, ◌++◌, map, if◌then◌else◌, ◌==◌}
use Rattle.std.specs.FinMap.{get}
use Rattle.std.specs.declared.option.Option.{Option}
use Rattle.std.specs.declared.option.Option.TheVariants.{None, Some}
use Rattle.std.specs.declared.result.Result.TheVariants.{Ok, Err}
use Rattle.nt_status.specs.Status.{abandoned_code, io_completion_code, timeout_code}
use Rattle.nt_waits.specs.declared.wait.Wait.{Wait}
use Rattle.nt_calls.specs.declared.call.Call.{Call}
use Rattle.nt_calls.specs.declared.call.Reply.{Reply}
use Rattle.nt_calls.specs.declared.call.Grant.{Grant}
use Rattle.nt_calls.specs.State.{State, Pending}
use Rattle.nt_calls.specs.Naming.{call_named}
use Rattle.nt_calls.specs.Steps.{asked_wait}
use Rattle.nt_calls.specs.Runs.{Turn, Calls, Ticks, Turns}

-- a thread took the object with this number
pub record Take : Type 0 where
  pub thread : ℕ
  pub handle : ℕ

-- the number at this index alone, and none where the list has no such index
abbrev pub only_at : List ℕ → ℕ → List ℕ
only_at [] i = []
only_at (h ∷ hs) zero = h ∷ []
only_at (h ∷ hs) (suc i) = only_at hs i

-- the index that a status tells, 0x80 less for a mutex with the mark
abbrev pub index_told : ℕ → ℕ
index_told code = if nat_le (abandoned_code 0) code then code - abandoned_code 0 else code

-- the objects that a wait took which ended with this status: none where an APC or the deadline ended it, each for a wait-all,
-- and for a wait-any the one at the index that the status tells
abbrev pub handles_told : Wait → ℕ → List ℕ
handles_told w code =
    if code == io_completion_code || code == timeout_code then []
    else if w.all then w.objects
    else only_at w.objects (index_told code)

abbrev pub takes_of : ℕ → List ℕ → List Take
takes_of t hs = map (λ h. record { thread = t; handle = h }) hs

-- what the wait took that this grant ended
abbrev pub grant_took : Option Wait → Grant → List Take
grant_took None g = []
grant_took (Some w) g = takes_of g.thread (handles_told w g.status)

-- what the pending waits took that these grants ended, grant by grant
abbrev pub grants_took : Pending → List Grant → List Take
grants_took waits [] = []
grants_took waits (g ∷ gs) = grant_took (get waits g.thread) g ++ grants_took waits gs

-- what a wait of thread t took that ended at once
abbrev pub reply_took : ℕ → Wait → Reply → List Take
reply_took t w (Reply.Status code) = takes_of t (handles_told w code)
reply_took t w _ = []

-- what the caller's own wait took
abbrev pub call_took : ℕ → ℕ → Call → Reply → List Take
call_took now t (Call.Wait wait) reply = reply_took t (asked_wait now wait) reply
call_took now t _ reply = []

-- every taking of a turn from this state, in order: by the waits that pended, then by the caller's own wait
abbrev pub turn_took : State → Turn → List Take
turn_took old (Calls who call (Ok reply) grants) = grants_took old.waits grants ++ call_took old.now who (call_named old.handles call) reply
turn_took old (Calls who call (Err r) grants) = []
turn_took old (Ticks by moment result grants) = grants_took old.waits grants

-- every taking of these turns, in order
abbrev pub takes : (old : State) (turns : List Turn) (new : State) → Turns old turns new → List Take
takes old [] new run = []
takes old (turn ∷ turns) new run = turn_took old turn ++ takes run.0 turns new run.2

-- the threads that took the object at h, in order
abbrev pub takers : ℕ → List Take → List ℕ
takers h [] = []
takers h (k ∷ ks) = if k.handle == h then k.thread ∷ takers h ks else takers h ks
