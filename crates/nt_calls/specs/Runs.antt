-- Whole runs of the machine.
use Rattle.std.specs.Prelude.{◌≡◌, ℕ, List, [], ◌∷◌}
use Rattle.std.specs.declared.result.Result.{Result}
use Rattle.nt_status.specs.declared.refusal.Refusal.{Refusal}
use Rattle.nt_calls.specs.declared.call.Call.{Call}
use Rattle.nt_calls.specs.declared.call.Reply.{Reply}
use Rattle.nt_calls.specs.declared.call.Grant.{Grant}
use Rattle.nt_calls.specs.State.{State, opening}
use Rattle.nt_calls.specs.Steps.{Called, Ticked}

-- a call or a tick, its result, and the waits that it ended
pub data Turn : Type 0 where
  Calls : (who : ℕ) → (call : Call) → (result : Result Reply Refusal) → (grants : List Grant) → Turn
  Ticks : (by : ℕ) → (moment : ℕ) → (result : Result Reply Refusal) → (grants : List Grant) → Turn

abbrev pub IsTurn : State → Turn → State → Type 0
IsTurn old (Calls who call result grants) new = Called old who call result grants new
IsTurn old (Ticks by moment result grants) new = Ticked old moment result grants new

-- the turns lead from the old state to the new one
abbrev pub Turns : State → List Turn → State → Type 0
Turns old [] new = new ≡ old
Turns old (turn ∷ turns) new = (mid : State) × IsTurn old turn mid × Turns mid turns new

-- a run of n threads, from the opening on
abbrev pub Run : ℕ → List Turn → State → Type 0
Run n turns s = Turns (opening n) turns s
