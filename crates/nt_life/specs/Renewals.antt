-- What is told of numbers that are given again, and the stages of a life that it tells.
use Rattle.std.specs.Prelude.{◌≡◌, ℕ, Bool, true, false, List, [], ◌∷◌}
use Rattle.std.specs.declared.option.Option.{Option}
use Rattle.std.specs.declared.option.Option.TheVariants.{None, Some}
use Rattle.std.specs.declared.result.Result.{Result}
use Rattle.std.specs.declared.result.Result.TheVariants.{Ok, Err}
use Rattle.nt_status.specs.declared.refusal.Refusal.{Refusal}
use Rattle.nt_calls.specs.declared.call.Act.{Act}
use Rattle.nt_calls.specs.declared.call.Call.{Call}
use Rattle.nt_calls.specs.declared.call.Reply.{Reply}
use Rattle.nt_calls.specs.declared.call.Grant.{Grant}
use Rattle.nt_calls.specs.State.{State}
use Rattle.nt_calls.specs.Steps.{Called}
use Rattle.nt_laws.specs.Lives.{Stage, Creates, Shares, Begins, Adds, Stages}
use Rattle.nt_life.specs.declared.renewal.Renewal.{Renewal}
use Rattle.nt_life.specs.declared.renewal.Renewal.TheVariants.{Create, CreateAdded, Unadded, Duplicate, Begin}

-- no object number could be added, for the cause that is answered
abbrev pub unadded : Result Reply Refusal → List Grant → List Stage
unadded (Ok reply) grants = []
unadded (Err cause) grants = Adds (Err cause) grants ∷ []

-- the stages of a renewal for this thread, with its answer
abbrev pub renewed : ℕ → Renewal → Result Reply Refusal → List Grant → List Stage
renewed who (Create act object handle) result grants = Creates who act object handle result grants ∷ []
renewed who (CreateAdded act object handle) result grants = Adds (Ok object) [] ∷ Creates who act object handle result grants ∷ []
renewed who (Unadded act) result grants = unadded result grants
renewed who (Duplicate source access handle) result grants = Shares who source access handle result grants ∷ []
renewed who (Begin handle) result grants = Begins who handle result grants ∷ []

-- the renewal may be answered so: a creation for which no object number could be added is refused
abbrev pub may_answer : Renewal → Result Reply Refusal → Bool
may_answer (Unadded act) (Ok reply) = false
may_answer renewal result = true

-- the call that the renewal was made for
abbrev pub IsFor : Renewal → Call → Type 0
IsFor (Create act object handle) call = call ≡ Call.Act act
IsFor (CreateAdded act object handle) call = call ≡ Call.Act act
IsFor (Unadded act) call = call ≡ Call.Act act
IsFor (Duplicate source access handle) call = call ≡ Call.Act (Act.Duplicate source access)
IsFor (Begin handle) call = ⊥

-- the renewal was made for this thread, and answered so
abbrev pub Renewed : State → ℕ → Renewal → Result Reply Refusal → List Grant → State → Type 0
Renewed old who renewal result grants new = (may_answer renewal result ≡ true) × Stages old (renewed who renewal result grants) new

-- what is told of a call: it was the machine's own, or this renewal
abbrev pub Tells : State → ℕ → Call → Option Renewal → Result Reply Refusal → List Grant → State → Type 0
Tells old who call None result grants new = Called old who call result grants new
Tells old who call (Some renewal) result grants new = IsFor renewal call × Renewed old who renewal result grants new
