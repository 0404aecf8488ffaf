-- What is told of a call is what was done.
use Rattle.std.proofs.Common.{◌≡◌, ℕ, List, refl, sym, subst, Option, Some, None}
use Rattle.std.specs.declared.result.Result.{Result}
use Rattle.std.specs.declared.result.Result.TheVariants.{Ok, Err}
use Rattle.nt_status.specs.declared.refusal.Refusal.{Refusal}
use Rattle.nt_calls.specs.declared.call.Act.{Act}
use Rattle.nt_calls.specs.declared.call.Call.{Call}
use Rattle.nt_calls.specs.declared.call.Reply.{Reply}
use Rattle.nt_calls.specs.declared.call.Grant.{Grant}
use Rattle.nt_calls.specs.State.{State}
use Rattle.nt_calls.specs.Steps.{Called}
use Rattle.nt_core.specs.Renewals.{AddsVacant, CreatesAgain, DuplicatesAgain}
use Rattle.nt_life.specs.declared.renewal.Renewal.{Renewal}
use Rattle.nt_life.specs.declared.renewal.Renewal.TheVariants.{Create, CreateAdded, Unadded, Duplicate}
use Rattle.nt_life.specs.Renewals.{Tells}

pub tells_own : (old : State) (who : ℕ) (call made : Call) (told : Option Renewal) (result : Result Reply Refusal) (grants : List Grant) (new : State) → told ≡ None → made ≡ call → Called old who made result grants new → Tells old who call told result grants new
tells_own old who call made told result grants new untold same called =
    subst (λ (t : Option Renewal). Tells old who call t result grants new) (sym untold) (subst (λ (c : Call). Called old who c result grants new) same called)

pub tells_created : (old : State) (who : ℕ) (act : Act) (o h : ℕ) (told : Option Renewal) (result : Result Reply Refusal) (grants : List Grant) (new : State) → told ≡ Some (Create act o h) → CreatesAgain old who act o h result grants new → Tells old who (Call.Act act) told result grants new
tells_created old who act o h told result grants new is created =
    subst (λ (t : Option Renewal). Tells old who (Call.Act act) t result grants new) (sym is) (refl, (refl, (new, created, refl)))

pub tells_added : (old mid : State) (who : ℕ) (act : Act) (o h : ℕ) (result : Result Reply Refusal) (gs grants : List Grant) (new : State) → AddsVacant old (Ok o) gs mid → CreatesAgain mid who act o h result grants new → Tells old who (Call.Act act) (Some (CreateAdded act o h)) result grants new
tells_added old mid who act o h result gs grants new adds created = (refl, (refl, (mid, (adds.0, adds.1, refl, adds.3), (new, created, refl))))

pub tells_unadded : (old : State) (who : ℕ) (act : Act) (cause : Refusal) (grants : List Grant) (new : State) → AddsVacant old (Err cause) grants new → Tells old who (Call.Act act) (Some (Unadded act)) (Err cause) grants new
tells_unadded old who act cause grants new adds = (refl, (refl, (new, adds, refl)))

pub tells_shared : (old : State) (who source access h : ℕ) (result : Result Reply Refusal) (grants : List Grant) (new : State) → DuplicatesAgain old who source access h result grants new → Tells old who (Call.Act (Act.Duplicate source access)) (Some (Duplicate source access h)) result grants new
tells_shared old who source access h result grants new shared = (refl, (refl, (new, shared, refl)))
