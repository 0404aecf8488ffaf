-- A waiting call is no renewal.
use Rattle.std.proofs.Common.{◌≡◌, ℕ, List, Option, None, Some, refl}
use Rattle.std.specs.Prelude.{OnErr}
use Rattle.std.specs.declared.result.Result.{Result}
use Rattle.nt_status.specs.declared.refusal.Refusal.{Refusal}
use Rattle.nt_calls.specs.declared.call.Call.{Call}
use Rattle.nt_calls.specs.declared.call.Grant.{Grant}
use Rattle.nt_calls.specs.declared.call.Reply.{Reply}
use Rattle.nt_calls.specs.declared.call.WaitCall.{WaitCall}
use Rattle.nt_calls.specs.Moves.{pended}
use Rattle.nt_calls.specs.State.{State}
use Rattle.nt_calls.specs.Steps.{Called}
use Rattle.nt_machine.specs.Dispatcher.{state}
use Rattle.nt_machine.specs.Lawful.{IsLawful}
use Rattle.nt_life.specs.Lasting.{Spares, FindsNoneFor, LooksAt, MakesCall}
use Rattle.nt_life.proofs.Once.{unchanged_by, unnumbered_limit}
use Rattle.nt_sleepers.specs.Sleepers.{Sleeping, Woke}
use Rattle.nt_c.specs.Asks.{MakesAndWakes}

pub wait_makes : (old : State) (spare : Option Spares) (who : ℕ) (wait : WaitCall) (result : Result Reply Refusal) (grants : List Grant) (new : State) → Called old who (Call.Wait wait) result grants new → MakesCall old spare who (Call.Wait wait) result grants new
wait_makes old None who wait result grants new own = own
wait_makes old (Some spare) who wait result grants new own = own

pub wait_own : (old : State) (spare : Option Spares) (who : ℕ) (wait : WaitCall) (result : Result Reply Refusal) (grants : List Grant) (new : State) → MakesCall old spare who (Call.Wait wait) result grants new → Called old who (Call.Wait wait) result grants new
wait_own old None who wait result grants new own = own
wait_own old (Some spare) who wait result grants new own = own

pub wait_limit : (s : State) (spare : Option Spares) (wait wait' : WaitCall) → FindsNoneFor s spare (Call.Wait wait) → FindsNoneFor s spare (Call.Wait wait')
wait_limit s None wait wait' none = tt
wait_limit s (Some spare) wait wait' none = none

-- a wait that the dispatcher made
pub wait_made : (old new : Sleeping) (who : ℕ) (wait : WaitCall) (result : Result Reply Refusal) → Called (state old.core) who (Call.Wait wait) result new.core.grants (state new.core) → IsLawful new.core → LooksAt old.core who (Call.Wait wait) result new.core → Woke old who (pended result) new → OnErr result (new.called ≡ None) → MakesAndWakes old who (Call.Wait wait) result new
wait_made old new who wait result called lawful looks woke nobody =
    let makes = wait_makes (state old.core) old.spare who wait result new.core.grants (state new.core) called in
    record {
      makes = makes;
      limit = unnumbered_limit (state old.core) old.spare who (Call.Wait wait) result new.core.grants (state new.core) refl called;
      unchanged = unchanged_by (state old.core) old.spare who (Call.Wait wait) result new.core.grants (state new.core) makes;
      lawful = lawful;
      looks = looks;
      woke = woke;
      nobody = nobody;
    }
