-- What holds of a call as a whole.
use Rattle.std.proofs.Common.{◌≡◌, ◌≤◌, ◌+◌, ℕ, true, List, length, refl, subst, None, Some}
use Rattle.std.specs.FinMap as map
use Rattle.std.specs.declared.result.Result.{Result}
use Rattle.std.specs.declared.result.Result.TheVariants.{Err}
use Rattle.nt_status.specs.declared.refusal.Refusal.{Refusal}
use Rattle.nt_status.specs.declared.refusal.Refusal.TheVariants.{HandleLimit}
use Rattle.nt_calls.specs.declared.call.Call.{Call}
use Rattle.nt_calls.specs.declared.call.Reply.{Reply}
use Rattle.nt_calls.specs.declared.call.Grant.{Grant}
use Rattle.nt_calls.specs.State.{State}
use Rattle.nt_calls.specs.Moves.{Moves, pended, is_wait}
use Rattle.nt_calls.specs.Steps.{Called}
use Rattle.nt_machine.specs.Dispatcher.{Dispatcher, state}
use Rattle.nt_machine.specs.Lawful.{IsLawful}
use Rattle.nt_life.specs.Lasting.{Spares, LastsCall, FindsNone, IsStacked, KeepsOrder, KeepsPace, LooksAt, Lasts, turn_after}
use Rattle.nt_life.proofs.Once.{unchanged_by}
use Rattle.nt_life.proofs.Taken.{call_taken}

-- the machine's own call keeps the pace
pub own_pace : (old : State) (who : ℕ) (made call : Call) (result : Result Reply Refusal) (grants : List Grant) (new : State) → made ≡ call → length grants ≤ map.len old.waits → length grants + map.len new.waits ≤ map.len old.waits + 1 → Moves old who (pended result) grants new → (pended result ≡ true → is_wait made ≡ true) → new.now ≡ old.now → KeepsPace old who call result grants new
own_pace old who made call result grants new same most few moves waits moment = record {
  most = most;
  few = few;
  moves = moves;
  waits = subst (λ (c : Call). pended result ≡ true → is_wait c ≡ true) same waits;
  moment = moment;
}

-- a call of a dispatcher that gives numbers again
pub lasts_by : (old : Dispatcher) (spare : Spares) (who : ℕ) (call : Call) (result : Result Reply Refusal) (new : Dispatcher) (after : Spares) → IsLawful old → LastsCall (state old) spare who call result new.grants (state new) → (result ≡ Err HandleLimit → FindsNone (state old) call) → IsStacked call result spare.closed after.closed → after.turn ≡ turn_after (state old) spare call → KeepsOrder (state old) call spare after → KeepsPace (state old) who call result new.grants (state new) → LooksAt old who call result new → IsLawful new → Lasts old (Some spare) who call result new (Some after)
lasts_by old spare who call result new after was_lawful makes limit stacked turned ordered pace looks lawful = record {
  makes = makes;
  limits = record {
    limit = limit;
    taken = call_taken (state old) spare who call result new.grants (state new) was_lawful.steady.sound.handles makes;
    looks = looks;
  };
  stacked = stacked;
  turned = turned;
  ordered = ordered;
  pace = pace;
  unchanged = unchanged_by (state old) (Some spare) who call result new.grants (state new) makes;
  lawful = lawful;
}

-- a call of a dispatcher that gives each number once
pub once_by : (old : Dispatcher) (who : ℕ) (call : Call) (result : Result Reply Refusal) (new : Dispatcher) → Called (state old) who call result new.grants (state new) → KeepsPace (state old) who call result new.grants (state new) → LooksAt old who call result new → IsLawful new → Lasts old None who call result new None
once_by old who call result new called pace looks lawful = record {
  makes = called;
  limits = record { limit = λ limit. tt; taken = tt; looks = looks };
  stacked = (refl, refl);
  turned = (refl, refl);
  ordered = tt;
  pace = pace;
  unchanged = unchanged_by (state old) None who call result new.grants (state new) called;
  lawful = lawful;
}
