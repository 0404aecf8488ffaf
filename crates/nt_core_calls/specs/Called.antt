-- All that `Core::call` and `Core::tick` promise of one call, whatever type its answer has.
use Rattle.std.specs.Prelude.{◌≡◌, ◌≤◌, ◌+◌, ℕ, false, length, Result, OnOk, OnErr}
use Rattle.std.specs.FinMap.{len}
use Rattle.nt_status.specs.declared.refusal.Refusal.{Refusal}
use Rattle.nt_calls.specs.declared.call.Call.{Call}
use Rattle.nt_calls.specs.declared.call.Reply.{Reply}
use Rattle.nt_calls.specs.Naming.{call_named}
use Rattle.nt_calls.specs.Steps.{Called, Ticked}
use Rattle.nt_calls.specs.Moves.{Moves, IsMomentAfter, pended}
use Rattle.nt_machine.specs.Dispatcher.{Dispatcher, state}
use Rattle.nt_machine.specs.Lawful.{IsLawful}
use Rattle.nt_machine.specs.Accepts.{IsLocal, IsTickLocal}

-- the thread's call was made, or refused, with this result: each clause of `Core::call`, but that only a wait pends, which the answers' types say
pub record IsCalled (old : Dispatcher) (who : ℕ) (call : Call) (result : Result Reply Refusal) (new : Dispatcher) : Type 0 where
  pub called : Called (state old) who call result new.grants (state new)
  pub lawful : IsLawful new
  pub local : OnOk result (IsLocal (state old) who (call_named old.handles call) new.table.looked new.grants)
  pub most : length new.grants ≤ len (state old).waits
  pub few : length new.grants + len (state new).waits ≤ len (state old).waits + 1
  pub moves : Moves (state old) who (pended result) new.grants (state new)
  pub moment : (state new).now ≡ (state old).now
  pub untested : OnErr result (new.table.looked ≡ 0)

-- the tick was made, or refused, with this result: each clause of `Core::tick`
pub record IsTicked (old : Dispatcher) (m : ℕ) (result : Result Reply Refusal) (new : Dispatcher) : Type 0 where
  pub ticked : Ticked (state old) m result new.grants (state new)
  pub lawful : IsLawful new
  pub local : OnOk result (IsTickLocal (state old) m new.table.looked new.grants)
  pub few : length new.grants + len (state new).waits ≡ len (state old).waits
  pub moves : (by : ℕ) → Moves (state old) by false new.grants (state new)
  pub waits : pended result ≡ false
  pub moment : IsMomentAfter (state old).now m result (state new).now
  pub untested : OnErr result (new.table.looked ≡ 0)
