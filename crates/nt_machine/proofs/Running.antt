-- What a caller whose calls are refused by their own causes alone may do.
use Rattle.std.proofs.Common.{◌≡◌, ℕ, false, length, ap, arith}
use Rattle.nt_waits.specs.declared.wait.Wait.{Wait}
use Rattle.nt_calls.specs.declared.call.Call.{Call}
use Rattle.nt_machine.specs.Dispatcher.{Dispatcher, state}
use Rattle.nt_machine.specs.Accepts.{IsFreeToCall, IsFresh, IsRunning, CanBegin}
use Rattle.nt_machine.specs.Lawful.{IsSoundWait}
use Rattle.nt_machine.proofs.Accepting.{free_caller}
use Rattle.nt_machine.proofs.Beginning.{room_to_begin}

-- it runs, and waits for nothing
pub free_runs : (d : Dispatcher) (t : ℕ) → IsFreeToCall (state d) t → IsRunning d t
free_runs d t free =
    let caller = free_caller (state d) t Call.Exit (free false Call.Exit) in
    record { known = caller.0; runs = caller.1; idle = caller.2 }

-- its wait can begin
pub free_can : (d : Dispatcher) (t : ℕ) (w : Wait) → IsFresh d → IsFreeToCall (state d) t → IsSoundWait d.threads d.objects t w → CanBegin d t w
free_can d t w fresh free able =
    let runs = free_runs d t free in
    let room = room_to_begin d t w fresh.steady.sound runs.known runs.idle in
    let first : length d.grants ≡ 0 = ap (λ gs. length gs) fresh.no_grants in
    record { idle = runs.idle; able = able; room = omega (arith, room, first) }
