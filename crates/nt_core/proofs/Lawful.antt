-- What follows of a lawful dispatcher.
use Rattle.std.proofs.Common.{◌≡◌, ℕ, ◌<◌, true, Option, Some, None, is_some, refl}
use Rattle.std.proofs.lemmas.Bool.{false≢true}
use Rattle.std.specs.FinMap.{get}
use Rattle.nt_waits.specs.declared.wait.Wait.{Wait}
use Rattle.nt_calls.specs.State.{pends}
use Rattle.nt_machine.specs.Dispatcher.{Dispatcher, state}
use Rattle.nt_machine.specs.Lawful.{IsLawful}

-- whoever waits is one of the threads
pub who_waits : (d : Dispatcher) (t : ℕ) → IsLawful d → pends (state d) t ≡ true → t < d.threads
who_waits d t lawful pending = known (get (state d).waits t) refl pending
  where
    known : (o : Option Wait) → get (state d).waits t ≡ o → is_some o ≡ true → t < d.threads
    known None e some = absurd (false≢true some)
    known (Some w) e some = (lawful.steady.sound.waits t w e).known
