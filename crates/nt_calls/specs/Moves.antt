-- What a call or a tick does to each thread's pending wait, and to the present moment.
use Rattle.std.specs.Prelude.{◌≡◌, ◌≤◌, ◌==◌, ◌+◌, ℕ, Bool, true, false, List, [], ◌∷◌, if◌then◌else◌, Result, Ok, Err}
use Rattle.nt_status.specs.declared.refusal.Refusal.{Refusal}
use Rattle.nt_calls.specs.declared.call.Reply.{Reply}
use Rattle.nt_calls.specs.declared.call.Call.{Call}
use Rattle.nt_calls.specs.declared.call.Grant.{Grant}
use Rattle.nt_calls.specs.State.{State, pends}

-- 1 for true
abbrev pub one_if : Bool → ℕ
one_if true = 1
one_if false = 0

-- whether the caller's wait pends from now on
abbrev pub pended : Result Reply Refusal → Bool
pended (Ok Reply.Pended) = true
pended _ = false

-- whether the call is one that may pend
abbrev pub is_wait : Call → Bool
is_wait (Call.Wait wait) = true
is_wait _ = false

-- how many of the grants are this thread's
abbrev pub granted_to : ℕ → List Grant → ℕ
granted_to t [] = 0
granted_to t (g ∷ gs) = one_if (g.thread == t) + granted_to t gs

-- the waits of a step, thread by thread; `began` tells whether the wait of `who` began in it
pub record Moves (old : State) (who : ℕ) (began : Bool) (grants : List Grant) (new : State) : Type 0 where
  pub threads : new.threads ≡ old.threads
  -- whose wait begins had none
  pub free : began ≡ true → pends old who ≡ false
  -- a grant ends a wait that pended before the step, and no thread has two
  pub ended : (t : ℕ) → granted_to t grants ≤ one_if (pends old t)
  -- what pended before, or began, pends on or was granted
  pub each : (t : ℕ) → one_if (pends new t) + granted_to t grants ≡ one_if (pends old t) + (if who == t then one_if began else 0)

-- the moment after a tick: its own where it was accepted, which is not before the old one; and else the old one
abbrev pub IsMomentAfter : ℕ → ℕ → Result Reply Refusal → ℕ → Type 0
IsMomentAfter old m (Ok reply) new = (old ≤ m) × (new ≡ m)
IsMomentAfter old m (Err cause) new = new ≡ old
