-- The place of one thread's wait. No public clause cites this module.
use Rattle.std.specs.Prelude.{◌≡◌, ℕ, Bool, true, false, Option, Some, None, IsSomeAnd, length}
use Rattle.nt_waits.specs.declared.wait.Wait.{Wait}
use Rattle.nt_waits.specs.declared.pending.Pending.{Pending}
use Rattle.nt_waits.specs.Pending.{IsCopy}
use Rattle.nt_waits.specs.Queues.{Lists}
use Rattle.nt_waits.specs.Steps.{IsJoined, IsUnlinked}

-- this wait, where it pends
abbrev pub kept_where : Bool → Pending → Option Pending
kept_where false pending = None
kept_where true pending = Some pending

-- both places are empty, or both hold the same
abbrev pub IsSlotCopy : Option Pending → Option Pending → Type 0
IsSlotCopy None copy = copy ≡ None
IsSlotCopy (Some pending) copy = IsSomeAnd copy (IsCopy pending)

-- the place holds the thread's wait, which has a block at the end of each of its queues
abbrev pub IsFilled : Lists → Lists → ℕ → Wait → Option Pending → Type 0
IsFilled old new thread wait slot =
    (p : Pending)
    × (slot ≡ Some p)
    × (p.wait ≡ wait)
    × IsJoined old new thread wait.objects p.numbers.items (length wait.objects)

-- the blocks of this wait have left their queues
abbrev pub HasLeft : Lists → Lists → Pending → Type 0
HasLeft old new pending = IsUnlinked old new pending.wait.objects pending.numbers.items (length pending.wait.objects)
