-- Who is woken after a call or tick.
use Rattle.std.specs.Prelude.{◌≡◌, ◌+◌, ℕ, zero, suc, Bool, List, [], ◌∷◌, Option, Some, None, IfSome, MatchOption, slice_get}
use Rattle.nt_calls.specs.declared.call.Grant.{Grant}
use Rattle.nt_calls.specs.Moves.{one_if}
use Rattle.nt_front.specs.declared.bell.Bell.{Bell}
use Rattle.nt_front.specs.declared.wake.ToWake.{ToWake}
use Rattle.nt_front.specs.declared.wake.Unwoken.{Unwoken}
use Rattle.nt_front.specs.Marks.{AreMarks}

-- exactly the threads that have one of these grants are to be woken
abbrev pub Wakes : ToWake → List Grant → Type 0
Wakes to_wake grants = MatchOption to_wake.marks (grants ≡ []) (λ marks. AreMarks marks grants)

-- the waits that a call or tick ended, and nobody was woken of yet
abbrev pub granted_of : Unwoken → List Grant
granted_of unwoken = unwoken.left.value.grants

-- how many of the first n threads have a mark
abbrev pub marked_below : ℕ → List Bool → ℕ
marked_below zero marks = 0
marked_below (suc n) [] = 0
marked_below (suc n) (marked ∷ marks) = one_if marked + marked_below n marks

-- how many bells are rung for these threads, if there are n
abbrev pub rings_of : Option (List Bool) → ℕ → ℕ
rings_of None n = 0
rings_of (Some marks) n = marked_below n marks

abbrev pub rings_for : ToWake → ℕ → ℕ
rings_for to_wake n = rings_of to_wake.marks n

-- each bell is that of the thread whose number is its place
abbrev pub AreNumbered : List Bell → Type 0
AreNumbered bells = (i : ℕ) → IfSome (slice_get bells i) (λ bell. bell.thread ≡ i)
