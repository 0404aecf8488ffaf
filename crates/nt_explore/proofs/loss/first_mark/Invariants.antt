use Rattle.std.proofs.Common.{◌≡◌, ◌<◌, ℕ, false}
use Rattle.nt_look.specs.Hangs.{marked}
use Rattle.nt_explore.proofs.loss.first_mark.Given as goal

abbrev pub invariant-loop-at : goal.invariant-loop-at
invariant-loop-at l = (i : ℕ) → i < l.at → marked l.marks i ≡ false
