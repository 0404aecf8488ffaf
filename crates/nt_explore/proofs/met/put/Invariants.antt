use Rattle.std.proofs.Common.{◌≡◌, length}
use Rattle.nt_explore.specs.Walk.{NoneFree}
use Rattle.nt_explore.proofs.met.put.Given as goal

abbrev pub invariant-loop-step : goal.invariant-loop-step
invariant-loop-step l = (l.slots ≡ l.fn.slots) × NoneFree l.fn.slots (length l.fn.slots) l.hash l.step
