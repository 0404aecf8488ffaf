use Rattle.std.proofs.Common.{◌≡◌, ◌*◌, length}
use Rattle.nt_explore.specs.Levels.{IsColumn}
use Rattle.nt_explore.proofs.loss.waits_of.Given as goal

abbrev pub invariant-loop-state : goal.invariant-loop-state
invariant-loop-state l =
    (length l.column.items ≡ l.state)
    × (length l.waits ≡ l.threads * l.states → IsColumn l.waits l.column.items l.threads l.state l.thread)
