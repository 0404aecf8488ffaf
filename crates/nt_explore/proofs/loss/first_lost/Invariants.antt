use Rattle.std.proofs.Common.{◌≡◌, ℕ, List, Option, length}
use Rattle.nt_look.specs.Orders.{Plan, Point}
use Rattle.nt_explore.specs.declared.met.Visit.{Visit}
use Rattle.nt_explore.specs.Levels.{AreLooked, AreEdges, IsFirstLoss}
use Rattle.nt_explore.proofs.loss.first_lost.Given as goal

abbrev pub invariant-loop-thread : goal.invariant-loop-thread
invariant-loop-thread l = (plan : Plan) (kinds : List ℕ) (start : Point) (visits : List Visit) (first : Option ℕ) (point : ℕ → Point)
    → length visits ≡ l.states → AreLooked plan kinds start visits l.states first point → AreEdges plan kinds l.edges.threads l.edges.pairs.items l.edges.waits.items l.states l.states point
    → IsFirstLoss plan point l.states l.thread l.best
