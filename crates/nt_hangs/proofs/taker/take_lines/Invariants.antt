use Rattle.std.proofs.Common.{length}
use Rattle.nt_hangs.specs.Steps.{TakenSoFar}
use Rattle.nt_hangs.proofs.taker.take_lines.Given as goal

abbrev pub invariant-loop-rest : goal.invariant-loop-rest
invariant-loop-rest g l = TakenSoFar g.T.TakeLine.IsReady g.T.TakeLine.Takes l.input l.rest l.last l.count l.fn.taker l.taker

abbrev pub decreases-loop-rest : goal.decreases-loop-rest
decreases-loop-rest g l = length l.rest
