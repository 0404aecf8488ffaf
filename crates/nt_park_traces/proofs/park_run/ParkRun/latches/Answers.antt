use Rattle.std.proofs.Common.{ap}
use Rattle.nt_protocols.specs.Parking as Protocol
use Rattle.nt_park_traces.proofs.park_run.ParkRun.latches.Goals as goal

pub returns : goal.returns
returns c = (
  ap (λ (s : Protocol.State). record s { latch = c.args.latch }) c.goes.ensures.0,
  c.goes.ensures.1,
)
