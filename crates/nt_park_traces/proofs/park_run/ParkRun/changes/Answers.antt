use Rattle.std.proofs.Common.{ap}
use Rattle.nt_protocols.specs.Parking as Protocol
use Rattle.nt_park_traces.proofs.park_run.ParkRun.changes.Goals as goal

pub returns : goal.returns
returns c = (
  ap (λ (s : Protocol.State). record s { value = c.args.value }) c.goes.ensures.0,
  c.goes.ensures.1,
)
