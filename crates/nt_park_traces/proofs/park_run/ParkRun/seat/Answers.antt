use Rattle.std.proofs.lemmas.List.{get_or_read}
use Rattle.nt_park_traces.specs.ParkTrace.{outside}
use Rattle.nt_park_traces.proofs.park_run.ParkRun.seat.Goals as goal

pub returns : goal.returns
returns c = get_or_read c.args.self.now.seats.items _ _ c.requires c.index.ensures outside
