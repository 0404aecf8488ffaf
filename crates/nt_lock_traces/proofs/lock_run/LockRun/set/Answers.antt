use Rattle.nt_protocols.proofs.Putting.{set_is}
use Rattle.nt_lock_traces.specs.LockTrace.{outside, seat_of}
use Rattle.nt_lock_traces.proofs.lock_run.LockRun.set.Goals as goal

pub returns-clause-seats : goal.returns-clause-seats
returns-clause-seats c = set_is seat_of c.args.self.now.seats.items c.args.t c.args.seat outside c.requires
