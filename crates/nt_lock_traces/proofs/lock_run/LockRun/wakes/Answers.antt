use Rattle.std.proofs.Common.{◌∙◌, ap}
use Rattle.nt_protocols.specs.Lock as Lock
use Rattle.nt_lock_traces.specs.LockTrace.{place_of}
use Rattle.nt_lock_traces.proofs.lock_run.LockRun.wakes.Goals as goal

pub returns : goal.returns
returns c =
    (c.goes-2.ensures.0 ∙ ap (λ (s : Lock.State). Lock.goes s c.args.t (place_of c.args.to)) c.goes.ensures.0, c.goes-2.ensures.1 ∙ c.goes.ensures.1)
