use Rattle.std.proofs.Common.{◌≡◌}
use Rattle.nt_threads.specs.Plans.{workers}
use Rattle.nt_threads.proofs.plan.worker_handles.Given as goal

abbrev pub invariant-loop-before : goal.invariant-loop-before
invariant-loop-before l = l.handles ≡ workers l.before
