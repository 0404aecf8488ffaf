use Rattle.std.proofs.Common.{◌≡◌}
use Rattle.nt_machine.specs.Dispatcher.{state}
use Rattle.nt_lanes.specs.Lanes.{any_below, has_apc}
use Rattle.nt_lanes.proofs.alike.has_apcs.Given as goal

abbrev pub invariant-loop-thread : goal.invariant-loop-thread
invariant-loop-thread l = l.found ≡ any_below (has_apc (state l.core)) l.thread
