use Rattle.std.proofs.Common.{◌≢◌, ℕ, ◌<◌, get_or}
use Rattle.nt_lock_traces.specs.LockTrace.{place_of, outside}
use Rattle.nt_lock_traces.proofs.lock_run.LockRun.nobody_is_at.Given as goal

abbrev pub invariant-loop-seat : goal.invariant-loop-seat
invariant-loop-seat l = (k : ℕ) → k < l.seat-index → place_of (get_or l.self.seats.items k outside).place ≢ place_of l.place
