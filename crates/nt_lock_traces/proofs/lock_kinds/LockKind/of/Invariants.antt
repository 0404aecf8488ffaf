use Rattle.std.proofs.Common.{◌≢◌, ℕ, ◌<◌, get_or}
use Rattle.nt_lock_traces.specs.LockNames.{kind_text}
use Rattle.nt_lock_traces.proofs.LockKinds.{any_kind}
use Rattle.nt_lock_traces.proofs.lock_kinds.LockKind.of.Given as goal

abbrev pub invariant-loop-kind : goal.invariant-loop-kind
invariant-loop-kind l = (k : ℕ) → k < l.kind-index → kind_text (get_or l.kind-items k any_kind) ≢ l.name
