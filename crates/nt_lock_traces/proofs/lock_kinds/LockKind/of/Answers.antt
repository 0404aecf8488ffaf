use Rattle.std.proofs.Common.{◌≢◌}
use Rattle.nt_lock_traces.specs.declared.lock_kinds.LockKind.{LockKind}
use Rattle.nt_lock_traces.specs.LockNames.{kind_text}
use Rattle.nt_lock_traces.proofs.LockKinds.{of_each_kind}
use Rattle.nt_lock_traces.proofs.lock_kinds.LockKind.of.Goals as goal

pub returns-clause-none : goal.returns-clause-none
returns-clause-none c found =
    of_each_kind (λ (kind : LockKind). kind_text kind ≢ c.args.name.now) c.loop-kind.kind-index c.loop-kind-test.false c.loop-kind.invariant
