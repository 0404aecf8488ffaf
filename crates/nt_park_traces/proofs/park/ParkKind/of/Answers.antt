use Rattle.std.proofs.Common.{◌≢◌}
use Rattle.nt_park_traces.specs.declared.park.ParkKind.{ParkKind}
use Rattle.nt_park_traces.specs.ParkNames.{kind_text}
use Rattle.nt_park_traces.proofs.ParkKinds.{of_each_kind}
use Rattle.nt_park_traces.proofs.park.ParkKind.of.Goals as goal

pub returns-clause-none : goal.returns-clause-none
returns-clause-none c found =
    of_each_kind (λ (kind : ParkKind). kind_text kind ≢ c.args.name.now) c.loop-kind.kind-index c.loop-kind-test.false c.loop-kind.invariant
