use Rattle.std.proofs.Common.{◌≢◌}
use Rattle.nt_traces.specs.declared.word.WordKind.{WordKind}
use Rattle.nt_traces.specs.WordNames.{kind_text}
use Rattle.nt_traces.proofs.WordKinds.{of_each_kind}
use Rattle.nt_traces.proofs.word.WordKind.of.Goals as goal

pub returns-clause-none : goal.returns-clause-none
returns-clause-none c found =
    of_each_kind (λ (kind : WordKind). kind_text kind ≢ c.args.name.now) c.loop-kind.kind-index c.loop-kind-test.false c.loop-kind.invariant
