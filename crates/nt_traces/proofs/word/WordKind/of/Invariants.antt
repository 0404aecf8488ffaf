use Rattle.std.proofs.Common.{◌≢◌, ℕ, ◌<◌, get_or}
use Rattle.nt_traces.specs.WordNames.{kind_text}
use Rattle.nt_traces.specs.declared.word.WordKind.{WordKind}
use Rattle.nt_traces.proofs.word.WordKind.of.Given as goal

abbrev pub invariant-loop-kind : goal.invariant-loop-kind
invariant-loop-kind l = (k : ℕ) → k < l.kind-index → kind_text (get_or l.kind-items k WordKind.Enters) ≢ l.name
