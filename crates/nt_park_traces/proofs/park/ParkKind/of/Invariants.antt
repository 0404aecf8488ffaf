use Rattle.std.proofs.Common.{◌≢◌, ℕ, ◌<◌, get_or}
use Rattle.nt_park_traces.specs.ParkNames.{kind_text}
use Rattle.nt_park_traces.specs.declared.park.ParkKind.{ParkKind}
use Rattle.nt_park_traces.proofs.park.ParkKind.of.Given as goal

abbrev pub invariant-loop-kind : goal.invariant-loop-kind
invariant-loop-kind l = (k : ℕ) → k < l.kind-index → kind_text (get_or l.kind-items k ParkKind.Counts) ≢ l.name
