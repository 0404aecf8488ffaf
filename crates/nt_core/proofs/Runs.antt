-- Runs, one after another.
use Rattle.std.proofs.Common.{List, [], ◌∷◌, ◌++◌, subst}
use Rattle.nt_calls.specs.State.{State}
use Rattle.nt_calls.specs.Runs.{Turn, Turns}

-- turns that go on where others end
pub turns-append : (a b c : State) (first more : List Turn) → Turns a first b → Turns b more c → Turns a (first ++ more) c
turns-append a b c [] more p q = subst (λ (s : State). Turns s more c) p q
turns-append a b c (turn ∷ turns) more p q = (p.0, p.1, turns-append p.0 b c turns more p.2 q)
