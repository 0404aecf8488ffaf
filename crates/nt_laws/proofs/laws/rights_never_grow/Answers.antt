use Rattle.nt_laws.proofs.RunsAsLives.{run_rights}
use Rattle.nt_laws.proofs.laws.rights_never_grow.Goals as goal

pub returns : goal.returns
returns c = λ n before turns mid s run part o access there has. run_rights n before turns mid s run part o access there has
