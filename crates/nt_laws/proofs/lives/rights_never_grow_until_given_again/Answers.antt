use Rattle.nt_calls.specs.State.{opening}
use Rattle.nt_laws.proofs.Numbers.{opening_enough}
use Rattle.nt_laws.proofs.Staging.{stages_rights, stages_enough}
use Rattle.nt_laws.proofs.lives.rights_never_grow_until_given_again.Goals as goal

pub returns : goal.returns
returns c = λ n before part mid s life stages o access below none has. stages_rights part mid s (stages_enough before (opening n) mid (opening_enough n) life) stages o access below none has
