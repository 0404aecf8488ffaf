use Rattle.nt_calls.specs.State.{opening}
use Rattle.nt_laws.proofs.Following.{stages_follow}
use Rattle.nt_laws.proofs.Lifelong.{opening_whole, stages_whole}
use Rattle.nt_laws.proofs.lives.rights_never_grow_though_moved.Goals as goal

pub returns : goal.returns
returns c = λ n before part mid s life stages o access below none has. stages_follow part mid s (stages_whole before (opening n) mid (opening_whole n) life) stages o access below none has
