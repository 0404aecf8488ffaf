use Rattle.nt_look.proofs.Searching.{for_good}
use Rattle.nt_look.proofs.laws.hangs_are_for_good.Goals as goal

pub returns : goal.returns
returns c = λ d plan p lawful is hangs. for_good d plan p lawful is hangs
