use Rattle.nt_look.proofs.Searching.{steps_counted}
use Rattle.nt_look.proofs.laws.steps_are_counted.Goals as goal

pub returns : goal.returns
returns c = λ plan p q lanes count order. steps_counted plan lanes p q count order
