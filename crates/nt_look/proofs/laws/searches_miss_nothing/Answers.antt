use Rattle.nt_look.proofs.Searching.{come_to}
use Rattle.nt_look.proofs.laws.searches_miss_nothing.Goals as goal

pub returns : goal.returns
returns c = λ plan start met closed none lanes p order hangs. none p (come_to plan start met closed lanes start p closed.begins order) hangs
