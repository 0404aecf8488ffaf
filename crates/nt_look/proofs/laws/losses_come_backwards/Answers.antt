use Rattle.nt_look.proofs.Searching.{loss_forth, loss_back}
use Rattle.nt_look.proofs.laws.losses_come_backwards.Goals as goal

pub returns : goal.returns
returns c = λ plan p t. (loss_forth plan p t, loss_back plan p t)
