use Rattle.nt_protocols.specs.Threads.{after_all}
use Rattle.nt_protocols.specs.Word.{step, opening}
use Rattle.nt_protocols.proofs.Telling.{always, are_told}
use Rattle.nt_protocols.proofs.word.grants_are_told.Goals as goal

pub returns : goal.returns
returns c = λ es can. are_told (after_all step opening es) (always es can)
