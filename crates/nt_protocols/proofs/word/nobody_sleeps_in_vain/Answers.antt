use Rattle.nt_protocols.specs.Threads.{after_all}
use Rattle.nt_protocols.specs.Word.{step, opening}
use Rattle.nt_protocols.proofs.Telling.{always, in_vain}
use Rattle.nt_protocols.proofs.word.nobody_sleeps_in_vain.Goals as goal

pub returns : goal.returns
returns c = λ es can. in_vain (after_all step opening es) (always es can)
