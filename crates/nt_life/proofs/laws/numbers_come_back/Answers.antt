use Rattle.nt_life.proofs.Returning.{comes_back}
use Rattle.nt_life.proofs.laws.numbers_come_back.Goals as goal

pub returns : goal.returns
returns c = comes_back
