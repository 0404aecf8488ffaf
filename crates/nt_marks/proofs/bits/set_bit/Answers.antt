use Rattle.nt_marks.proofs.BitLemmas.{bit_set}
use Rattle.nt_marks.proofs.bits.set_bit.Goals as goal

pub returns : goal.returns
returns c = bit_set c.args.words.now c.args.bit c.requires
