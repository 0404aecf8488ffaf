use Rattle.nt_marks.proofs.BitLemmas.{bit_cleared}
use Rattle.nt_marks.proofs.bits.clear_bit.Goals as goal

pub returns-clause-changes : goal.returns-clause-changes
returns-clause-changes c = bit_cleared c.args.words.now c.args.bit c.requires
