use Rattle.std.proofs.Common.{◌<◌, ◌^◌, slice_index, rules}
use Rattle.nt_marks.proofs.BitLemmas.{bit_found}
use Rattle.nt_marks.proofs.bits.lowest_bit.Goals as goal

pub returns-clause-lowest : goal.returns-clause-lowest
returns-clause-lowest c =
    let fits = c.type_inv.words c.args.word in
    let small : slice_index c.args.words.now c.args.word < 2 ^ 64 = search (rules, fits) in
    bit_found c.args.words.now c.args.word c.requires.here small c.requires.before
