use Rattle.nt_lines.proofs.Places.{position_is}
use Rattle.nt_hangs.specs.Watching.{is_zero}
use Rattle.nt_hangs.proofs.input.first_zero.Goals as goal

pub returns-clause-place : goal.returns-clause-place
returns-clause-place c = position_is is_zero c.args.bytes.now c.memchr.result c.memchr.ensures
