use Rattle.nt_lines.specs.Words.{is_semicolon}
use Rattle.nt_lines.proofs.Places.{position_is}
use Rattle.nt_lines.proofs.words.first_semicolon.Goals as goal

pub returns-clause-place : goal.returns-clause-place
returns-clause-place c = position_is is_semicolon c.args.line.now c.memchr.result c.memchr.ensures
