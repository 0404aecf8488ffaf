use Rattle.std.proofs.Common.{sym}
use Rattle.nt_lines.proofs.Splitting.{no_word, taken_word}
use Rattle.nt_lines.proofs.words.first_word.Goals as goal

pub returns-in_err-start : goal.returns-in_err-start
returns-in_err-start c = rw c.from_residual.ensures (no_word c.args.text.now (sym c.in_err-start.ensures.place))

pub returns : goal.returns
returns c = taken_word c.args.text.now c.in_ok-start.start c.word_end-end.result (sym c.in_ok-start.ensures.place) c.word_end-end.ensures.place
