use Rattle.std.proofs.Common.{◌∙◌, ap, unwrap_or, length, Option, ℕ}
use Rattle.nt_lines.proofs.Splitting.{place_or_len}
use Rattle.nt_lines.proofs.words.word_end.Goals as goal

pub returns-clause-place : goal.returns-clause-place
returns-clause-place c = c.unwrap_or.ensures ∙ ap (λ (o : Option ℕ). unwrap_or o (length c.args.text.now)) c.first_gap.ensures.place ∙ place_or_len c.args.text.now
