use Rattle.std.proofs.Common.{◌∙◌, ap, unwrap_or, length, Option, ℕ}
use Rattle.nt_decisions.proofs.Lines.{place_or_len}
use Rattle.nt_decisions.proofs.file.line_end.Goals as goal

pub returns-clause-place : goal.returns-clause-place
returns-clause-place c = c.unwrap_or.ensures ∙ ap (λ (o : Option ℕ). unwrap_or o (length c.args.text.now)) c.first_end.ensures.place ∙ place_or_len c.args.text.now
