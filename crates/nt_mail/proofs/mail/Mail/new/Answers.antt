use Rattle.std.proofs.Common.{◌≡◌, ◌+◌, ap, ◌∙◌, rules}
use Rattle.std.specs.Prelude.{replicate, slice_index}
use Rattle.nt_mail.proofs.Seating.{begins, zeros}
use Rattle.nt_mail.proofs.mail.Mail.new.Goals as goal

pub of_words-requires : goal.of_words-requires
of_words-requires c =
    let zero_words : c.as_slice.result.now ≡ replicate (c.args.threads + 1) 0 = search rules in
    begins _ _ (λ x. ap (λ words. slice_index words x) zero_words ∙ zeros (c.args.threads + 1) x) (search rules)
