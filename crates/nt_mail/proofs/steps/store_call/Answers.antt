use Rattle.std.proofs.Common.{◌≡◌, ◌+◌, ℕ, suc, length, rules, arith, subst, sym, ap, ◌∙◌}
use Rattle.nt_calls.specs.Moves.{one_if}
use Rattle.nt_mail.specs.Entries.{IsOwn, is_armed, arms}
use Rattle.nt_mail.specs.Words.{called_word}
use Rattle.nt_mail.proofs.Writing.{calls_as}
use Rattle.nt_mail.proofs.steps.store_call.Goals as goal

pub store-requires : goal.store-requires
store-requires g c =
    let e = c.args.entry.now in
    let log = c.args.seat.now.me.0.written in
    let back = sym c.requires.caller in
    let next : c.args.number ≡ suc (length log) = omega arith in (
      search rules,
      search rules,
      calls_as _ _ _ _ e _ c.args.armed _ c.requires.view c.requires.entry.0
          (subst (λ (t : ℕ). IsOwn t e) back c.requires.entry.1)
          (ap (λ (t : ℕ). t + 1) c.requires.caller ∙ sym c.word_of.ensures)
          (subst (λ (t : ℕ). one_if (is_armed t log) + one_if (arms e) ≡ one_if c.args.armed) back c.requires.armed)
          (c.call_word-word.ensures ∙ ap (called_word c.args.armed) next),
    )
