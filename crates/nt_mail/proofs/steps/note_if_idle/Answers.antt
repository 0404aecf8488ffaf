use Rattle.std.proofs.Common.{◌≡◌, ◌+◌, ℕ, rules, subst, sym, ap, ◌∙◌}
use Rattle.nt_calls.specs.Moves.{one_if}
use Rattle.nt_mail.specs.Entries.{IsOwn, is_armed, arms}
use Rattle.nt_mail.proofs.Noting.{notes_as}
use Rattle.nt_mail.proofs.steps.note_if_idle.Goals as goal

pub load-word-requires : goal.load-word-requires
load-word-requires g c =
    let e = c.args.entry.now in
    let log = c.args.seat.now.me.0.written in
    let back = sym c.requires.caller in (
      search rules,
      search rules,
      notes_as _ _ _ e _ _ c.requires.view c.requires.entry.0
          (subst (λ (t : ℕ). IsOwn t e) back c.requires.entry.1)
          (ap (λ (t : ℕ). t + 1) c.requires.caller ∙ sym c.word_of.ensures)
          (subst (λ (t : ℕ). one_if (is_armed t log) + one_if (arms e) ≡ 0) back c.requires.unarmed),
    )
