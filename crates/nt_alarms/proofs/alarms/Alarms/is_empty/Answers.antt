use Rattle.std.proofs.Common.{rules, sym, ap, ◌∙◌, ◌≡◌, length}
use Rattle.nt_alarms.proofs.HeapLemmas.{length-alarms}
use Rattle.nt_alarms.proofs.alarms.Alarms.is_empty.Goals as goal

pub returns : goal.returns
returns c =
    let count : length c.args.self.now ≡ length c.self.inside.moments.items =
    ap length (sym c.self.view_is) ∙ length-alarms _ _ _ c.self.invariant.sound.ranks_too in
    search rules
