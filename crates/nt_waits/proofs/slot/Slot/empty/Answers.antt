use Rattle.std.proofs.Common.{sym, ◌∙◌}
use Rattle.nt_waits.proofs.EndedLemmas.{pending_kept}
use Rattle.nt_waits.proofs.TableLemmas.{HasNumber-link}
use Rattle.nt_waits.proofs.slot.Slot.empty.Goals as goal

pub unlink_all-requires-clause-linked : goal.unlink_all-requires-clause-linked
unlink_all-requires-clause-linked c j below =
    let pending = c.self.inside.pending in
    let is = pending_kept c.self.inside.pends pending (rw c.self.view_is c.requires.there) in
    let mine = c.requires.linked pending (sym c.self.view_is ∙ is) in
    rw (c.as_slice.ensures, c.as_slice-2.ensures) (HasNumber-link _ _ (mine.1.linked j (rw c.as_slice.ensures at below)))
