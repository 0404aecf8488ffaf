use Rattle.std.proofs.Common.{sym, ◌∙◌}
use Rattle.nt_status.proofs.Lists.{contains_front}
use Rattle.nt_tables.proofs.owners.Owners.pop.Goals as goal

pub remove-requires : goal.remove-requires
remove-requires c = contains_front _ c.in_ok-first.first (sym c.first.ensures ∙ c.in_ok-first.was)
