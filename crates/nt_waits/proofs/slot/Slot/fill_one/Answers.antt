use Rattle.nt_waits.proofs.BeginLemmas.{one_once}
use Rattle.nt_waits.proofs.slot.Slot.fill_one.Goals as goal

pub link-requires-clause-apart : goal.link-requires-clause-apart
link-requires-clause-apart c = one_once c.args.object
