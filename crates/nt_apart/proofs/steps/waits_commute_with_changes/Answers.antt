use Rattle.nt_apart.proofs.Unawaited.{change_and_wait}
use Rattle.nt_apart.proofs.steps.waits_commute_with_changes.Goals as goal

pub returns : goal.returns
returns c = λ s mid new t u a wait ra rb ga gb two. change_and_wait s mid new t u a wait ra rb ga gb two
