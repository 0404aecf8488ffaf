use Rattle.nt_apart.proofs.Unawaited.{two_calls}
use Rattle.nt_apart.proofs.steps.calls_on_two_objects_commute.Goals as goal

pub returns : goal.returns
returns c = λ s mid new t u a b ra rb ga gb here. two_calls s mid new t u a b ra rb ga gb here
