use Rattle.nt_apart.proofs.Quiet.{two_changes}
use Rattle.nt_apart.proofs.steps.changes_of_two_objects_commute.Goals as goal

pub returns : goal.returns
returns c = λ s mid new t u a b ra rb ga gb here. two_changes s mid new t u a b ra rb ga gb here
