use Rattle.nt_marks.proofs.FewLemmas.{unmarked, two_empty}
use Rattle.nt_marks.proofs.few.FewMarks.none.Goals as goal

pub invariant_of-result : goal.invariant_of-result
invariant_of-result c = two_empty

pub returns : goal.returns
returns c = unmarked 256
