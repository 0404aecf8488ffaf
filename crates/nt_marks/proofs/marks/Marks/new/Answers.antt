use Rattle.std.proofs.Common.{refl}
use Rattle.nt_marks.specs.Levels.{marks_from}
use Rattle.nt_marks.proofs.LevelLemmas.{levels_empty}
use Rattle.nt_marks.proofs.marks.Marks.new.Goals as goal

pub invariant_of-result : goal.invariant_of-result
invariant_of-result c = rw (c.new.ensures.items, c.new-2.ensures.items) levels_empty

pub returns : goal.returns
unfolding marks_from
returns c = refl
