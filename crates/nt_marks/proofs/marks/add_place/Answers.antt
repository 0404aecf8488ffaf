use Rattle.std.proofs.Common.{arith}
use Rattle.nt_marks.proofs.LevelLemmas.{levels_added, marks_added}
use Rattle.nt_marks.proofs.marks.add_place.Goals as goal

pub returns-clause-levels : goal.returns-clause-levels
returns-clause-levels c = levels_added _ _ _ _ _ c.args.place c.requires.levels c.requires.few c.reach_word.ensures c.reach_word-2.ensures

pub returns-clause-added : goal.returns-clause-added
returns-clause-added c = marks_added _ _ c.args.place c.reach_word.ensures.same (c.requires.levels.none_past c.args.place (omega arith))
