use Rattle.std.proofs.Common.{◌∙◌, sym, ap, length}
use Rattle.nt_marks.proofs.LevelLemmas.{length-marks}
use Rattle.nt_marks.proofs.marks.Marks.places.Goals as goal

pub returns : goal.returns
returns c = sym (length-marks c.self.inside.words.items 0 c.self.inside.places) ∙ ap length c.self.view_is
