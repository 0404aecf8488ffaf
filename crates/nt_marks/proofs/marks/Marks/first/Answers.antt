use Rattle.nt_marks.proofs.LevelLemmas.{none_at_top, first_marked}
use Rattle.nt_marks.proofs.marks.Marks.first.Goals as goal

pub returns-then-self-eq0 : goal.returns-then-self-eq0
returns-then-self-eq0 c = rw (← c.self.view_is) (none_at_top _ _ _ _ c.self.invariant c.if-self-eq0.true)

pub returns : goal.returns
returns c = rw (← c.self.view_is) (first_marked _ _ _ _ c.lowest_bit.result c.self.invariant (rw (← c.deref-2.ensures.value) c.lowest_bit.ensures.lowest))
